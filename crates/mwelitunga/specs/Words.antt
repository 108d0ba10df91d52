-- The answers of reader, writer, bounds, verifier, search and planner as numbers. Assumes nothing.
use Rattle.std.specs.Prelude.{◌≡◌, Bool, cond, List, [], ◌∷◌, ℕ, length}
use Rattle.model.specs.Lists.{written}
use Rattle.model.specs.Refusals.{Answer, answered, refused}
use Rattle.model.specs.Writer.{Fields, write_file, buffer_after}
use Rattle.model.specs.Bounds.{Lower, BoundsIs}
use Rattle.model.specs.Search.{Outcome, found, ended, SearchIs, list_after, rows_after}
use Rattle.model.specs.Verifier.{Verdict, is_legal, breach, clash}
use Rattle.loop_file.specs.Read.{Counts}
use Rattle.loop_writer.specs.Answer.{bytes_in}
use Rattle.planner.specs.Answer.{PlanEnd, scheduled, unscheduled, PlansIs, plan_list, plan_rows}
use Rattle.refusals.specs.Told.{told}
use Rattle.refusals.specs.declared.Refusal as code
use Rattle.search.specs.Unsolved.{ended_number, ended_detail, ended_probes}
use Rattle.search.specs.declared.Unsolved.{Unsolved}
use Rattle.replay.specs.Words.{Gives}

-- a refusal: its number is returned, its detail written
pub record RefusalGiven (c : code.Refusal) (r : ℕ) (before after : List ℕ) : Type 0 where
  pub number : r ≡ (told c).number
  pub words : after ≡ written 0 ((told c).detail ∷ 0 ∷ 0 ∷ 0 ∷ 0 ∷ 0 ∷ 0 ∷ 0 ∷ []) before

-- an end without a schedule: the same with the probes that were made
pub record UnsolvedGiven (u : Unsolved) (r : ℕ) (before after : List ℕ) : Type 0 where
  pub number : r ≡ ended_number u
  pub words : after ≡ written 0 (ended_detail u ∷ 0 ∷ 0 ∷ 0 ∷ 0 ∷ ended_probes u ∷ 0 ∷ 0 ∷ []) before

-- operations, uses, dependences
abbrev pub count_words : Counts → List ℕ
count_words c = c.ops ∷ c.uses ∷ c.deps ∷ 0 ∷ 0 ∷ 0 ∷ 0 ∷ []

-- a number of bytes
abbrev pub byte_words : ℕ → List ℕ
byte_words n = n ∷ 0 ∷ 0 ∷ 0 ∷ 0 ∷ 0 ∷ 0 ∷ []

-- resource and recurrence bound
abbrev pub lower_words : Lower → List ℕ
lower_words b = b.resource ∷ b.recurrence ∷ 0 ∷ 0 ∷ 0 ∷ 0 ∷ 0 ∷ []

-- legal, a broken dependence, a conflict with its place
abbrev pub verdict_words : Verdict → List ℕ
verdict_words is_legal = 0 ∷ 0 ∷ 0 ∷ 0 ∷ 0 ∷ 0 ∷ 0 ∷ []
verdict_words (breach e) = 1 ∷ e ∷ 0 ∷ 0 ∷ 0 ∷ 0 ∷ 0 ∷ []
verdict_words (clash a b n) = 2 ∷ a ∷ b ∷ n ∷ 0 ∷ 0 ∷ 0 ∷ []

-- the file of lists of numbers: the answer is the model's, and so is what the buffer then holds
pub record WriteGiven (d : Fields) (buffer before : List ℕ) (r : ℕ) (buffer' after : List ℕ) : Type 0 where
  pub gives : Gives (bytes_in (write_file d (length buffer))) byte_words r before after
  pub buffer_is : buffer' ≡ buffer_after (write_file d (length buffer)) buffer

-- the bounds of a file
pub record BoundsGiven (f : List ℕ) (r : ℕ) (before after : List ℕ) : Type 0 where
  pub answer : Answer Lower
  pub is : BoundsIs f answer
  pub gives : Gives answer lower_words r before after

-- ---- the search

-- what is returned
abbrev pub outcome_number : Answer Outcome → ℕ
outcome_number (answered (found s)) = 0
outcome_number (answered (ended x count)) = x.number
outcome_number (refused x) = x.number

-- the eight numbers
abbrev pub outcome_words : Answer Outcome → List ℕ
outcome_words (answered (found s)) = 0 ∷ s.ii ∷ s.bounds.resource ∷ s.bounds.recurrence ∷ s.stages ∷ s.count ∷ 0 ∷ 0 ∷ []
outcome_words (answered (ended x count)) = x.detail ∷ 0 ∷ 0 ∷ 0 ∷ 0 ∷ count ∷ 0 ∷ 0 ∷ []
outcome_words (refused x) = x.detail ∷ 0 ∷ 0 ∷ 0 ∷ 0 ∷ 0 ∷ 0 ∷ 0 ∷ []

-- the search for a file and a request: the answer is the model's, and so is what list, table and answer then hold
pub record SearchGiven (f : List ℕ) (cap horizon budget : ℕ) (list rows before : List ℕ) (r : ℕ) (list' rows' after : List ℕ) : Type 0 where
  pub answer : Answer Outcome
  pub is : SearchIs f (record { cap = cap; horizon = horizon; budget = budget }) (length list) (length rows) answer
  pub number : r ≡ outcome_number answer
  pub words : after ≡ written 0 (outcome_words answer) before
  pub list_is : list' ≡ list_after answer list
  pub rows_are : rows' ≡ rows_after answer rows

-- ---- the plan

-- a yes or no as a number
abbrev pub flag : Bool → ℕ
flag b = cond b 1 0

-- what is returned
abbrev pub plan_number : Answer PlanEnd → ℕ
plan_number (answered (scheduled p)) = 0
plan_number (answered (unscheduled x count)) = x.number
plan_number (refused x) = x.number

-- the eight numbers: the probes of 10 and 11 stand where the search has its own
abbrev pub plan_words : Answer PlanEnd → List ℕ
plan_words (answered (scheduled p)) = 0 ∷ p.ii ∷ p.bounds.resource ∷ p.bounds.recurrence ∷ p.stages ∷ flag p.smallest ∷ 0 ∷ 0 ∷ []
plan_words (answered (unscheduled x count)) = x.detail ∷ 0 ∷ 0 ∷ 0 ∷ 0 ∷ count ∷ 0 ∷ 0 ∷ []
plan_words (refused x) = x.detail ∷ 0 ∷ 0 ∷ 0 ∷ 0 ∷ 0 ∷ 0 ∷ 0 ∷ []

-- the plan for a file and a request: the answer is one that the planner may give, and list, table and answer then hold what belongs to it
pub record PlanGiven (f : List ℕ) (cap horizon budget : ℕ) (list rows before : List ℕ) (r : ℕ) (list' rows' after : List ℕ) : Type 0 where
  pub answer : Answer PlanEnd
  pub is : PlansIs f (record { cap = cap; horizon = horizon; budget = budget }) (length list) (length rows) answer
  pub number : r ≡ plan_number answer
  pub words : after ≡ written 0 (plan_words answer) before
  pub list_is : list' ≡ plan_list answer list
  pub rows_are : rows' ≡ plan_rows answer rows
