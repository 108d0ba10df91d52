-- Demand 2, as one statement: what a search that was made answers is right, and each end of it is said exactly where it is true. None of these words mentions the list of words by which the model defines the answer. Assumes nothing.
use Rattle.std.specs.Prelude.{◌≡◌, true, false, List, ◌⊎◌, ℕ, suc, ◌-◌, ◌≤◌, ◌<◌, max, length, Result}
use Rattle.std.proofs.Math.Option.{none}
use Rattle.model.specs.Lists.{up_from, Below, sum_of}
use Rattle.model.specs.Refusals.{Refusal, first_refusal, Answer, answered}
use Rattle.model.specs.Loop.{Loop, size}
use Rattle.model.specs.File.{loop_of}
use Rattle.model.specs.Legality.{legal}
use Rattle.model.specs.Bounds.{Lower, LowerIs}
use Rattle.model.specs.Search.{not_after, probes, stage_count, Request, search_checks, Schedule, Outcome, found, ended}
use Rattle.search.specs.Answer.{answer_of, Searches}
use Rattle.search.specs.declared.Solution.{Solution}
use Rattle.search.specs.declared.Unsolved.{Unsolved}

-- ---- words

-- one start an operation, each below the horizon
abbrev pub Listed : Loop → Request → List ℕ → Type 0
Listed l q xs = (length xs ≡ size l) × Below q.horizon xs

-- no such list is legal at jj
abbrev pub NoneAt : Loop → Request → ℕ → Type 0
NoneAt l q jj = (xs : List ℕ) → Listed l q xs → legal l jj xs ≡ false

-- the probes of the intervals from lo on that are below hi
unfoldable pub spent_below : Loop → Request → ℕ → ℕ → ℕ
spent_below l q lo hi = sum_of (λ jj. probes (legal l jj) q.horizon (size l)) (up_from lo (hi - lo))

-- 10, at the cap
abbrev pub ten : Request → Refusal
ten q = record { number = 10; detail = q.cap }

-- 11, at an interval
abbrev pub eleven : ℕ → Refusal
eleven ii = record { number = 11; detail = ii }

-- the larger bound
abbrev pub larger : Lower → ℕ
larger b = max b.resource b.recurrence

-- ---- when each end is right

-- s is the schedule to be found: the smallest interval with a legal list, there the first such list, the probes up to there
pub record FoundIs (l : Loop) (q : Request) (b : Lower) (s : Schedule) : Type 0 where
  -- its interval is one of those tried
  pub within : larger b ≤ s.ii
  pub capped : s.ii ≤ q.cap
  pub bounds_are : s.bounds ≡ b
  pub stages_are : s.stages ≡ stage_count l s.ii s.starts
  -- its starts are legal, and the first such list in dictionary order
  pub listed : Listed l q s.starts
  pub is_legal : legal l s.ii s.starts ≡ true
  pub first : (xs : List ℕ) → Listed l q xs → legal l s.ii xs ≡ true → not_after s.starts xs ≡ true
  -- no smaller interval has one
  pub smallest : (jj : ℕ) → 1 ≤ jj → jj < s.ii → NoneAt l q jj
  -- the count is that of the intervals up to it, and within the budget
  pub counted : s.count ≡ spent_below l q (larger b) (suc s.ii)
  pub afforded : s.count ≤ q.budget

-- there is no schedule, and the budget suffices to see it; this is the count
pub record TenIs (l : Loop) (q : Request) (b : Lower) (count : ℕ) : Type 0 where
  -- no interval up to the cap has a legal list
  pub never : (jj : ℕ) → 1 ≤ jj → jj ≤ q.cap → NoneAt l q jj
  -- the count is that of all intervals, and within the budget
  pub counted : count ≡ spent_below l q (larger b) (suc q.cap)
  pub afforded : count ≤ q.budget

-- the budget is spent at interval ii; the count is the budget
pub record ElevenIs (l : Loop) (q : Request) (b : Lower) (ii count : ℕ) : Type 0 where
  -- it is one of those tried
  pub within : larger b ≤ ii
  pub capped : ii ≤ q.cap
  -- no smaller one has a legal list
  pub smaller : (jj : ℕ) → 1 ≤ jj → jj < ii → NoneAt l q jj
  -- the budget suffices for the intervals before ii, and not for ii as well
  pub counted : count ≡ q.budget
  pub afforded : spent_below l q (larger b) ii ≤ q.budget
  pub exceeded : q.budget < spent_below l q (larger b) (suc ii)

-- ---- the statement

-- the answer a to a request for a loop with the bounds b: each of the three ends exactly where it is right, and no other
pub record Ends (l : Loop) (q : Request) (b : Lower) (a : Answer Outcome) : Type 0 where
  pub found_only : (s : Schedule) → a ≡ answered (found s) → FoundIs l q b s
  pub found_said : (s : Schedule) → FoundIs l q b s → a ≡ answered (found s)
  pub ten_only : (count : ℕ) → a ≡ answered (ended (ten q) count) → TenIs l q b count
  pub ten_said : (count : ℕ) → TenIs l q b count → a ≡ answered (ended (ten q) count)
  pub eleven_only : (ii count : ℕ) → a ≡ answered (ended (eleven ii) count) → ElevenIs l q b ii count
  pub eleven_said : (ii count : ℕ) → ElevenIs l q b ii count → a ≡ answered (ended (eleven ii) count)
  pub no_other : (x : Refusal) (count : ℕ) → a ≡ answered (ended x count) → (x ≡ ten q) ⊎ (x.number ≡ 11)

-- for every file, request and lent memory that pass their checks, and every loop that has bounds: what `search` answers
abbrev pub Demand2 : Type 0
Demand2 =
    (f : List ℕ) (q : Request) (list rows : List ℕ) (r : Result Solution Unsolved) (list' rows' : List ℕ) (b : Lower)
    → Searches f q.cap q.horizon q.budget list rows r list' rows'
    → first_refusal (search_checks f q (length list) (length rows)) ≡ none → LowerIs (loop_of f) (answered b)
    → Ends (loop_of f) q b (answer_of (loop_of f) list' r)
