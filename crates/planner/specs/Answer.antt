-- What `plan` answers and leaves. Assumes nothing.
use Rattle.std.specs.Prelude.{◌≡◌, Bool, true, List, ◌++◌, ◌⊎◌, ℕ, ◌≤◌, ◌<◌, length, take, drop, replicate, Result, Ok, Err}
use Rattle.std.proofs.Math.Option.{none, some}
use Rattle.model.specs.Refusals.{Refusal, first_refusal, Answer, answered, refused}
use Rattle.model.specs.Loop.{Loop, size}
use Rattle.model.specs.File.{loop_of}
use Rattle.model.specs.Legality.{legal}
use Rattle.model.specs.Bounds.{Lower, LowerIs}
use Rattle.model.specs.Search.{stage_count, Request, Schedule, search_checks}
use Rattle.search.specs.Demand2.{Listed, NoneAt, larger, ten, eleven, FoundIs, TenIs, ElevenIs}
use Rattle.refusals.specs.Told.{refusal, told}
use Rattle.search.specs.declared.Unsolved.{Unsolved}
use Rattle.search.specs.declared.Unsolved.TheVariants.{NoSchedule, BudgetSpent, Refused}
use Rattle.planner.specs.declared.PlanFound.{PlanFound}

-- ---- the answer

-- a legal schedule, and whether it is said that no smaller interval has one
pub record Plan : Type 0 where
  pub ii : ℕ
  pub bounds : Lower
  pub stages : ℕ
  pub smallest : Bool
  pub starts : List ℕ

-- what a plan that was made comes to: a schedule, or refusal 10 or 11 with the count of probes, as a search ends
pub data PlanEnd : Type 0 where
  scheduled : Plan → PlanEnd
  unscheduled : Refusal → (count : ℕ) → PlanEnd

-- what `plan` says of a loop, with the starts that the list then holds: one for each operation
abbrev pub plan_of : Loop → List ℕ → Result PlanFound Unsolved → Answer PlanEnd
plan_of l list (Ok p) =
    answered
    (scheduled
    (record {
      ii = p.interval;
      bounds = record { resource = p.resource; recurrence = p.recurrence };
      stages = p.stages;
      smallest = p.smallest;
      starts = take (size l) list;
    }))
plan_of l list (Err (NoSchedule cap k)) = answered (unscheduled (refusal 10 cap) k)
plan_of l list (Err (BudgetSpent ii k)) = answered (unscheduled (refusal 11 ii) k)
plan_of l list (Err (Refused r)) = refused (told r)

-- ---- when it is right

-- a list of starts below the horizon that is legal at an interval from the larger bound to the cap
pub record LegalAt (l : Loop) (q : Request) (b : Lower) (ii : ℕ) (xs : List ℕ) : Type 0 where
  pub within : larger b ≤ ii
  pub capped : ii ≤ q.cap
  pub listed : Listed l q xs
  pub is_legal : legal l ii xs ≡ true

-- the plan is such a list, with its bounds and stage count; where it says smallest, no smaller interval has a legal list
pub record PlanIs (l : Loop) (q : Request) (b : Lower) (p : Plan) : Type 0 where
  pub legal_at : LegalAt l q b p.ii p.starts
  pub bounds_are : p.bounds ≡ b
  pub stages_are : p.stages ≡ stage_count l p.ii p.starts
  pub none_smaller : p.smallest ≡ true → (jj : ℕ) → 1 ≤ jj → jj < p.ii → NoneAt l q jj

-- the plan is at the interval of the schedule s, and says smallest
pub record AsGood (s : Schedule) (a : PlanEnd) : Type 0 where
  pub plan : Plan
  pub is : a ≡ scheduled plan
  pub at : plan.ii ≡ s.ii
  pub smallest : plan.smallest ≡ true

-- a plan for a loop with the bounds b. Which legal list is found is left free. Never worse than the search: where that finds a schedule (`FoundIs`), there is a plan at the same interval, said to be smallest; and 10 and 11 are
-- said only where the search says them, with its count
pub record PlanEnds (l : Loop) (q : Request) (b : Lower) (a : PlanEnd) : Type 0 where
  pub found_right : (p : Plan) → a ≡ scheduled p → PlanIs l q b p
  pub never_worse : (s : Schedule) → FoundIs l q b s → AsGood s a
  pub ten_right : (count : ℕ) → a ≡ unscheduled (ten q) count → TenIs l q b count
  pub eleven_right : (ii count : ℕ) → a ≡ unscheduled (eleven ii) count → ElevenIs l q b ii count
  pub no_other : (x : Refusal) (count : ℕ) → a ≡ unscheduled x count → (x ≡ ten q) ⊎ (x.number ≡ 11)

-- the answer for a file, a request, and a lent list and table of these lengths: 1 to 6, 7, 20; then 8, 9; then the plan is made
pub data PlansIs (f : List ℕ) (q : Request) (list rows : ℕ) (a : Answer PlanEnd) : Type 0 where
  by_check : (r : Refusal) → first_refusal (search_checks f q list rows) ≡ some r → a ≡ refused r → PlansIs f q list rows a
  by_bound : (r : Refusal) → first_refusal (search_checks f q list rows) ≡ none → LowerIs (loop_of f) (refused r) → a ≡ refused r
      → PlansIs f q list rows a
  by_plan : (b : Lower) (e : PlanEnd) → first_refusal (search_checks f q list rows) ≡ none → LowerIs (loop_of f) (answered b)
      → PlanEnds (loop_of f) q b e → a ≡ answered e → PlansIs f q list rows a

-- ---- lent memory

-- the output list afterwards: one start an operation where a schedule is found, else as it was
abbrev pub plan_list : Answer PlanEnd → List ℕ → List ℕ
plan_list (answered (scheduled p)) old = p.starts ++ drop (length p.starts) old
plan_list (answered (unscheduled r count)) old = old
plan_list (refused r) old = old

-- the scratch table afterwards: its first 4,096 rows cleared by a plan that was made, else as it was
abbrev pub plan_rows : Answer PlanEnd → List ℕ → List ℕ
plan_rows (answered a) old = replicate 4096 0 ++ drop 4096 old
plan_rows (refused r) old = old

-- ---- the whole call

-- the answer r to a file and a request, with a list and a table that end as list' and rows'
pub record Plans (f : List ℕ) (cap horizon budget : ℕ) (list rows : List ℕ) (r : Result PlanFound Unsolved) (list' rows' : List ℕ) : Type 0 where
  pub says : PlansIs f (record { cap = cap; horizon = horizon; budget = budget }) (length list) (length rows) (plan_of (loop_of f) list' r)
  pub list_is : list' ≡ plan_list (plan_of (loop_of f) list' r) list
  pub rows_are : rows' ≡ plan_rows (plan_of (loop_of f) list' r) rows
