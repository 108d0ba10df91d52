-- What the checks before a search and before a plan answer. Assumes nothing.
use Rattle.std.specs.Prelude.{◌≡◌, List, ℕ, ◌≤◌, Result, Ok, Err}
use Rattle.std.proofs.Math.Option.{none, some}
use Rattle.model.specs.Refusals.{Refusal, first_refusal, answered, refused}
use Rattle.model.specs.Loop.{size}
use Rattle.model.specs.File.{loop_of, Accepted}
use Rattle.model.specs.Bounds.{LowerIs}
use Rattle.model.specs.Search.{Request, search_checks}
use Rattle.refusals.specs.declared.Refusal as code
use Rattle.refusals.specs.Told.{told}
use Rattle.lower_bounds.specs.declared.Bounds as lower

-- ---- no refusal

-- every check has passed: the file is accepted and has n operations, and the numbers and lengths are in range
pub record Passed (f : List ℕ) (n recurrence cap horizon list rows : ℕ) : Type 0 where
  pub accepted : Accepted f
  pub is_size : n ≡ size (loop_of f)
  pub positive : 1 ≤ recurrence
  pub capped : cap ≤ 4096
  pub near : horizon ≤ 4096
  pub room : n ≤ list
  pub long : 4096 ≤ rows

-- the same, and the loop has these bounds
pub record AllPassed (f : List ℕ) (n : ℕ) (bounds : lower.Bounds) (cap horizon budget list rows : ℕ) : Type 0 where
  pub none_fails : first_refusal (search_checks f (record { cap = cap; horizon = horizon; budget = budget }) list rows) ≡ none
  pub bounds_are : LowerIs (loop_of f) (answered (record { resource = bounds.resource; recurrence = bounds.recurrence }))
  pub passed : Passed f n bounds.recurrence cap horizon list rows

-- ---- a refusal

-- the first check that fails, or that the loop has no bounds
pub data Refuses (f : List ℕ) (q : Request) (list rows : ℕ) (r : Refusal) : Type 0 where
  unchecked : first_refusal (search_checks f q list rows) ≡ some r → Refuses f q list rows r
  unbounded : first_refusal (search_checks f q list rows) ≡ none → LowerIs (loop_of f) (refused r) → Refuses f q list rows r

-- ---- the answer

-- for a file, a request, and a lent list and table of these lengths: the number of operations and the bounds, or the refusal
abbrev pub Admitted : List ℕ → (cap horizon budget list rows : ℕ) → Result (ℕ × lower.Bounds) code.Refusal → Type 0
Admitted f cap horizon budget list rows (Ok a) = AllPassed f a.0 a.1 cap horizon budget list rows
Admitted f cap horizon budget list rows (Err r) = Refuses f (record { cap = cap; horizon = horizon; budget = budget }) list rows (told r)
