-- The parts of a plan, on a file that has passed every check. Assumes nothing.
use Rattle.std.specs.Prelude.{◌≡◌, Bool, List, ◌++◌, ℕ, ◌-◌, ◌≤◌, length, take, drop, replicate, Result, Option, Some, None}
use Rattle.model.specs.Refusals.{answered}
use Rattle.model.specs.Loop.{size}
use Rattle.model.specs.File.{loop_of, Accepted}
use Rattle.model.specs.Search.{stage_count}
use Rattle.lower_bounds.specs.declared.Bounds as lower
use Rattle.search.specs.declared.Unsolved.{Unsolved}
use Rattle.planner.specs.Answer.{PlanEnd, plan_of, PlanEnds, plan_list}
use Rattle.planner.specs.declared.PlanFound.{PlanFound}

-- the cap of the exact search: one below the interval that was found, or the cap itself where none was
abbrev pub cap_below : Option ℕ → ℕ → ℕ
cap_below None cap = cap
cap_below (Some ii) cap = ii - 1

-- the plan is made and ends right, and the lent memory is as it says
pub record PlanMade (f : List ℕ) (bounds : lower.Bounds) (cap horizon budget : ℕ) (list rows : List ℕ) (r : Result PlanFound Unsolved) (list' rows' : List ℕ) : Type 0 where
  pub end : PlanEnd
  pub says : plan_of (loop_of f) list' r ≡ answered end
  pub ends : PlanEnds (loop_of f) (record { cap = cap; horizon = horizon; budget = budget }) (record { resource = bounds.resource; recurrence = bounds.recurrence }) end
  pub list_is : list' ≡ plan_list (answered end) list
  pub rows_are : rows' ≡ replicate 4096 0 ++ drop 4096 rows

-- a list of n starts for an accepted file can be kept
pub record Keepable (f : List ℕ) (n : ℕ) (starts list : List ℕ) : Type 0 where
  pub accepted : Accepted f
  pub is_size : n ≡ size (loop_of f)
  pub wide : length starts ≡ 64
  pub room : n ≤ length list

-- it is kept: its numbers are the answer, and it stands in the list
pub record Keeps (f : List ℕ) (n : ℕ) (bounds : lower.Bounds) (ii : ℕ) (smallest : Bool) (starts list : List ℕ) (r : PlanFound) (list' : List ℕ) : Type 0 where
  pub says : r ≡ record { interval = ii; resource = bounds.resource; recurrence = bounds.recurrence; stages = stage_count (loop_of f) ii (take n starts); smallest = smallest }
  pub list_is : list' ≡ take n starts ++ drop n list
