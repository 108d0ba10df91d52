-- The planner's answer: a refusal of the checks, or what `make` answers. Assumes nothing.
use mathlib.Core.Path.{refl, sym, ap, ◌∙◌}
use mathlib.Core.List.{List}
use Prim.Native.Nat.{ℕ}
use lib.ListN.{length}
use Rattle.std.specs.Prelude.{Result}
use Rattle.model.specs.Refusals.{Refusal, refused}
use Rattle.lower_bounds.specs.declared.Bounds as lower
use Rattle.search.specs.Admitted.{AllPassed, Refuses, unchecked, unbounded}
use Rattle.search.specs.declared.Unsolved.{Unsolved}
use Rattle.search.proofs.Requests.{TurnedAway}
use Rattle.planner.specs.Answer.{PlansIs, by_check, by_bound, by_plan, plan_list, plan_rows, Plans}
use Rattle.planner.specs.Parts.{PlanMade}
use Rattle.planner.specs.declared.PlanFound.{PlanFound}

module _ {f : List ℕ} {cap horizon budget : ℕ} {list rows : List ℕ} {r : Result PlanFound Unsolved} where
  -- a refusal
  pub plans_not : TurnedAway f (record { cap = cap; horizon = horizon; budget = budget }) (length list) (length rows) r → Plans f cap horizon budget list rows r list rows
  plans_not t = rw t.is (record { says = pick t.why; list_is = refl; rows_are = refl })
    where
      pick : {x : Refusal} → Refuses f (record { cap = cap; horizon = horizon; budget = budget }) (length list) (length rows) x
          → PlansIs f (record { cap = cap; horizon = horizon; budget = budget }) (length list) (length rows) (refused x)
      pick (unchecked h) = by_check _ h refl
      pick (unbounded h g) = by_bound _ h g refl

  -- nothing is against it
  pub by_make : {n : ℕ} {b : lower.Bounds} {list' rows' : List ℕ} → AllPassed f n b cap horizon budget (length list) (length rows) → PlanMade f b cap horizon budget list rows r list' rows'
      → Plans f cap horizon budget list rows r list' rows'
  by_make p t =
      record {
        says = by_plan _ t.end p.none_fails p.bounds_are t.ends t.says;
        list_is = t.list_is ∙ ap (λ a. plan_list a list) (sym t.says);
        rows_are = t.rows_are ∙ ap (λ a. plan_rows a rows) (sym t.says);
      }
