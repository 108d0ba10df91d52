-- What is returned and written for the answers of the bounds, the search and the planner. Assumes nothing.
use mathlib.Core.Path.{◌≡◌, refl}
use mathlib.Core.Bool.{Bool, true, false}
use mir.Val.{bool_byte}
use mathlib.Core.List.{List}
use Prim.Native.Nat.{ℕ}
use Rattle.std.specs.Prelude.{Result, Err}
use Rattle.model.specs.Lists.{written}
use Rattle.model.specs.Refusals.{Answer}
use Rattle.model.specs.Bounds.{Lower, BoundsIs}
use Rattle.model.specs.File.{loop_of}
use Rattle.search.specs.declared.Solution.{Solution}
use Rattle.search.specs.declared.Unsolved.{Unsolved}
use Rattle.search.specs.declared.Unsolved.TheVariants.{NoSchedule, BudgetSpent, Refused}
use Rattle.search.specs.Answer.{answer_of, Searches}
use Rattle.planner.specs.declared.PlanFound.{PlanFound}
use Rattle.planner.specs.Answer.{plan_of, Plans}
use Rattle.replay.specs.Words.{number_of, words_of}
use Rattle.mwelitunga.specs.Words.{flag, UnsolvedGiven, lower_words, BoundsGiven, outcome_number, outcome_words, SearchGiven, plan_number, plan_words, PlanGiven}

-- a yes or no that is cast to a number
pub flag_is : (b : Bool) → bool_byte b ≡ flag b
flag_is true = refl
flag_is false = refl

-- the bounds
pub bounds_told : {f : List ℕ} {x : Answer Lower} {r : ℕ} {before after : List ℕ} → BoundsIs f x → r ≡ number_of x → after ≡ written 0 (words_of lower_words x) before → BoundsGiven f r before after
bounds_told {x = x} i n w = record { answer = x; is = i; gives = record { number = n; words = w } }

module _ {f : List ℕ} {cap horizon budget : ℕ} {list rows before list' rows' after : List ℕ} {r : ℕ} where
  -- the search
  pub search_told : {x : Result Solution Unsolved} → Searches f cap horizon budget list rows x list' rows' → r ≡ outcome_number (answer_of (loop_of f) list' x)
      → after ≡ written 0 (outcome_words (answer_of (loop_of f) list' x)) before → SearchGiven f cap horizon budget list rows before r list' rows' after
  search_told {x} s n w = record { answer = answer_of (loop_of f) list' x; is = s.says; number = n; words = w; list_is = s.list_is; rows_are = s.rows_are }

  -- its end without a schedule
  pub search_ended : (u : Unsolved) → Searches f cap horizon budget list rows (Err u) list' rows' → UnsolvedGiven u r before after → SearchGiven f cap horizon budget list rows before r list' rows' after
  search_ended (NoSchedule most k) s g = search_told s g.number g.words
  search_ended (BudgetSpent ii k) s g = search_told s g.number g.words
  search_ended (Refused y) s g = search_told s g.number g.words

  -- the plan
  pub plan_told : {x : Result PlanFound Unsolved} → Plans f cap horizon budget list rows x list' rows' → r ≡ plan_number (plan_of (loop_of f) list' x)
      → after ≡ written 0 (plan_words (plan_of (loop_of f) list' x)) before → PlanGiven f cap horizon budget list rows before r list' rows' after
  plan_told {x} s n w = record { answer = plan_of (loop_of f) list' x; is = s.says; number = n; words = w; list_is = s.list_is; rows_are = s.rows_are }

  -- its end without one
  pub plan_ended : (u : Unsolved) → Plans f cap horizon budget list rows (Err u) list' rows' → UnsolvedGiven u r before after → PlanGiven f cap horizon budget list rows before r list' rows' after
  plan_ended (NoSchedule most k) s g = plan_told s g.number g.words
  plan_ended (BudgetSpent ii k) s g = plan_told s g.number g.words
  plan_ended (Refused y) s g = plan_told s g.number g.words
