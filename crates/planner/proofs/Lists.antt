-- What `make` comes to at each of its ends: a quick list kept, or the end of the exact search. Assumes nothing.
use mathlib.Core.Path.{◌≡◌, refl, sym, ap, ◌∙◌, subst}
use mathlib.Core.Bool.{Bool, true, false}
use mathlib.Core.List.{List, ◌++◌}
use mathlib.Core.Option.{none}
use Prim.Native.Nat.{ℕ, ◌-◌, ◌≤◌, ◌<◌, max}
use native.Mathlib.Omega.{arith}
use lib.Dec.{eqb}
use borrow.Author.Tests.{eqb-true, eqb-false}
use lib.ListN.{length, take, drop, replicate}
use lib.Seq.{length-take-le, get_or-take, take_at}
use Rattle.std.specs.Option.{option_eq}
use Rattle.std.specs.Prelude.{Result, Ok, Err, Option, Some, None}
use Rattle.model.specs.Refusals.{Refusal, first_refusal, answered}
use Rattle.model.specs.Loop.{Loop, size, LoopOk}
use Rattle.model.specs.File.{loop_of}
use Rattle.model.specs.Bounds.{Lower}
use Rattle.model.specs.Search.{stage_count, Request, search_checks, ended, by_sweep, list_after, rows_after}
use Rattle.model.proofs.File.{accepted_ok}
use Rattle.model.proofs.Answers.{search_unique}
use Rattle.refusals.specs.Told.{refusal}
use Rattle.lower_bounds.specs.declared.Bounds as lower
use Rattle.search.specs.Admitted.{AllPassed}
use Rattle.search.specs.Answer.{answer_of, Searches}
use Rattle.search.specs.Demand2.{larger, Ends}
use Rattle.search.specs.declared.Solution.{Solution}
use Rattle.search.specs.declared.Unsolved.{Unsolved}
use Rattle.search.specs.declared.Unsolved.TheVariants.{NoSchedule, BudgetSpent, Refused}
use Rattle.search.proofs.Promises.{demand2}
use Rattle.search.proofs.Requests.{other_cap}
use Rattle.iterative.specs.Placed.{Placed}
use Rattle.planner.specs.Answer.{scheduled, unscheduled, plan_of, LegalAt, PlanEnds}
use Rattle.planner.specs.Parts.{cap_below, PlanMade, Keeps}
use Rattle.planner.specs.declared.PlanFound.{PlanFound}
use Rattle.planner.proofs.Plans.{up_to, plan_at, at_bound, as_found, as_ended, below_found, below_ended}

-- whether the search went through all intervals and found none
abbrev pub is_ten : Unsolved → Bool
is_ten (NoSchedule cap k) = true
is_ten (BudgetSpent ii k) = false
is_ten (Refused r) = false

pub not_ten : (u : Unsolved) → ((cap k : ℕ) → u ≡ NoSchedule cap k → ⊥) → is_ten u ≡ false
not_ten (NoSchedule cap k) h = absurd (h cap k refl)
not_ten (BudgetSpent ii k) h = refl
not_ten (Refused r) h = refl

-- an interval that passes the test for the larger bound is there, and is that bound
pub is_least : (o : Option ℕ) (least : ℕ) → option_eq eqb o (Some least) ≡ true → o ≡ Some least
is_least None least e = cc
is_least (Some ii) least e = ap Some (eqb-true ii least e)

-- its end as the model's, and as the plan's where that has nothing better
record EndsAs (l : Loop) (list : List ℕ) (u : Unsolved) : Type 0 where
  pub why : Refusal
  pub count : ℕ
  pub as_search : answer_of l list (Err u) ≡ answered (ended why count)
  pub as_plan : plan_of l list (Err u) ≡ answered (unscheduled why count)
  pub ten : eqb why.number 10 ≡ is_ten u

module _ {f : List ℕ} {n cap horizon budget : ℕ} {bounds : lower.Bounds} (list rows : List ℕ) (p : AllPassed f n bounds cap horizon budget (length list) (length rows)) where
  -- the loop, the request and the bounds
  abbrev l : Loop
  l = loop_of f

  abbrev q : Request
  q = record { cap = cap; horizon = horizon; budget = budget }

  abbrev b : Lower
  b = record { resource = bounds.resource; recurrence = bounds.recurrence }

  ok : LoopOk l
  ok = accepted_ok f p.passed.accepted

  some : 1 ≤ larger b
  some = omega (arith, p.passed.positive)

  module _ {least : ℕ} {quick : Option ℕ} {starts starts' rows₁ : List ℕ} (least_is : least ≡ max bounds.resource bounds.recurrence) (wide : length starts' ≡ 64)
      (t : Placed f n least cap horizon starts rows starts' rows₁ quick) where
    -- as many starts as operations
    long : length (take n starts') ≡ n
    long = length-take-le n starts' (omega (arith, p.passed.is_size, ok.few))

    -- rows that were cleared, from the rows before all
    all_cleared : {rows₂ : List ℕ} → rows₂ ≡ replicate 4096 0 ++ drop 4096 rows₁ → rows₂ ≡ replicate 4096 0 ++ drop 4096 rows
    all_cleared e = e ∙ ap (λ (xs : List ℕ). replicate 4096 0 ++ xs) t.untouched.rest

    -- ---- a quick list

    module _ (ii : ℕ) (there : quick ≡ Some ii) where
      -- it is legal
      quick_at : LegalAt l q b ii (take n starts')
      quick_at =
          let g = t.found ii there in
          record {
            within = omega (arith, g.low, least_is);
            capped = g.high;
            listed = (long ∙ p.passed.is_size, λ i m. let k : i < n = omega (arith, long) in omega (arith, get_or-take n starts' i 0 k, g.schedule.near i k));
            is_legal = g.schedule.fine;
          }

      -- what keeping it comes to, where that ends right
      kept : {smallest : Bool} {list₂ list' rows' : List ℕ} {r : PlanFound} → list₂ ≡ list → Keeps f n bounds ii smallest starts' list₂ r list'
          → PlanEnds l q b (scheduled (plan_at l b ii smallest (take n starts'))) → rows' ≡ replicate 4096 0 ++ drop 4096 rows
          → PlanMade f bounds cap horizon budget list rows (Ok r) list' rows'
      kept {smallest} {list' = list'} same k e rs =
          let mine : take (size l) list' ≡ take n starts' = ap (λ (m : ℕ). take m list') (sym p.passed.is_size) ∙ ap (take n) k.list_is ∙ take_at (take n starts') _ n long in
          record {
            end = scheduled (plan_at l b ii smallest (take n starts'));
            says = ap (λ r. plan_of l list' (Ok r)) k.says ∙ ap (λ (xs : List ℕ). answered (scheduled (record { ii = ii; bounds = b; stages = stage_count l ii (take n starts'); smallest = smallest; starts = xs }))) mine;
            ends = e;
            list_is = k.list_is ∙ ap (λ (xs : List ℕ). take n starts' ++ drop n xs) same ∙ ap (λ (m : ℕ). take n starts' ++ drop m list) (sym long);
            rows_are = rs;
          }

    -- at the larger bound
    pub keeps_bound : {list' rows' : List ℕ} {r : PlanFound} → quick ≡ Some least → rows' ≡ replicate 4096 0 ++ drop 4096 rows₁ → Keeps f n bounds least true starts' list r list'
        → PlanMade f bounds cap horizon budget list rows (Ok r) list' rows'
    keeps_bound there rs k =
        kept least there refl k
        (rw least_is (at_bound l q b some ok p.bounds_are (take n starts') (subst (λ (m : ℕ). LegalAt l q b m (take n starts')) least_is (quick_at least there))))
        (all_cleared rs)

    -- ---- the exact search below it

    module _ (not_least : option_eq eqb quick (Some least) ≡ false) {asked : ℕ} (asked_is : asked ≡ cap_below quick cap) where
      -- the intervals begin above the larger bound
      above : (ii : ℕ) → quick ≡ Some ii → larger b < ii
      above ii there =
          let other : eqb ii least ≡ false = rw there at not_least in omega (arith, (t.found ii there).low, least_is, eqb-false ii least other)

      -- it passes its checks
      fine : first_refusal (search_checks f (up_to q asked) (length list) (length rows₁)) ≡ none
      fine = let as_long = t.untouched.rows_length in rw (as_long, asked_is) (pick quick refl)
        where
          pick : (o : Option ℕ) → quick ≡ o → first_refusal (search_checks f (up_to q (cap_below o cap)) (length list) (length rows)) ≡ none
          pick None e = p.none_fails
          pick (Some ii) e = other_cap f q (length list) (length rows) (ii - 1) (omega (arith, above ii e, some)) (omega (arith, (t.found ii e).high, p.passed.capped)) p.none_fails

      -- and ends right: with nothing quick its request is that of the plan, and else it is that of the intervals below
      ends : {s : Result Solution Unsolved} {list₂ rows₂ : List ℕ} → Searches f asked horizon budget list rows₁ s list₂ rows₂ → (o : Option ℕ) → quick ≡ o → Ends l (up_to q (cap_below o cap)) b (answer_of l list₂ s)
      ends {s} {list₂} {rows₂} done o e =
          subst (λ (m : ℕ). Ends l (up_to q m) b (answer_of l list₂ s)) (asked_is ∙ ap (λ o. cap_below o cap) e) (demand2 f (up_to q asked) list rows₁ s list₂ rows₂ b done fine p.bounds_are)

      -- it finds a schedule
      pub search_found : {x : Solution} {list₂ rows₂ : List ℕ} → Searches f asked horizon budget list rows₁ (Ok x) list₂ rows₂
          → PlanMade f bounds cap horizon budget list rows (Ok (record { interval = x.interval; resource = bounds.resource; recurrence = bounds.recurrence; stages = x.stages; smallest = true })) list₂ rows₂
      search_found {x} {list₂} done =
          record {
            end = scheduled (plan_at l b x.interval true (take (size l) list₂));
            says =
                ap (λ (k : ℕ). answered (scheduled (record { ii = x.interval; bounds = b; stages = k; smallest = true; starts = take (size l) list₂ })))
                ((ends done quick refl).found_only _ refl).stages_are;
            ends = pick quick refl;
            list_is = done.list_is;
            rows_are = all_cleared done.rows_are;
          }
        where
          pick : (o : Option ℕ) → quick ≡ o → PlanEnds l q b (scheduled (plan_at l b x.interval true (take (size l) list₂)))
          pick None e = as_found l q b some _ (ends done None e) _ refl
          pick (Some ii) e = below_found l q b some ii (take n starts') (quick_at ii e) _ (ends done (Some ii) e) (above ii e) _ refl

      -- it finds none; it is not refused: its checks pass, and the loop has bounds
      end_of : (u : Unsolved) {list₂ rows₂ : List ℕ} → Searches f asked horizon budget list rows₁ (Err u) list₂ rows₂ → EndsAs l list₂ u
      end_of (NoSchedule c k) done = record { why = refusal 10 c; count = k; as_search = refl; as_plan = refl; ten = refl }
      end_of (BudgetSpent ii k) done = record { why = refusal 11 ii; count = k; as_search = refl; as_plan = refl; ten = refl }
      end_of (Refused r) done =
          let w = search_unique f (up_to q asked) (length list) (length rows₁) _ _ done.says (by_sweep b fine p.bounds_are refl) in
          let z : ◌≡◌ {A = ℕ} 0 1 = cc in absurd (omega arith)

      -- nothing was found before: its end is that of the plan
      pub search_ended : {u : Unsolved} {list₂ rows₂ : List ℕ} → quick ≡ None → Searches f asked horizon budget list rows₁ (Err u) list₂ rows₂ → PlanMade f bounds cap horizon budget list rows (Err u) list₂ rows₂
      search_ended {u} e done =
          let w = end_of u done in
          record {
            end = unscheduled w.why w.count;
            says = w.as_plan;
            ends = as_ended l q b some _ (ends done None e) w.why w.count w.as_search;
            list_is = done.list_is ∙ ap (λ y. list_after y list) w.as_search;
            rows_are = all_cleared (done.rows_are ∙ ap (λ y. rows_after y rows₁) w.as_search);
          }

      -- a quick list is kept
      pub keeps_quick : {u : Unsolved} {list₂ rows₂ list' : List ℕ} {ii : ℕ} {smallest : Bool} {r : PlanFound} → quick ≡ Some ii → Searches f asked horizon budget list rows₁ (Err u) list₂ rows₂
          → is_ten u ≡ smallest → Keeps f n bounds ii smallest starts' list₂ r list' → PlanMade f bounds cap horizon budget list rows (Ok r) list' rows₂
      keeps_quick {u} {ii = ii} e done is k =
          let w = end_of u done in
          kept ii e (done.list_is ∙ ap (λ y. list_after y list) w.as_search) k
          (subst (λ (z : Bool). PlanEnds l q b (scheduled (plan_at l b ii z (take n starts')))) (w.ten ∙ is)
          (below_ended l q b some ii (take n starts') (quick_at ii e) _ (ends done (Some ii) e) (above ii e) w.why w.count w.as_search))
          (all_cleared (done.rows_are ∙ ap (λ y. rows_after y rows₁) w.as_search))
