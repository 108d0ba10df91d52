-- What comes of a quick list and of the exact search below it. Assumes nothing.
use mathlib.Core.Path.{◌≡◌, refl, sym, ap, ◌∙◌}
use mathlib.Core.Bool.{Bool, true, false}
use mathlib.Core.List.{List}
use mathlib.Core.Logic.{◌⊎◌, inl, inr}
use Prim.Native.Nat.{ℕ, suc, ◌-◌, ◌≤◌, ◌<◌}
use native.Mathlib.Decide.{dec_lt}
use native.Mathlib.Omega.{arith}
use lib.Dec.{eqb}
use borrow.Author.Tests.{eq-eqb, ne_eqb}
use Rattle.model.specs.Refusals.{Refusal, Answer, answered}
use Rattle.model.specs.Loop.{Loop, LoopOk}
use Rattle.model.specs.Legality.{legal}
use Rattle.model.specs.Bounds.{Lower, LowerIs}
use Rattle.model.specs.Search.{stage_count, Request, Schedule, Outcome, found, ended}
use Rattle.search.specs.Demand2.{Listed, NoneAt, spent_below, larger, ten, eleven, FoundIs, ElevenIs, Ends}
use Rattle.search.proofs.Sweeps.{spent_more, none_below}
use Rattle.planner.specs.Answer.{Plan, scheduled, unscheduled, LegalAt, PlanEnds}

-- the same request, up to a smaller cap
abbrev pub up_to : Request → ℕ → Request
up_to q cap = record { cap = cap; horizon = q.horizon; budget = q.budget }

-- a plan of this list
abbrev pub plan_at : Loop → Lower → (ii : ℕ) → Bool → List ℕ → Plan
plan_at l b ii smallest xs = record { ii = ii; bounds = b; stages = stage_count l ii xs; smallest = smallest; starts = xs }

-- a schedule is no refusal
no_end : {X : Type 0} (p : Plan) (x : Refusal) (count : ℕ) → scheduled p ≡ unscheduled x count → X
no_end p x count e = let z : ◌≡◌ {A = ℕ} 0 1 = cc in absurd (omega arith)

same_plan : {p p' : Plan} → scheduled p ≡ scheduled p' → p ≡ p'
same_plan e = cc

-- the probes do not depend on the cap
spent_same : (l : Loop) (q : Request) (cap lo hi : ℕ) → spent_below l (up_to q cap) lo hi ≡ spent_below l q lo hi
unfolding spent_below
spent_same l q cap lo hi = refl

-- no list is legal and is not
not_both : (l : Loop) (q : Request) (jj : ℕ) (xs : List ℕ) → NoneAt l q jj → Listed l q xs → legal l jj xs ≡ true → ⊥
not_both l q jj xs n w t = let u : legal l jj xs ≡ false = n xs w in let z : ◌≡◌ {A = ℕ} 0 1 = cc in omega arith

module _ (l : Loop) (q : Request) (b : Lower) where
  -- a plan ends right where its list is legal, it says smallest rightly, and it is as good as a schedule that the search finds
  ends_plan : (ii : ℕ) (smallest : Bool) (xs : List ℕ) → LegalAt l q b ii xs → (smallest ≡ true → (jj : ℕ) → 1 ≤ jj → jj < ii → NoneAt l q jj)
      → ((s : Schedule) → FoundIs l q b s → (ii ≡ s.ii) × (smallest ≡ true)) → PlanEnds l q b (scheduled (plan_at l b ii smallest xs))
  ends_plan ii smallest xs at none good = record {
    found_right = λ p e. rw (sym (same_plan e)) (record { legal_at = at; bounds_are = refl; stages_are = refl; none_smaller = none });
    never_worse = λ s t. record { plan = plan_at l b ii smallest xs; is = refl; at = (good s t).0; smallest = (good s t).1 };
    ten_right = λ count e. no_end _ _ count e;
    eleven_right = λ ii count e. no_end _ _ count e;
    no_other = λ x count e. no_end _ x count e;
  }

  -- two legal lists below which no interval has one are at one interval
  one_interval : (ii jj : ℕ) (xs ys : List ℕ) → LegalAt l q b ii xs → LegalAt l q b jj ys → ((kk : ℕ) → larger b ≤ kk → kk < ii → NoneAt l q kk)
      → ((kk : ℕ) → larger b ≤ kk → kk < jj → NoneAt l q kk) → ii ≡ jj
  one_interval ii jj xs ys a c f g = pick (dec_lt ii jj) (dec_lt jj ii)
    where
      pick : Dec (ii < jj) → Dec (jj < ii) → ii ≡ jj
      pick (yes m) d = absurd (not_both l q ii xs (g ii a.within m) a.listed a.is_legal)
      pick (no m) (yes n) = absurd (not_both l q jj ys (f jj c.within n) c.listed c.is_legal)
      pick (no m) (no n) = omega arith

  -- the list of a schedule is one
  found_at : (s : Schedule) → FoundIs l q b s → LegalAt l q b s.ii s.starts
  found_at s t = record { within = t.within; capped = t.capped; listed = t.listed; is_legal = t.is_legal }

  module _ (some : 1 ≤ larger b) where
    -- a list below which none is legal, said to be smallest
    ends_smallest : (ii : ℕ) (xs : List ℕ) → LegalAt l q b ii xs → ((jj : ℕ) → 1 ≤ jj → jj < ii → NoneAt l q jj) → PlanEnds l q b (scheduled (plan_at l b ii true xs))
    ends_smallest ii xs at none =
        ends_plan ii true xs at (λ e. none)
        (λ s t. (one_interval ii s.ii xs s.starts at (found_at s t) (λ kk m n. none kk (omega arith) n) (λ kk m n. t.smallest kk (omega arith) n), refl))

    -- a quick list at the larger bound
    pub at_bound : LoopOk l → LowerIs l (answered b) → (xs : List ℕ) → LegalAt l q b (larger b) xs → PlanEnds l q b (scheduled (plan_at l b (larger b) true xs))
    at_bound ok is xs at = ends_smallest (larger b) xs at (none_below l ok q b is)

    -- nothing quick: the search ends the plan
    module _ (a : Answer Outcome) (ends : Ends l q b a) where
      pub as_found : (s : Schedule) → a ≡ answered (found s) → PlanEnds l q b (scheduled (plan_at l b s.ii true s.starts))
      as_found s e = let t = ends.found_only s e in ends_smallest s.ii s.starts (found_at s t) t.smallest

      pub as_ended : (x : Refusal) (count : ℕ) → a ≡ answered (ended x count) → PlanEnds l q b (unscheduled x count)
      as_ended x count e = record {
        found_right = λ p g. let z : ◌≡◌ {A = ℕ} 0 1 = cc in absurd (omega arith);
        never_worse = λ s t. let g : answered (ended x count) ≡ answered (found s) = sym e ∙ ends.found_said s t in let z : ◌≡◌ {A = ℕ} 0 1 = cc in absurd (omega arith);
        ten_right = λ n g. let h : answered (ended x count) ≡ answered (ended (ten q) n) = cc in ends.ten_only n (e ∙ h);
        eleven_right = λ ii n g. let h : answered (ended x count) ≡ answered (ended (eleven ii) n) = cc in ends.eleven_only ii n (e ∙ h);
        no_other = λ y n g. let h : answered (ended x count) ≡ answered (ended y n) = cc in ends.no_other y n (e ∙ h);
      }

    -- a quick list above the larger bound, and the search of the intervals below it
    module _ (ii : ℕ) (xs : List ℕ) (at : LegalAt l q b ii xs) (a : Answer Outcome) (ends : Ends l (up_to q (ii - 1)) b a) where
      pub below_found : larger b < ii → (s : Schedule) → a ≡ answered (found s) → PlanEnds l q b (scheduled (plan_at l b s.ii true s.starts))
      below_found m s e =
          let t = ends.found_only s e in
          ends_smallest s.ii s.starts (record { within = t.within; capped = omega (arith, t.capped, at.capped); listed = t.listed; is_legal = t.is_legal }) t.smallest

      pub below_ended : larger b < ii → (x : Refusal) (count : ℕ) → a ≡ answered (ended x count) → PlanEnds l q b (scheduled (plan_at l b ii (eqb x.number 10) xs))
      below_ended m x count e = pick (ends.no_other x count e)
        where
          pick : (x ≡ ten (up_to q (ii - 1))) ⊎ (x.number ≡ 11) → PlanEnds l q b (scheduled (plan_at l b ii (eqb x.number 10) xs))
          pick (inl h) =
              let t = ends.ten_only count (e ∙ ap (λ y. answered (ended y count)) h) in
              rw (h, eq-eqb 10 10 refl) (ends_smallest ii xs at (λ jj i j. t.never jj i (omega arith)))
          pick (inr h) =
              let y : x ≡ eleven x.detail = ap (λ (n : ℕ). record { number = n; detail = x.detail }) h in
              let t = ends.eleven_only x.detail count (e ∙ ap (λ y. answered (ended y count)) y) in
              rw (h, ne_eqb 11 10 (λ z. omega arith))
              (ends_plan ii false xs at (λ z. let w : ◌≡◌ {A = ℕ} 0 1 = cc in absurd (omega arith)) (λ s u. absurd (spent s u t (dec_lt s.ii x.detail))))
            where
              spent : (s : Schedule) → FoundIs l q b s → ElevenIs l (up_to q (ii - 1)) b x.detail count → Dec (s.ii < x.detail) → ⊥
              spent s u t (yes n) = not_both l q s.ii s.starts (t.smaller s.ii (omega (arith, u.within)) n) u.listed u.is_legal
              spent s u t (no n) = omega (arith, t.exceeded, spent_same l q (ii - 1) (larger b) (suc x.detail), u.counted, u.afforded, spent_more l q (larger b) (suc x.detail) (suc s.ii) (omega arith))
