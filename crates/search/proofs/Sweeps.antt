-- What a sweep over the intervals comes to: a schedule, 10 or 11, and what is then known of every interval and of the probes. Assumes nothing.
use mathlib.Core.Path.{◌≡◌, refl, sym, ap, ap₂, ◌∙◌}
use mathlib.Core.Bool.{Bool, true, false}
use mathlib.Core.List.{List}
use mathlib.Core.Logic.{◌⊎◌, inl, inr}
use mathlib.Core.Option.{Option, none, some}
use Prim.Native.Nat.{ℕ, zero, suc, ◌+◌, ◌-◌, ◌≤◌, ◌<◌, max}
use native.Mathlib.Decide.{dec_lt, ℕ_discrete}
use native.Mathlib.Omega.{arith}
use borrow.Author.Tests.{lt-ltb, le-ltb}
use Rattle.model.specs.Lists.{up_from, sum_of}
use Rattle.model.specs.Refusals.{Refusal, answered}
use Rattle.model.specs.Loop.{Loop, size, LoopOk}
use Rattle.model.specs.Legality.{legal}
use Rattle.model.specs.Bounds.{resource_bound, RecurrenceBound, Lower, LowerIs, cyclic, beyond, within}
use Rattle.model.specs.Search.{answer, probes, stage_count, Request, Schedule, Outcome, found, ended, intervals, try_interval, sweep}
use Rattle.model.proofs.Lists.{up_from_split, sum_append}
use Rattle.lower_bounds.proofs.Necessity.{bounds_needed}
use Rattle.descent.proofs.Words.{after_both, answer_is, answer_first, answer_none}
use Rattle.search.specs.Demand2.{Listed, NoneAt, spent_below, ten, eleven, larger, FoundIs, TenIs, ElevenIs}

-- the sweep over all intervals
abbrev pub sweep_all : Loop → Request → Lower → Outcome
sweep_all l q b = sweep l q b 0 (intervals b q.cap)

-- a schedule by its interval and starts, where its other parts are these
parts : {s : Schedule} {b : Lower} {stages count : ℕ} → s.bounds ≡ b → s.stages ≡ stages → count ≡ s.count
    → ◌≡◌ {A = Schedule} (record { ii = s.ii; bounds = b; stages = stages; count = count; starts = s.starts }) s
parts {s} p r c = rw (sym p, sym r, c)

-- 10 and 11 are told apart by their numbers
ten_not_eleven : (q : Request) (ii : ℕ) → ten q ≡ eleven ii → ⊥
ten_not_eleven q ii e = omega (arith, ap (λ (r : Refusal). r.number) e)

-- ---- the probes of a row of intervals

module _ (l : Loop) (q : Request) where
  -- no interval
  spent_none : (lo hi : ℕ) → hi ≤ lo → spent_below l q lo hi ≡ 0
  unfolding spent_below sum_of up_from
  spent_none lo hi m = let e : hi - lo ≡ 0 = omega arith in rw e

  -- the first interval, then the others
  spent_first : (lo hi : ℕ) → lo < hi → spent_below l q lo hi ≡ probes (legal l lo) q.horizon (size l) + spent_below l q (suc lo) hi
  unfolding spent_below sum_of up_from
  spent_first lo hi m = let e : hi - lo ≡ suc (hi - suc lo) = omega arith in rw e

  -- more intervals, no fewer probes
  pub spent_more : (lo mid hi : ℕ) → mid ≤ hi → spent_below l q lo mid ≤ spent_below l q lo hi
  unfolding spent_below
  spent_more lo mid hi m =
      let e : hi - lo ≡ mid - lo + (hi - lo - (mid - lo)) = omega arith in
      rw (e, up_from_split lo (mid - lo) (hi - lo - (mid - lo)), sum_append) (omega arith)

-- ---- any row of intervals

module _ (l : Loop) (q : Request) (b : Lower) where
  -- what a sweep comes to, over the intervals from lo on that are below hi and after `spent` probes
  data Comes (lo hi spent : ℕ) (o : Outcome) : Type 0 where
    by_found : (ii : ℕ) (xs : List ℕ) → lo ≤ ii → ii < hi → ((jj : ℕ) → lo ≤ jj → jj < ii → NoneAt l q jj)
        → answer (legal l ii) q.horizon (size l) ≡ some xs → spent + spent_below l q lo (suc ii) ≤ q.budget
        → o ≡ found (record { ii = ii; bounds = b; stages = stage_count l ii xs; count = spent + spent_below l q lo (suc ii); starts = xs })
        → Comes lo hi spent o
    by_ten : ((jj : ℕ) → lo ≤ jj → jj < hi → NoneAt l q jj) → spent + spent_below l q lo hi ≤ q.budget
        → o ≡ ended (ten q) (spent + spent_below l q lo hi) → Comes lo hi spent o
    by_eleven : (ii : ℕ) → lo ≤ ii → ii < hi → ((jj : ℕ) → lo ≤ jj → jj < ii → NoneAt l q jj) → spent + spent_below l q lo ii ≤ q.budget
        → q.budget < spent + spent_below l q lo (suc ii) → o ≡ ended (eleven ii) q.budget → Comes lo hi spent o

  -- one interval without a schedule, then the later ones
  comes_later : (lo hi spent : ℕ) (o : Outcome) → lo < hi → NoneAt l q lo
      → Comes (suc lo) hi (spent + probes (legal l lo) q.horizon (size l)) o → Comes lo hi spent o
  comes_later lo hi spent o m n c = pick c
    where
      with_first : (ii : ℕ) → ((jj : ℕ) → suc lo ≤ jj → jj < ii → NoneAt l q jj) → (jj : ℕ) → lo ≤ jj → jj < ii → NoneAt l q jj
      with_first ii f jj i j = eq (ℕ_discrete jj lo)
        where
          eq : Dec (jj ≡ lo) → NoneAt l q jj
          eq (yes e) = rw e n
          eq (no e) = f jj (omega arith) j

      more : (x : ℕ) → lo < x → spent + probes (legal l lo) q.horizon (size l) + spent_below l q (suc lo) x ≡ spent + spent_below l q lo x
      more x i = omega (arith, spent_first l q lo x i)

      pick : Comes (suc lo) hi (spent + probes (legal l lo) q.horizon (size l)) o → Comes lo hi spent o
      pick (by_found ii xs i j f a e g) =
          by_found ii xs (omega arith) j (with_first ii f) a (omega (arith, more (suc ii) (omega arith)))
          (g ∙ ap (λ (x : ℕ). found (record { ii = ii; bounds = b; stages = stage_count l ii xs; count = x; starts = xs })) (more (suc ii) (omega arith)))
      pick (by_ten f e g) =
          by_ten (with_first hi f) (omega (arith, more hi m)) (g ∙ ap (ended (ten q)) (more hi m))
      pick (by_eleven ii i j f e h g) =
          by_eleven ii (omega arith) j (with_first ii f) (omega (arith, more ii (omega arith))) (omega (arith, more (suc ii) (omega arith))) g

  -- every sweep over such a row
  comes : (hi k lo spent : ℕ) → 1 ≤ size l → k ≡ hi - lo → spent ≤ q.budget → Comes lo hi spent (sweep l q b spent (up_from lo k))
  unfolding sweep up_from
  comes hi zero lo spent s e m =
      let z : spent_below l q lo hi ≡ 0 = spent_none l q lo hi (omega arith) in
      by_ten (λ jj i j. absurd (omega arith)) (omega arith) (ap (ended (ten q)) (omega arith))
  comes hi (suc k) lo spent s e m =
      pick (answer (legal l lo) q.horizon (size l)) refl (dec_lt q.budget total) (comes hi k (suc lo) total s (omega arith))
    where
      total : ℕ
      total = spent + probes (legal l lo) q.horizon (size l)

      later : Outcome
      later = sweep l q b total (up_from (suc lo) k)

      to_here : spent + spent_below l q lo (suc lo) ≡ total
      to_here = omega (arith, spent_first l q lo (suc lo) (omega arith), spent_none l q (suc lo) (suc lo) (omega arith))

      over : (o : Outcome) → q.budget < total → o ≡ ended (eleven lo) q.budget → Comes lo hi spent o
      over o d g =
          by_eleven lo (omega arith) (omega arith) (λ jj i j. absurd (omega arith)) (omega (arith, spent_none l q lo lo (omega arith)))
          (omega (arith, to_here)) g

      pick : (a : Option (List ℕ)) → answer (legal l lo) q.horizon (size l) ≡ a → Dec (q.budget < total)
          → (total ≤ q.budget → Comes (suc lo) hi total later) → Comes lo hi spent (try_interval l q b lo total a later)
      pick none a (yes d) ih = over _ d (rw (lt-ltb q.budget total d))
      pick (some xs) a (yes d) ih = over _ d (rw (lt-ltb q.budget total d))
      pick none a (no d) ih =
          rw (le-ltb q.budget total (omega arith))
          (comes_later lo hi spent later (omega arith) (λ xs w. answer_none (legal l lo) q.horizon (size l) s a xs w.0 w.1) (ih (omega arith)))
      pick (some xs) a (no d) ih =
          by_found lo xs (omega arith) (omega arith) (λ jj i j. absurd (omega arith)) a (omega (arith, to_here))
          (rw (le-ltb q.budget total (omega arith), to_here))

-- ---- the sweep over all intervals

module _ (l : Loop) (ok : LoopOk l) (q : Request) (b : Lower) (is : LowerIs l (answered b)) where
  -- which bounds they are
  the_bounds : (c : ℕ) × RecurrenceBound l c × (larger b ≡ max (resource_bound l) c)
  the_bounds = pick is
    where
      pick : LowerIs l (answered b) → (c : ℕ) × RecurrenceBound l c × (larger b ≡ max (resource_bound l) c)
      pick (cyclic s g) = let z : ◌≡◌ {A = ℕ} 0 1 = cc in absurd (omega arith)
      pick (beyond c r i g) = let z : ◌≡◌ {A = ℕ} 0 1 = cc in absurd (omega arith)
      pick (within c r i g) = let z : b ≡ record { resource = resource_bound l; recurrence = c } = cc in (c, r, ap larger z)

  -- no interval below the larger bound has a legal list
  pub none_below : (jj : ℕ) → 1 ≤ jj → jj < larger b → NoneAt l q jj
  none_below jj p m xs w = pick (legal l jj xs) refl
    where
      pick : (t : Bool) → legal l jj xs ≡ t → t ≡ false
      pick false e = refl
      pick true e = let c = the_bounds in absurd (omega (arith, c.2, bounds_needed l jj c.0 xs ok p w.0 e c.1))

  -- so what is known from that bound on is known from 1 on
  none_from : (hi : ℕ) → ((jj : ℕ) → larger b ≤ jj → jj < hi → NoneAt l q jj) → (jj : ℕ) → 1 ≤ jj → jj < hi → NoneAt l q jj
  none_from hi f jj i j = pick (dec_lt jj (larger b))
    where
      pick : Dec (jj < larger b) → NoneAt l q jj
      pick (yes m) = none_below jj i m
      pick (no m) = f jj (omega arith) j

  -- what the sweep comes to
  comes_all : Comes l q b (larger b) (suc q.cap) 0 (sweep_all l q b)
  comes_all = comes l q b (suc q.cap) (suc q.cap - larger b) (larger b) 0 ok.some refl (omega arith)

  -- a schedule that is found
  pub found_is : (s : Schedule) → sweep_all l q b ≡ found s → FoundIs l q b s
  found_is s e = pick (sweep_all l q b) e comes_all
    where
      pick : (o : Outcome) → o ≡ found s → Comes l q b (larger b) (suc q.cap) 0 o → FoundIs l q b s
      pick o e (by_ten f h g) = let z : ◌≡◌ {A = ℕ} 0 1 = cc in absurd (omega arith)
      pick o e (by_eleven ii i j f h k g) = let z : ◌≡◌ {A = ℕ} 0 1 = cc in absurd (omega arith)
      pick o e (by_found ii xs i j f a h g) =
          let z : s ≡ record { ii = ii; bounds = b; stages = stage_count l ii xs; count = 0 + spent_below l q (larger b) (suc ii); starts = xs } = cc in
          let w = answer_is (legal l ii) q.horizon (size l) xs a in
          rw z
          (record {
            within = i;
            capped = omega arith;
            bounds_are = refl;
            stages_are = refl;
            listed = (w.0, w.1);
            is_legal = w.2;
            first = λ ys v t. answer_first (legal l ii) q.horizon (size l) xs ok.some a ys v.0 v.1 t;
            smallest = none_from ii f;
            counted = omega arith;
            afforded = h;
          })

  -- a sweep that ends by 10
  pub ten_is : (count : ℕ) → sweep_all l q b ≡ ended (ten q) count → TenIs l q b count
  ten_is count e = pick (sweep_all l q b) e comes_all
    where
      pick : (o : Outcome) → o ≡ ended (ten q) count → Comes l q b (larger b) (suc q.cap) 0 o → TenIs l q b count
      pick o e (by_found ii xs i j f a h g) = let z : ◌≡◌ {A = ℕ} 0 1 = cc in absurd (omega arith)
      pick o e (by_eleven ii i j f h k g) = let z : ten q ≡ eleven ii = cc in absurd (ten_not_eleven q ii z)
      pick o e (by_ten f h g) =
          let z : count ≡ 0 + spent_below l q (larger b) (suc q.cap) = cc in
          record { never = λ jj i j. none_from (suc q.cap) f jj i (omega arith); counted = omega arith; afforded = omega arith }

  -- a legal list at an interval that has none, which cannot be
  not_both : (jj : ℕ) (xs : List ℕ) → NoneAt l q jj → Listed l q xs → legal l jj xs ≡ true → ⊥
  not_both jj xs n w t = let u : legal l jj xs ≡ false = n xs w in let z : ◌≡◌ {A = ℕ} 0 1 = cc in omega arith

  -- an interval that is tried is one from 1 on
  from_one : (jj : ℕ) → larger b ≤ jj → 1 ≤ jj
  from_one jj m = let c = the_bounds in omega (arith, c.1.positive, c.2)

  -- where that is so, it ends by 10
  pub is_ten : (count : ℕ) → TenIs l q b count → sweep_all l q b ≡ ended (ten q) count
  is_ten count t = pick (sweep_all l q b) comes_all
    where
      pick : (o : Outcome) → Comes l q b (larger b) (suc q.cap) 0 o → o ≡ ended (ten q) count
      pick o (by_found ii xs i j f a h g) =
          let w = answer_is (legal l ii) q.horizon (size l) xs a in
          absurd (not_both ii xs (t.never ii (from_one ii i) (omega arith)) (w.0, w.1) w.2)
      pick o (by_eleven ii i j f h k g) = absurd (omega (arith, t.counted, t.afforded, spent_more l q (larger b) (suc ii) (suc q.cap) (omega arith)))
      pick o (by_ten f h g) = g ∙ ap (ended (ten q)) (omega (arith, t.counted))

  -- a sweep that ends by 11
  pub eleven_is : (ii count : ℕ) → sweep_all l q b ≡ ended (eleven ii) count → ElevenIs l q b ii count
  eleven_is ii count e = pick (sweep_all l q b) e comes_all
    where
      pick : (o : Outcome) → o ≡ ended (eleven ii) count → Comes l q b (larger b) (suc q.cap) 0 o → ElevenIs l q b ii count
      pick o e (by_found jj xs i j f a h g) = let z : ◌≡◌ {A = ℕ} 0 1 = cc in absurd (omega arith)
      pick o e (by_ten f h g) = let z : ten q ≡ eleven ii = cc in absurd (ten_not_eleven q ii z)
      pick o e (by_eleven jj i j f h k g) =
          let r : eleven ii ≡ eleven jj = cc in
          let z : ii ≡ jj = ap (λ (x : Refusal). x.detail) r in
          let c : count ≡ q.budget = cc in
          rw z
          (record { within = i; capped = omega arith; smaller = none_from jj f; counted = c; afforded = omega arith; exceeded = omega arith })

  -- a schedule of which all that is known is found
  pub is_found : (s : Schedule) → FoundIs l q b s → sweep_all l q b ≡ found s
  is_found s t = pick (sweep_all l q b) comes_all
    where
      -- its interval is no smaller than one at which a list is found, and no larger
      here : (ii : ℕ) (xs : List ℕ) → larger b ≤ ii → ((jj : ℕ) → larger b ≤ jj → jj < ii → NoneAt l q jj) → answer (legal l ii) q.horizon (size l) ≡ some xs → ii ≡ s.ii
      here ii xs i f a = eq (dec_lt ii s.ii) (dec_lt s.ii ii)
        where
          eq : Dec (ii < s.ii) → Dec (s.ii < ii) → ii ≡ s.ii
          eq (yes m) d =
              let w = answer_is (legal l ii) q.horizon (size l) xs a in absurd (not_both ii xs (t.smallest ii (from_one ii i) m) (w.0, w.1) w.2)
          eq (no m) (yes n) = absurd (not_both s.ii s.starts (f s.ii t.within n) t.listed t.is_legal)
          eq (no m) (no n) = omega arith

      -- and the list is the first one
      there : (xs : List ℕ) → answer (legal l s.ii) q.horizon (size l) ≡ some xs → xs ≡ s.starts
      there xs a =
          let w = answer_is (legal l s.ii) q.horizon (size l) xs a in
          after_both xs s.starts (w.0 ∙ sym t.listed.0)
          (answer_first (legal l s.ii) q.horizon (size l) xs ok.some a s.starts t.listed.0 t.listed.1 t.is_legal)
          (t.first xs (w.0, w.1) w.2)

      pick : (o : Outcome) → Comes l q b (larger b) (suc q.cap) 0 o → o ≡ found s
      pick o (by_found ii xs i j f a h g) =
          let e : ii ≡ s.ii = here ii xs i f a in
          let d : xs ≡ s.starts = there xs (rw e at a) in
          g ∙ same_schedule ii xs e d
        where
          same_schedule : (ii : ℕ) (xs : List ℕ) → ii ≡ s.ii → xs ≡ s.starts
              → found (record { ii = ii; bounds = b; stages = stage_count l ii xs; count = 0 + spent_below l q (larger b) (suc ii); starts = xs }) ≡ found s
          same_schedule ii xs e d = ap found (rw (e, d) (parts t.bounds_are t.stages_are (omega (arith, t.counted))))
      pick o (by_ten f h g) = absurd (not_both s.ii s.starts (f s.ii t.within (omega (arith, t.capped))) t.listed t.is_legal)
      pick o (by_eleven ii i j f h k g) = over (dec_lt s.ii ii)
        where
          over : Dec (s.ii < ii) → o ≡ found s
          over (yes m) = absurd (not_both s.ii s.starts (f s.ii t.within m) t.listed t.is_legal)
          over (no m) = absurd (omega (arith, t.counted, t.afforded, spent_more l q (larger b) (suc ii) (suc s.ii) (omega arith)))

  -- a budget that is spent so is told by 11
  pub is_eleven : (ii count : ℕ) → ElevenIs l q b ii count → sweep_all l q b ≡ ended (eleven ii) count
  is_eleven ii count t = pick (sweep_all l q b) comes_all
    where
      pick : (o : Outcome) → Comes l q b (larger b) (suc q.cap) 0 o → o ≡ ended (eleven ii) count
      pick o (by_found jj xs i j f a h g) = early (dec_lt jj ii)
        where
          early : Dec (jj < ii) → o ≡ ended (eleven ii) count
          early (yes m) = let w = answer_is (legal l jj) q.horizon (size l) xs a in absurd (not_both jj xs (t.smaller jj (from_one jj i) m) (w.0, w.1) w.2)
          early (no m) = absurd (omega (arith, t.exceeded, spent_more l q (larger b) (suc ii) (suc jj) (omega arith)))
      pick o (by_ten f h g) = absurd (omega (arith, t.exceeded, spent_more l q (larger b) (suc ii) (suc q.cap) (omega (arith, t.capped))))
      pick o (by_eleven jj i j f h k g) = same (dec_lt jj ii) (dec_lt ii jj)
        where
          same : Dec (jj < ii) → Dec (ii < jj) → o ≡ ended (eleven ii) count
          same (yes m) d = absurd (omega (arith, t.afforded, spent_more l q (larger b) (suc jj) ii (omega arith)))
          same (no m) (yes n) = absurd (omega (arith, t.exceeded, spent_more l q (larger b) (suc ii) jj (omega arith)))
          same (no m) (no n) =
              let e : jj ≡ ii = omega arith in g ∙ ap₂ (λ (x c : ℕ). ended (eleven x) c) e (sym t.counted)

  -- a sweep that ends without a schedule: by 10 at the cap, or by 11
  pub ended_only : (r : Refusal) (count : ℕ) → sweep_all l q b ≡ ended r count → (r ≡ ten q) ⊎ (r.number ≡ 11)
  ended_only r count e = pick (sweep_all l q b) e comes_all
    where
      pick : (o : Outcome) → o ≡ ended r count → Comes l q b (larger b) (suc q.cap) 0 o → (r ≡ ten q) ⊎ (r.number ≡ 11)
      pick o e (by_found ii xs i j f a h g) = let z : ◌≡◌ {A = ℕ} 0 1 = cc in absurd (omega arith)
      pick o e (by_ten f h g) = inl (cc)
      pick o e (by_eleven ii i j f h k g) = let z : r ≡ eleven ii = cc in inr (ap (λ (x : Refusal). x.number) z)
