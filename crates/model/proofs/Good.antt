-- Every call keeps the starts good: as many as operations, below the horizon, and legal; those of the open checkpoints too. Assumes nothing.
use mathlib.Core.Path.{◌≡◌, refl, sym, ap, ◌∙◌}
use mathlib.Core.Bool.{Bool, true, false, not, cond, ◌&&◌, ◌||◌, or-true, and-false}
use mathlib.Core.List.{List, [], ◌∷◌, ◌++◌, map}
use mathlib.Core.Option.{Option, none, some}
use Prim.Native.Nat.{ℕ, ◌-◌, ◌≤◌, ◌<◌}
use native.Mathlib.Decide.{ℕ_discrete, dec_lt}
use native.Mathlib.Nat.{zero-add}
use native.Mathlib.Omega.{arith}
use borrow.Author.Tests.{leb-false, ltb-false, eqb-false, eq-eqb, ne_eqb}
use lib.Dec.{eqb, ltb}
use lib.ListN.{length, get_or, set, take, length-append, length-take, length-set, length-replicate, get_or-append, get_or-eq_default}
use lib.Seq.{get_or-set_same, get_or-set_other, get_or-take, get_or-append_seam}
use Rattle.model.specs.Lists.{up_from, any_of}
use Rattle.model.specs.Refusals.{Refusal, Check, first_refusal, settled}
use Rattle.model.specs.Loop.{Dep, no_dep, size, op_at, dep_at, LoopOk}
use Rattle.model.specs.Legality.{Placing, self_conflict, conflict_at, legal_at, touches, breaks, first_breach, conflicts_with, fits_at}
use Rattle.model.specs.Session.{Setup, Starts, State, start, placed_in, Call, place, force, remove, checkpoint, release, rollback, is_placed, absent, taken, late, nowhere, checks, in_the_way, without, effect, step_as, step, after}
use Rattle.model.proofs.Lists.{false_not, and_both, or_false_left, or_false_right, or_both, length_tabulate, get_or_tabulate, get_or_filled, any_at, any_row, row_any, none_first}
use Rattle.model.proofs.Checks.{passes_right, passes_head, passes_tail, not_found}
use Rattle.model.proofs.StartLists.{set_places}
use Rattle.model.proofs.Legality.{fits_tests, SubPlacing, breaks_same}
use Rattle.model.proofs.Counts.{legal_part, legal_place, legal_nothing}
use Rattle.model.proofs.Clashes.{place_clashed, force_clashed}

-- starts that a session can come to
pub record Good (u : Setup) (xs : Starts) : Type 0 where
  pub whole : length xs ≡ size u.loop
  pub near : (o t : ℕ) → get_or xs o none ≡ some t → t < u.horizon
  pub fine : legal_at u.loop u.ii (placed_in xs) ≡ true

-- ---- some of the starts

-- where each start is there or gone, those that are left are a part
pub left_part : (ys xs : Starts) (gone : ℕ → Bool) → ((p : ℕ) → get_or ys p none ≡ cond (gone p) none (get_or xs p none)) → SubPlacing (placed_in ys) (placed_in xs)
left_part ys xs gone at = record { same = λ p x e. go (gone p) (get_or xs p none) x (sym (at p) ∙ e) }
  where
    go : (b : Bool) (y : Option ℕ) (x : ℕ) → cond b none y ≡ some x → y ≡ some x
    go true y x e = let z : ◌≡◌ {A = ℕ} 0 1 = cc in absurd (omega arith)
    go false y x e = e

-- ---- without what is in the way

module _ (u : Setup) (xs : Starts) (o t : ℕ) where
  -- there are as many
  pub without_length : length (without u xs o t) ≡ length xs
  unfolding without
  without_length = length_tabulate _ 0 (length xs)

  -- each is there or gone
  pub without_at : (p : ℕ) → get_or (without u xs o t) p none ≡ cond (in_the_way u xs o t p) none (get_or xs p none)
  unfolding without in_the_way
  without_at p = go (dec_lt p (length xs))
    where
      kept : ℕ → Option ℕ
      kept q = cond (in_the_way u xs o t q) none (get_or xs q none)

      go : Dec (p < length xs) → get_or (map kept (up_from 0 (length xs))) p none ≡ cond (in_the_way u xs o t p) none (get_or xs p none)
      go (yes l) = get_or_tabulate kept 0 (length xs) p none l ∙ ap kept (zero-add p)
      go (no n) =
          let gone : get_or xs p none ≡ none = get_or-eq_default xs none (omega arith) in
          rw gone (get_or-eq_default (map kept (up_from 0 (length xs))) none (omega (arith, length_tabulate kept 0 (length xs))))

  -- the placing, and what is left of it
  abbrev f : Placing
  f = placed_in xs

  abbrev g : Placing
  g = placed_in (without u xs o t)

  -- operation p has a dependence with o which o at t breaks
  abbrev hit : ℕ → Bool
  hit p = any_of (λ d. touches p d && breaks u.ii f o t d) u.loop.deps

  -- what is left was there, and is not in the way
  spared : (p x : ℕ) → g p ≡ some x → (g p ≡ f p) × (conflicts_with u.loop u.ii f o t p ≡ false) × (hit p ≡ false)
  unfolding in_the_way
  spared p x e =
      let w = pick (in_the_way u xs o t p) refl (sym (without_at p) ∙ e) in
      let z : rest ≡ false = ap (λ (y : Option ℕ). is_placed y && rest) (sym w.0) ∙ w.1 in
      (e ∙ sym w.0, or_false_left (conflicts_with u.loop u.ii f o t p) _ z, or_false_right (conflicts_with u.loop u.ii f o t p) _ z)
    where
      rest : Bool
      rest = conflicts_with u.loop u.ii f o t p || hit p

      pick : (b : Bool) → in_the_way u xs o t p ≡ b → cond b none (f p) ≡ some x → (f p ≡ some x) × (in_the_way u xs o t p ≡ false)
      pick true w h = let z : ◌≡◌ {A = ℕ} 0 1 = cc in absurd (omega arith)
      pick false w h = (h, w)

  -- so it does not conflict with o at t
  left_apart : (p : ℕ) → conflicts_with u.loop u.ii g o t p ≡ false
  left_apart p = go (g p) refl
    where
      with_start : Option ℕ → Bool
      with_start x = not (eqb p o) && conflict_at u.ii (op_at u.loop o) (some t) (op_at u.loop p) x

      go : (x : Option ℕ) → g p ≡ x → conflicts_with u.loop u.ii g o t p ≡ false
      go none e = ap with_start e ∙ and-false (not (eqb p o))
      go (some x) e = ap with_start (spared p x e).0 ∙ (spared p x e).1

  -- and no dependence is broken, if none of o with itself is
  left_kept : (e : ℕ) → e < length u.loop.deps → breaks u.ii nowhere o t (dep_at u.loop e) ≡ false → breaks u.ii g o t (dep_at u.loop e) ≡ false
  left_kept e m own = go (ℕ_discrete d.src o) (ℕ_discrete d.dst o)
    where
      d : Dep
      d = dep_at u.loop e

      end : (q : ℕ) → (q ≡ o → ⊥) → touches q (dep_at u.loop e) ≡ true → (g q ≡ none → breaks u.ii g o t (dep_at u.loop e) ≡ false) → breaks u.ii g o t (dep_at u.loop e) ≡ false
      end q n is blank = pick (g q) refl
        where
          pick : (x : Option ℕ) → g q ≡ x → breaks u.ii g o t (dep_at u.loop e) ≡ false
          pick none h = blank h
          pick (some x) h =
              ap (λ (b : Bool). b && breaks u.ii g o t d) (sym is) ∙ breaks_same u.ii g f o t q (spared q x h).0 n d
              ∙ any_at (λ d. touches q d && breaks u.ii f o t d) u.loop.deps e no_dep (spared q x h).2 m

      go : Dec ((dep_at u.loop e).src ≡ o) → Dec ((dep_at u.loop e).dst ≡ o) → breaks u.ii g o t (dep_at u.loop e) ≡ false
      go (yes a) (yes b) = rw (eq-eqb d.src o a, eq-eqb d.dst o b) (rw (eq-eqb d.src o a, eq-eqb d.dst o b) at own)
      go (yes a) (no b) = end d.dst b (rw (eq-eqb d.dst d.dst refl) (or-true (eqb d.src d.dst))) (λ h. rw (eq-eqb d.src o a, ne_eqb d.dst o b, h))
      go (no a) b = end d.src a (rw (eq-eqb d.src d.src refl)) (λ h. rw (ne_eqb d.src o a, h) (and-false (eqb d.dst o)))

  -- so o fits at t, if nothing that concerns o itself is against it
  pub without_fits : any_of (λ e. breaks u.ii nowhere o t (dep_at u.loop e)) (up_from 0 (length u.loop.deps)) ≡ false → self_conflict u.ii (op_at u.loop o) ≡ false
      → fits_at u.loop u.ii g o t ≡ true
  without_fits own self =
      fits_tests u.loop u.ii g o t
      ∙ and_both _ _
      (false_not _ (row_any _ 0 (length u.loop.deps) (λ e a b. left_kept e (omega arith) (any_row _ 0 (length u.loop.deps) e own a b))))
      (false_not _ (or_both _ _ self (row_any _ 0 (size u.loop) (λ p a b. left_apart p))))

-- ---- what a call that is not refused has passed

-- an operation o that is to be placed at t
pub record New (u : Setup) (st : State) (o t : ℕ) : Type 0 where
  pub inside : o < size u.loop
  pub free : get_or st.starts o none ≡ none
  pub soon : t < u.horizon

module _ (u : Setup) (st : State) (o t : ℕ) where
  -- what the first checks of placing and forcing tell
  pub new_passed : (rest : List Check) → first_refusal (absent u o ∷ taken st o ∷ late u o t ∷ rest) ≡ none → New u st o t
  new_passed rest e = record {
    inside = leb-false _ _ (passes_head _ _ e);
    free = not_placed _ (passes_head _ _ (passes_tail _ _ e));
    soon = leb-false _ _ (passes_head _ _ (passes_tail _ _ (passes_tail _ _ e)));
  }
    where
      not_placed : (x : Option ℕ) → is_placed x ≡ false → x ≡ none
      not_placed none e = refl
      not_placed (some t) e = let z : ◌≡◌ {A = ℕ} 0 1 = cc in absurd (omega arith)

module _ (u : Setup) (ok : LoopOk u.loop) (pos : 1 ≤ u.ii) (st : State) (o t : ℕ) where
  -- it fits, beside all or beside those that are not in the way
  pub place_fits : first_refusal (checks u (place o t) st) ≡ none → fits_at u.loop u.ii (placed_in st.starts) o t ≡ true
  unfolding first_breach
  place_fits e =
      let later = passes_right (absent u o ∷ taken st o ∷ late u o t ∷ []) _ e in
      let n = new_passed u st o t _ e in
      fits_tests u.loop u.ii (placed_in st.starts) o t
      ∙ and_both _ _ (false_not _ (none_first _ _ (not_found 16 _ (passes_head _ _ later))))
      (false_not _ (sym (place_clashed u.loop u.ii ok pos (placed_in st.starts) o t n.inside n.free) ∙ passes_head _ _ (passes_tail _ _ later)))

  pub force_fits : first_refusal (checks u (force o t) st) ≡ none → fits_at u.loop u.ii (placed_in (without u st.starts o t)) o t ≡ true
  unfolding first_breach
  force_fits e =
      let later = passes_right (absent u o ∷ taken st o ∷ late u o t ∷ []) _ e in
      without_fits u st.starts o t (none_first _ _ (not_found 16 _ (passes_head _ _ later)))
      (sym (force_clashed u.ii (op_at u.loop o) t (ok.op_ok o (new_passed u st o t _ e).inside) pos) ∙ passes_head _ _ (passes_tail _ _ later))

-- ---- good starts

-- the starts, and those of the open checkpoints
pub record GoodState (u : Setup) (st : State) : Type 0 where
  pub now : Good u st.starts
  pub saved : (i : ℕ) → i < length st.checkpoints → Good u (get_or st.checkpoints i [])

module _ (u : Setup) (ok : LoopOk u.loop) (pos : 1 ≤ u.ii) where
  -- some of good starts are good
  good_part : (xs ys : Starts) (gone : ℕ → Bool) → length ys ≡ length xs → ((p : ℕ) → get_or ys p none ≡ cond (gone p) none (get_or xs p none)) → Good u xs → Good u ys
  good_part xs ys gone e at h =
      let p : SubPlacing (placed_in ys) (placed_in xs) = left_part ys xs gone at in
      record { whole = e ∙ h.whole; near = λ o t q. h.near o t (p.same o t q); fine = legal_part u.loop u.ii ok pos (placed_in ys) (placed_in xs) p h.fine }

  -- so are they with an operation more that fits
  good_place : (xs : Starts) (o t : ℕ) → o < size u.loop → get_or xs o none ≡ none → t < u.horizon → fits_at u.loop u.ii (placed_in xs) o t ≡ true
      → Good u xs → Good u (set xs o (some t))
  good_place xs o t inside free soon fits h =
      let is = set_places (λ x. x) none xs o (some t) t (omega (arith, h.whole)) refl in
      record {
        whole = length-set xs o (some t) ∙ h.whole;
        near = λ p x e. near p x (eqb p o) (sym (ap (λ (f : Placing). f p) is) ∙ e);
        fine = ap (legal_at u.loop u.ii) is ∙ legal_place u.loop u.ii ok pos (placed_in xs) o t inside free ∙ and_both _ _ h.fine fits;
      }
    where
      near : (p x : ℕ) (b : Bool) → cond b (some t) (get_or xs p none) ≡ some x → x < u.horizon
      near p x true e = let z : t ≡ x = cc in omega arith
      near p x false e = h.near p x e

  -- the first k checkpoints
  good_take : (k : ℕ) (xs : Starts) (st : State) → GoodState u st → Good u xs → GoodState u (record { starts = xs; checkpoints = take k st.checkpoints })
  good_take k xs st h g = record {
    now = g;
    saved = λ i l. let m = length-take k st.checkpoints in rw (get_or-take k st.checkpoints i [] (omega arith)) (h.saved i (omega arith));
  }

  -- what a call does where it is not refused
  good_effect : (c : Call) (st : State) → first_refusal (checks u c st) ≡ none → GoodState u st → GoodState u (effect u c st).0
  unfolding in_the_way
  good_effect (place o t) st e h =
      let n = new_passed u st o t _ e in
      record { now = good_place st.starts o t n.inside n.free n.soon (place_fits u ok pos st o t e) h.now; saved = h.saved }
  good_effect (force o t) st e h =
      let n = new_passed u st o t _ e in
      let xs = st.starts in
      record {
        now =
            good_place (without u xs o t) o t n.inside (without_at u xs o t o ∙ rw n.free) n.soon (force_fits u ok pos st o t e)
            (good_part xs (without u xs o t) (in_the_way u xs o t) (without_length u xs o t) (without_at u xs o t) h.now);
        saved = h.saved;
      }
  good_effect (remove o) st e h = record {
    now = good_part st.starts (set st.starts o none) (λ p. eqb p o) (length-set st.starts o none) (λ p. go p (ℕ_discrete p o)) h.now;
    saved = h.saved;
  }
    where
      go : (p : ℕ) → Dec (p ≡ o) → get_or (set st.starts o none) p none ≡ cond (eqb p o) none (get_or st.starts p none)
      go p (yes q) = rw (q, eq-eqb o o refl) (get_or-set_same st.starts o none none (omega (arith, h.now.whole, leb-false (size u.loop) o (passes_head _ _ e))))
      go p (no n) = rw (ne_eqb p o n) (get_or-set_other st.starts o p none none n)
  good_effect checkpoint st e h = record {
    now = h.now;
    saved = λ i l. pick i (dec_lt i (length st.checkpoints)) (omega (arith, length-append st.checkpoints (st.starts ∷ [])));
  }
    where
      pick : (i : ℕ) → Dec (i < length st.checkpoints) → i ≤ length st.checkpoints → Good u (get_or (st.checkpoints ++ (st.starts ∷ [])) i [])
      pick i (yes k) m = rw (get_or-append st.checkpoints (st.starts ∷ []) [] i k) (h.saved i k)
      pick i (no n) m = let q : i ≡ length st.checkpoints = omega arith in rw (q, get_or-append_seam st.checkpoints st.starts [] []) h.now
  good_effect release st e h = good_take (length st.checkpoints - 1) st.starts st h h.now
  good_effect (rollback m) st e h =
      let f : (eqb m 0 || ltb (length st.checkpoints) m) ≡ false = passes_head _ _ e in
      let some : m ≡ 0 → ⊥ = eqb-false m 0 (or_false_left (eqb m 0) _ f) in
      let there : m ≤ length st.checkpoints = ltb-false (length st.checkpoints) m (or_false_right (eqb m 0) _ f) in
      good_take m (get_or st.checkpoints (m - 1) []) st h (h.saved (m - 1) (omega arith))

  -- every call keeps a state good
  pub good_step : (c : Call) (st : State) → GoodState u st → GoodState u (step u c st).0
  unfolding step
  good_step c st h = pick (first_refusal (checks u c st)) refl
    where
      pick : (x : Option Refusal) → first_refusal (checks u c st) ≡ x → GoodState u (step_as st (settled x (effect u c st))).0
      pick none e = good_effect c st e h
      pick (some r) e = h

  -- and so does every list of calls
  pub good_after : (cs : List Call) (st : State) → GoodState u st → GoodState u (after u cs st)
  unfolding after
  good_after [] st h = h
  good_after (c ∷ cs) st h = good_after cs (step u c st).0 (good_step c st h)

  -- a session just opened is good
  pub good_start : GoodState u (start u)
  good_start = record {
    now = record {
      whole = length-replicate (size u.loop) none;
      near = λ o t e. let z : none ≡ some t = sym (get_or_filled (size u.loop) o none) ∙ e in let y : ◌≡◌ {A = ℕ} 0 1 = cc in absurd (omega arith);
      fine = legal_nothing u.loop u.ii ok pos _ (λ o. get_or_filled (size u.loop) o none);
    };
    saved = λ i l. absurd (omega arith);
  }

  -- and so is it after any calls
  pub good_run : (cs : List Call) → GoodState u (after u cs (start u))
  good_run cs = good_after cs (start u) good_start
