-- Laws of lists of calls: what checkpoints keep, and the placed operations placed again in any order. Assumes nothing.
use mathlib.Core.Path.{◌≡◌, refl, sym, ap, ◌∙◌, subst}
use mathlib.Core.Bool.{Bool, true, false, not, cond}
use mathlib.Core.List.{List, [], ◌∷◌, ◌++◌}
use mathlib.Core.Option.{Option, none, some}
use Prim.Native.Nat.{ℕ, ◌+◌, ◌-◌, ◌≤◌, ◌<◌}
use native.Mathlib.Decide.{ℕ_discrete, dec_lt}
use native.Mathlib.Omega.{arith}
use borrow.Author.Tests.{le-leb, lt-leb, not-true, eq-eqb, ne_eqb, eqb-true, eqb-false}
use lib.Dec.{eqb, leb}
use lib.ListN.{length, get_or, set, take, replicate, length-append, length-take, length-set, length-replicate, get_or-append, get_or-eq_default}
use lib.Seq.{get_or-set_same, get_or-set_other, get_or-take, take-take, take-append-le, ext_get_or}
use Rattle.model.specs.Refusals.{Refusal, first_refusal, Answer, answered, settled}
use Rattle.model.specs.Loop.{size, LoopOk}
use Rattle.model.specs.Legality.{legal_at, place_at, first_breach, conflicts, fits_at}
use Rattle.model.specs.Table.{row_base, table_of}
use Rattle.model.specs.Counts.{place_clash}
use Rattle.model.specs.Session.{Setup, Starts, State, start, placed_in, state_table, Call, place, force, remove, checkpoint, release, rollback, Reply, done, numbered, is_placed, checks, effect, step_as, step, after, replies}
use Rattle.model.specs.Undo.{gives, NoneGives, marked_by, start_or, placings, times, OrderOf, AllDone}
use Rattle.model.proofs.Lists.{get_or_filled, and_left, and_right, first_none}
use Rattle.model.proofs.StartLists.{set_places}
use Rattle.model.proofs.Legality.{fits_tests, fits_conflict}
use Rattle.model.proofs.Counts.{legal_part, legal_place}
use Rattle.model.proofs.Room.{conflicts_taken}
use Rattle.model.proofs.Table.{table_nil_all, cells_nothing}
use Rattle.model.proofs.Good.{Good, left_part}
use Rattle.model.proofs.Session.{step_done, rollback_done, state_same, marked, went_back, back_newest}

-- ---- back to a checkpoint

-- where checkpoint m is open, going back to it gives `last`
abbrev Keeps : ℕ → State → State → Type 0
Keeps m st last = m ≤ length st.checkpoints → went_back m st ≡ last

module _ (u : Setup) (m : ℕ) (low : 1 ≤ m) where
  -- so it does where it is still open among the first k
  keeps_first : (k : ℕ) (xs : Starts) (st last : State) → Keeps m st last → Keeps m (record { starts = xs; checkpoints = take k st.checkpoints }) last
  keeps_first k xs st last h l =
      let long = length-take k st.checkpoints in
      state_same (get_or-take k st.checkpoints (m - 1) [] (omega arith)) (take-take m k st.checkpoints (omega arith)) ∙ h (omega arith)

  -- and after every call, unless that gives m anew: then it gives the state after that call
  keeps_effect : (c : Call) (st last : State) → Keeps m st last → Keeps m (effect u c st).0 (cond (gives m (answered (effect u c st).1)) (effect u c st).0 last)
  keeps_effect (place o t) st last h = h
  keeps_effect (force o t) st last h = h
  keeps_effect (remove o) st last h = h
  keeps_effect checkpoint st last h = pick (eqb (length st.checkpoints + 1) m) refl
    where
      long : length (marked st).checkpoints ≡ length st.checkpoints + 1
      long = length-append st.checkpoints (st.starts ∷ [])

      pick : (b : Bool) → eqb (length st.checkpoints + 1) m ≡ b → Keeps m (marked st) (cond b (marked st) last)
      pick true q l = back_newest m st (sym (eqb-true _ _ q))
      pick false q l =
          let k : m ≤ length st.checkpoints = omega (arith, long, eqb-false (length st.checkpoints + 1) m q) in
          state_same (get_or-append st.checkpoints (st.starts ∷ []) [] (m - 1) (omega arith)) (take-append-le m st.checkpoints (st.starts ∷ []) k) ∙ h k
  keeps_effect release st last h = keeps_first (length st.checkpoints - 1) st.starts st last h
  keeps_effect (rollback k) st last h = keeps_first k (get_or st.checkpoints (k - 1) []) st last h

  keeps_step : (c : Call) (st last : State) → Keeps m st last → Keeps m (step u c st).0 (cond (gives m (step u c st).1) (step u c st).0 last)
  unfolding step
  keeps_step c st last h = pick (first_refusal (checks u c st))
    where
      pick : (x : Option Refusal)
          → Keeps m (step_as st (settled x (effect u c st))).0 (cond (gives m (step_as st (settled x (effect u c st))).1) (step_as st (settled x (effect u c st))).0 last)
      pick none = keeps_effect c st last h
      pick (some r) = h

  -- after a list of calls, it gives the state just after the last call that gave m
  keeps_after : (cs : List Call) (st last : State) → Keeps m st last → Keeps m (after u cs st) (marked_by u m cs st last)
  unfolding after marked_by
  keeps_after [] st last h = h
  keeps_after (c ∷ cs) st last h = keeps_after cs (step u c st).0 (cond (gives m (step u c st).1) (step u c st).0 last) (keeps_step c st last h)

-- rolling back to an open checkpoint, after any calls from a state without one: it is done, and gives the state just after the last checkpoint call that answered m
pub back_to : (u : Setup) (m : ℕ) (cs : List Call) (st : State) → length st.checkpoints ≡ 0 → 1 ≤ m → m ≤ length (after u cs st).checkpoints
    → step u (rollback m) (after u cs st) ≡ (marked_by u m cs st st, answered done)
back_to u m cs st e low high =
    rollback_done u (after u cs st) m low high
    ∙ ap (λ (x : State). (x, answered done)) (keeps_after u m low cs st st (λ l. absurd (omega arith)) high)

-- where no call gave m, the last that did came before
marked_none : (u : Setup) (m : ℕ) (cs : List Call) (st last : State) → NoneGives m (replies u cs st) → marked_by u m cs st last ≡ last
unfolding marked_by replies
marked_none u m [] st last h = refl
marked_none u m (c ∷ cs) st last h = rw h.0 (marked_none u m cs (step u c st).0 last h.1)

-- a checkpoint call that answered m made m the newest
checkpoint_newest : (u : Setup) (m : ℕ) (st : State) → (step u checkpoint st).1 ≡ answered (numbered m)
    → ((step u checkpoint st).0 ≡ marked st) × (m ≡ length st.checkpoints + 1)
unfolding step
checkpoint_newest u m st = pick (first_refusal (checks u checkpoint st))
  where
    pick : (x : Option Refusal) → (step_as st (settled x (effect u checkpoint st))).1 ≡ answered (numbered m)
        → ((step_as st (settled x (effect u checkpoint st))).0 ≡ marked st) × (m ≡ length st.checkpoints + 1)
    pick none e = (refl, cc)
    pick (some r) e = let z : ◌≡◌ {A = ℕ} 0 1 = cc in absurd (omega arith)

-- rolling back to m after a checkpoint call that answered m and calls none of which did: where m is still open, it gives the state just after that call
pub back_pure : (u : Setup) (m : ℕ) (cs : List Call) (st : State) → (step u checkpoint st).1 ≡ answered (numbered m)
    → NoneGives m (replies u cs (step u checkpoint st).0) → m ≤ length (after u cs (step u checkpoint st).0).checkpoints
    → (step u (rollback m) (after u cs (step u checkpoint st).0)).0 ≡ (step u checkpoint st).0
back_pure u m cs st e h high =
    let w = checkpoint_newest u m st e in
    let low : 1 ≤ m = omega (arith, w.1) in
    let then : State = (step u checkpoint st).0 in
    ap (λ (x : State × Answer Reply). x.0) (rollback_done u (after u cs then) m low high)
    ∙ keeps_after u m low cs then then (λ l. rw w.0 (back_newest m st w.1)) high
    ∙ marked_none u m cs then then h

-- calls in two parts
after_parts : (u : Setup) (cs ds : List Call) (st : State) → after u (cs ++ ds) st ≡ after u ds (after u cs st)
unfolding after
after_parts u [] ds st = refl
after_parts u (c ∷ cs) ds st = after_parts u cs ds (step u c st).0

-- so the whole list, up to the rolling back, leaves the state that the list up to the checkpoint call leaves
pub back_whole : (u : Setup) (m : ℕ) (cs ds : List Call) (st : State) → let then : State = after u (cs ++ (checkpoint ∷ [])) st in
    (step u checkpoint (after u cs st)).1 ≡ answered (numbered m) → NoneGives m (replies u ds then) → m ≤ length (after u ds then).checkpoints
    → after u (cs ++ (checkpoint ∷ []) ++ (ds ++ (rollback m ∷ []))) st ≡ then
unfolding after
back_whole u m cs ds st e h high =
    let then : State = (step u checkpoint (after u cs st)).0 in
    let same : after u (cs ++ (checkpoint ∷ [])) st ≡ then = after_parts u cs (checkpoint ∷ []) st in
    after_parts u (cs ++ (checkpoint ∷ [])) (ds ++ (rollback m ∷ [])) st ∙ ap (after u (ds ++ (rollback m ∷ []))) same ∙ after_parts u ds (rollback m ∷ []) then
    ∙ back_pure u m ds (after u cs st) e (subst (λ (x : State). NoneGives m (replies u ds x)) same h) (subst (λ (x : State). m ≤ length (after u ds x).checkpoints) same high)
    ∙ sym same

-- ---- a session just opened

-- nothing is placed, so its table is zeros
pub start_table : (u : Setup) → state_table u (start u) ≡ replicate u.ii 0
start_table u = ap (table_of row_base u.ii) (cells_nothing u.loop u.ii _ (λ o. get_or_filled (size u.loop) o none)) ∙ table_nil_all 2 u.ii

-- ---- an operation that is placed

-- an operation that is not placed and fits below the horizon is placed
pub place_done : (u : Setup) → LoopOk u.loop → 1 ≤ u.ii → (st : State) (o t : ℕ) → o < size u.loop → get_or st.starts o none ≡ none → t < u.horizon
    → fits_at u.loop u.ii (placed_in st.starts) o t ≡ true
    → step u (place o t) st ≡ (record { starts = set st.starts o (some t); checkpoints = st.checkpoints }, answered done)
unfolding first_refusal first_breach
place_done u ok pos st o t inside free near fits =
    step_done u (place o t) st (rw (lt-leb (size u.loop) o inside, free, lt-leb u.horizon t near, unbroken, untaken))
  where
    untaken : place_clash u.loop u.ii (placed_in st.starts) o t ≡ none
    untaken = conflicts_taken u.loop u.ii ok pos (placed_in st.starts) o t inside free (fits_conflict u.loop u.ii (placed_in st.starts) o t fits)

    unbroken : first_breach u.loop u.ii (placed_in st.starts) o t ≡ none
    unbroken = first_none _ _ (not-true _ (and_left _ (not (conflicts u.loop u.ii (placed_in st.starts) o t)) (sym (fits_tests u.loop u.ii (placed_in st.starts) o t) ∙ fits)))

-- ---- the placed operations, placed again

-- the operations os are left: each stands there once and is placed in xs, and ys has the others as xs does
record Left (xs : Starts) (os : List ℕ) (ys : Starts) : Type 0 where
  whole : length ys ≡ length xs
  once : (o : ℕ) → times o os ≤ cond (is_placed (get_or xs o none)) 1 0
  at : (o : ℕ) → get_or ys o none ≡ cond (leb 1 (times o os)) none (get_or xs o none)

-- how often an operation stands in a list with one more in front
times_same : (o : ℕ) (os : List ℕ) → times o (o ∷ os) ≡ 1 + times o os
unfolding times
times_same o os = rw (eq-eqb o o refl)

times_other : (o p : ℕ) (os : List ℕ) → (p ≡ o → ⊥) → times p (o ∷ os) ≡ times p os
unfolding times
times_other o p os n = rw (ne_eqb o p (λ e. n (sym e))) (omega arith)

-- a start that stands in a list
placed_inside : (xs : Starts) (o t : ℕ) → get_or xs o none ≡ some t → o < length xs
placed_inside xs o t e = pick (dec_lt o (length xs))
  where
    pick : Dec (o < length xs) → o < length xs
    pick (yes l) = l
    pick (no n) =
        let q : get_or xs o none ≡ none = get_or-eq_default xs none (omega arith) in
        let z : ◌≡◌ {A = ℕ} 0 1 = cc in absurd (omega arith)

module _ (u : Setup) (ok : LoopOk u.loop) (pos : 1 ≤ u.ii) (xs : Starts) (good : Good u xs) where
  module _ (o : ℕ) (os : List ℕ) (ys : Starts) (h : Left xs (o ∷ os) ys) where
    -- the first that is left has a start, and does not stand among the others
    head_is : (get_or xs o none ≡ some (start_or (get_or xs o none))) × (times o os ≡ 0)
    head_is = pick (get_or xs o none) (times o os) (omega (arith, h.once o, times_same o os))
      where
        pick : (x : Option ℕ) (n : ℕ) → 1 + n ≤ cond (is_placed x) 1 0 → (x ≡ some (start_or x)) × (n ≡ 0)
        pick none n l = absurd (omega arith)
        pick (some t) n l = (refl, omega arith)

    -- it is an operation
    head_inside : o < length ys
    head_inside = omega (arith, h.whole, placed_inside xs o (start_or (get_or xs o none)) head_is.0)

    -- that is not yet placed
    head_free : get_or ys o none ≡ none
    head_free = h.at o ∙ rw (le-leb 1 (times o (o ∷ os)) (omega (arith, times_same o os)))

    -- with it placed, the others are left
    left_next : Left xs os (set ys o (some (start_or (get_or xs o none))))
    left_next = record {
      whole = length-set ys o (some (start_or (get_or xs o none))) ∙ h.whole;
      once = λ p. below p (ℕ_discrete p o);
      at = λ p. go p (ℕ_discrete p o);
    }
      where
        below : (p : ℕ) → Dec (p ≡ o) → times p os ≤ cond (is_placed (get_or xs p none)) 1 0
        below p (yes e) = rw e (omega (arith, head_is.1))
        below p (no n) = omega (arith, h.once p, times_other o p os n)

        go : (p : ℕ) → Dec (p ≡ o) → get_or (set ys o (some (start_or (get_or xs o none)))) p none ≡ cond (leb 1 (times p os)) none (get_or xs p none)
        go p (yes e) = rw (e, get_or-set_same ys o (some (start_or (get_or xs o none))) none head_inside, head_is.1) (sym head_is.0)
        go p (no n) = get_or-set_other ys o p (some (start_or (get_or xs o none))) none n ∙ h.at p ∙ rw (times_other o p os n)

  -- what is placed is a part, so the next one fits, and is placed
  next_done : (o : ℕ) (os : List ℕ) (st : State) → Left xs (o ∷ os) st.starts
      → step u (place o (start_or (get_or xs o none))) st
      ≡ (record { starts = set st.starts o (some (start_or (get_or xs o none))); checkpoints = st.checkpoints }, answered done)
  next_done o os st h =
      let ys : Starts = st.starts in
      let t : ℕ = start_or (get_or xs o none) in
      let inside : o < size u.loop = omega (arith, good.whole, h.whole, head_inside o os ys h) in
      let legal : legal_at u.loop u.ii (place_at (placed_in ys) o t) ≡ true =
      ap (legal_at u.loop u.ii) (sym (set_places (λ x. x) none ys o (some t) t (head_inside o os ys h) refl))
      ∙ legal_part u.loop u.ii ok pos _ (placed_in xs) (left_part (set ys o (some t)) xs (λ p. leb 1 (times p os)) (left_next o os ys h).at) good.fine in
      place_done u ok pos st o t inside (head_free o os ys h) (good.near o t (head_is o os ys h).0)
      (and_right (legal_at u.loop u.ii (placed_in ys)) _ (sym (legal_place u.loop u.ii ok pos (placed_in ys) o t inside (head_free o os ys h)) ∙ legal))

  -- and so are all
  replay_from : (os : List ℕ) (st : State) → Left xs os st.starts
      → AllDone (replies u (placings xs os) st) × (after u (placings xs os) st ≡ record { starts = xs; checkpoints = st.checkpoints })
  unfolding after replies placings times
  replay_from [] st h = (tt, state_same (ext_get_or none st.starts xs h.whole (λ o l. h.at o)) refl)
  replay_from (o ∷ os) st h =
      let t : ℕ = start_or (get_or xs o none) in
      let ih = replay_from os (record { starts = set st.starts o (some t); checkpoints = st.checkpoints }) (left_next o os st.starts h) in
      let e = next_done o os st h in
      (rw e (refl, ih.0), ap (λ (x : State × Answer Reply). after u (placings xs os) x.0) e ∙ ih.1)

  -- the operations of good starts, placed in any order on a session just opened: each is accepted, and they are those starts
  pub replay : (os : List ℕ) → OrderOf xs os
      → AllDone (replies u (placings xs os) (start u)) × (after u (placings xs os) (start u) ≡ record { starts = xs; checkpoints = [] })
  replay os h = replay_from os (start u) (record {
    whole = length-replicate (size u.loop) none ∙ sym good.whole;
    once = λ o. omega (arith, h o);
    at = λ o. get_or_filled (size u.loop) o none ∙ first (get_or xs o none) ∙ ap (λ (n : ℕ). cond (leb 1 n) none (get_or xs o none)) (sym (h o));
  })
    where
      first : (x : Option ℕ) → none ≡ cond (leb 1 (cond (is_placed x) 1 0)) none x
      first none = refl
      first (some t) = refl
