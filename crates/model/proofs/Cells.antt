-- The counting law: a slot and row stand in an operation's footprint once for each cycle of its use of the slot that falls into the row; over all rows a use counts as its duration. Assumes nothing.
use mathlib.Core.Path.{◌≡◌, refl, sym, ap, ◌∙◌}
use mathlib.Core.Bool.{Bool, true, false, cond, ◌&&◌}
use mathlib.Core.List.{List, [], ◌∷◌}
use Prim.Native.Nat.{ℕ, zero, suc, ◌+◌, ◌-◌, ◌%◌, ◌≤◌, ◌<◌, min}
use native.Mathlib.Nat.{zero-add, add_assoc, add-mod_right, mod-lt}
use native.Mathlib.Numerals.{add-one}
use native.Mathlib.Decide.{ℕ_discrete, dec_lt, dec_le}
use native.Mathlib.Omega.{arith}
use borrow.Author.Tests.{leb-true, le-leb, lt-leb, lt-ltb, le-ltb, eq-eqb, ne_eqb, eqb-true}
use lib.Dec.{eqb, leb}
use lib.ListN.{length}
use Rattle.model.specs.Lists.{up_from, any_of, count_if, sum_of}
use Rattle.model.specs.Loop.{Use, Op, no_use, use_at, UseOk, OpOk}
use Rattle.model.specs.Legality.{Cell, same_cell, covers, cells_in, footprint}
use Rattle.model.specs.Table.{count_of}
use Rattle.model.specs.Counts.{cycles_in}
use Rattle.model.proofs.Lists.{and_left, and_right, or_false_left, or_false_right, or_both, row_any, count_flat_map, count_none, count_next, count_before, count_last, count_never, sum_add, sum_same, sum_none, sum_places}
use Rattle.model.proofs.Sums.{sum_swap, count_sum, sum_only}
use Rattle.model.proofs.Modular.{wrap_ne}

-- ---- a list of cells

-- no cell of a list passes a test, said of each slot and row in it
pub cells_each : (q : Cell → Bool) (xs : List Cell) → any_of q xs ≡ false → (s r : ℕ) → 1 ≤ count_of s r xs → q (record { slot = s; row = r }) ≡ false
unfolding any_of count_if
cells_each q [] e s r h = absurd (omega arith)
cells_each q (c ∷ xs) e s r h = pick (same_cell (record { slot = s; row = r }) c) refl h (cells_each q xs (or_false_right (q c) (any_of q xs) e) s r)
  where
    pick : (b : Bool) → same_cell (record { slot = s; row = r }) c ≡ b → 1 ≤ cond b 1 0 + count_of s r xs → (1 ≤ count_of s r xs → q (record { slot = s; row = r }) ≡ false)
        → q (record { slot = s; row = r }) ≡ false
    pick true same l ih =
        rw (eqb-true s c.slot (and_left (eqb s c.slot) (eqb r c.row) same), eqb-true r c.row (and_right (eqb s c.slot) (eqb r c.row) same))
        (or_false_left (q c) (any_of q xs) e)
    pick false same l ih = ih (omega arith)

-- and the other way round
pub each_cells : (q : Cell → Bool) (xs : List Cell) → ((s r : ℕ) → 1 ≤ count_of s r xs → q (record { slot = s; row = r }) ≡ false) → any_of q xs ≡ false
unfolding any_of count_if
each_cells q [] h = refl
each_cells q (c ∷ xs) h =
    or_both (q c) (any_of q xs) (h c.slot c.row (rw (eq-eqb c.slot c.slot refl, eq-eqb c.row c.row refl) (omega arith)))
    (each_cells q xs (λ s r l. h s r (omega arith)))

-- ---- rows that come again

-- the row of cycle x + n has come before in the n cycles from x on exactly where they are an interval or more
pub cycles_again : (ii x n : ℕ) → 1 ≤ ii → leb 1 (cycles_in ii x ((x + n) % ii) n) ≡ leb ii n
cycles_again ii x n pos = pick (dec_le ii n)
  where
    same : ℕ → Bool
    same j = eqb ((x + n) % ii) ((x + j) % ii)

    pick : Dec (ii ≤ n) → leb 1 (count_if same (up_from 0 n)) ≡ leb ii n
    pick (yes l) =
        let e : x + n ≡ x + (n - ii) + ii = omega arith in
        let h = count_before same (n - ii) n (omega arith) (eq-eqb _ _ (ap (λ (m : ℕ). m % ii) e ∙ add-mod_right (x + (n - ii)) ii)) in
        le-leb 1 (count_if same (up_from 0 n)) (omega arith) ∙ sym (le-leb ii n l)
    pick (no l) =
        rw (count_none same (up_from 0 n) (row_any same 0 n (λ j a b. away j (omega arith)))) (sym (lt-leb ii n (omega arith)))
      where
        away : (j : ℕ) → j < n → same j ≡ false
        away j m =
            let e : x + j + (n - j) ≡ x + n = omega arith in
            ne_eqb _ _ (λ q. wrap_ne ii (x + j) (n - j) (omega arith) (omega arith) (ap (λ (m : ℕ). m % ii) e ∙ q))

-- so in an interval no row comes twice
pub cycles_once : (ii x r n : ℕ) → n ≤ ii → cycles_in ii x r n ≤ 1
cycles_once ii x r n h = pick (dec_le (cycles_in ii x r n) 1)
  where
    pick : Dec (cycles_in ii x r n ≤ 1) → cycles_in ii x r n ≤ 1
    pick (yes l) = l
    pick (no l) =
        let w = count_last (λ j. eqb r ((x + j) % ii)) n (omega arith) in
        let m : 1 ≤ cycles_in ii x ((x + w.0) % ii) w.0 = rw (← eqb-true r _ w.2) (omega (arith, w.3)) in
        absurd (omega (arith, w.1, leb-true ii w.0 (sym (cycles_again ii x w.0 (omega (arith, w.1))) ∙ le-leb 1 _ m)))

-- and in more than one some row does
pub once_cycles : (ii x n : ℕ) → 1 ≤ ii → ((r : ℕ) → cycles_in ii x r n ≤ 1) → n ≤ ii
once_cycles ii x n pos h = pick (dec_le n ii)
  where
    pick : Dec (n ≤ ii) → n ≤ ii
    pick (yes l) = l
    pick (no l) =
        omega (
          arith,
          h ((x + ii) % ii),
          leb-true 1 (cycles_in ii x ((x + ii) % ii) ii) (cycles_again ii x ii pos ∙ le-leb ii ii (omega arith)),
          count_before (λ j. eqb ((x + ii) % ii) ((x + j) % ii)) ii n (omega arith) (eq-eqb ((x + ii) % ii) ((x + ii) % ii) refl),
        )

-- ---- the counting law

-- how many cells of use u of an operation started at t are slot s in row r
abbrev pub use_count : ℕ → ℕ → ℕ → ℕ → Use → ℕ
use_count ii t s r u = count_if (λ j. eqb s u.slot && eqb r ((t + u.offset + j) % ii)) (up_from 0 u.duration)

-- of the cycles below n, those that a use covers are cycles of its own
covers_count : (p : ℕ → Bool) (u : Use) (n : ℕ)
    → count_if (λ k. covers k u && p k) (up_from 0 n) ≡ count_if (λ j. p (u.offset + j)) (up_from 0 (min n (u.offset + u.duration) - u.offset))
unfolding count_if up_from
covers_count p u zero = let e : min 0 (u.offset + u.duration) - u.offset ≡ 0 = omega arith in rw e
covers_count p u (suc n) = rw add-one at (count_next (λ k. covers k u && p k) n) ∙ rw (covers_count p u n) (go (dec_lt n u.offset) (dec_lt n (u.offset + u.duration)))
  where
    own : ℕ → ℕ
    own m = count_if (λ j. p (u.offset + j)) (up_from 0 m)

    go : Dec (n < u.offset) → Dec (n < u.offset + u.duration)
        → own (min n (u.offset + u.duration) - u.offset) + cond (covers n u && p n) 1 0 ≡ own (min (suc n) (u.offset + u.duration) - u.offset)
    go (yes a) b = let e : min (suc n) (u.offset + u.duration) - u.offset ≡ min n (u.offset + u.duration) - u.offset = omega arith in rw (lt-leb u.offset n a, e) (omega arith)
    go (no a) (yes b) =
        let e : min n (u.offset + u.duration) - u.offset ≡ n - u.offset = omega arith in
        let f : min (suc n) (u.offset + u.duration) - u.offset ≡ n - u.offset + 1 = omega arith in
        let g : u.offset + (n - u.offset) ≡ n = omega arith in
        rw (le-leb u.offset n (omega arith), lt-ltb n (u.offset + u.duration) b, e, f, count_next (λ j. p (u.offset + j)) (n - u.offset), g)
    go (no a) (no b) =
        let e : min (suc n) (u.offset + u.duration) - u.offset ≡ min n (u.offset + u.duration) - u.offset = omega arith in
        rw (le-leb u.offset n (omega arith), le-ltb n (u.offset + u.duration) (omega arith), e) (omega arith)

-- a cycle counts a cell once for each use that covers it
cycle_count : (s r row k : ℕ) (us : List Use) → count_of s r (cells_in row k us) ≡ count_if (λ u. covers k u && (eqb s u.slot && eqb r row)) us
unfolding cells_in count_if
cycle_count s r row k [] = refl
cycle_count s r row k (u ∷ us) = step (covers k u) (cells_in row k us) ∙ ap (λ (n : ℕ). cond (covers k u && (eqb s u.slot && eqb r row)) 1 0 + n) (cycle_count s r row k us)
  where
    step : (b : Bool) (cs : List Cell) → count_of s r (cond b (record { slot = u.slot; row = row } ∷ cs) cs) ≡ cond (b && (eqb s u.slot && eqb r row)) 1 0 + count_of s r cs
    step true cs = refl
    step false cs = sym (zero-add (count_of s r cs))

-- over the 16 cycles of an operation a use counts its own
use_count_lem : (ii t s r : ℕ) (u : Use) → UseOk u → count_if (λ k. covers k u && (eqb s u.slot && eqb r ((t + k) % ii))) (up_from 0 16) ≡ use_count ii t s r u
use_count_lem ii t s r u ok =
    let e : min 16 (u.offset + u.duration) - u.offset ≡ u.duration = omega (arith, ok.ends) in
    covers_count (λ k. eqb s u.slot && eqb r ((t + k) % ii)) u 16 ∙ rw e (simp add_assoc)

-- so a slot and row stand in the footprint as often as the uses say together
pub footprint_count : (ii t : ℕ) (p : Op) → OpOk p → (s r : ℕ)
    → count_of s r (footprint ii p t) ≡ sum_of (λ j. use_count ii t s r (use_at p j)) (up_from 0 (length p.uses))
unfolding footprint
footprint_count ii t p ok s r =
    count_flat_map (same_cell (record { slot = s; row = r })) (λ k. cells_in ((t + k) % ii) k p.uses) (up_from 0 16)
    ∙ sum_same _ (λ k. sum_of (λ j. cond (test k j) 1 0) (up_from 0 (length p.uses))) 0 16
    (λ k l m. cycle_count s r ((t + k) % ii) k p.uses ∙ count_sum _ p.uses ∙ sum_places _ p.uses no_use)
    ∙ sum_swap (λ k j. cond (test k j) 1 0) (up_from 0 16) (up_from 0 (length p.uses))
    ∙ sum_same _ (λ j. use_count ii t s r (use_at p j)) 0 (length p.uses)
    (λ j l m. sym (count_sum (λ k. test k j) (up_from 0 16)) ∙ use_count_lem ii t s r (use_at p j) (ok.each j (omega arith)))
  where
    test : ℕ → ℕ → Bool
    test k j = covers k (use_at p j) && (eqb s (use_at p j).slot && eqb r ((t + k) % ii))

-- ---- over all rows

-- the cycles of a use fall into one row each
rows_cycles : (ii x n : ℕ) → 1 ≤ ii → sum_of (λ r. cycles_in ii x r n) (up_from 0 ii) ≡ n
unfolding count_if up_from
rows_cycles ii x zero pos = sum_none (λ r. 0) 0 ii (λ r a b. refl)
rows_cycles ii x (suc n) pos =
    sum_same _ (λ r. cycles_in ii x r n + here r) 0 ii (λ r a b. rw (add-one n) at (count_next (λ j. eqb r ((x + j) % ii)) n))
    ∙ sum_add (λ r. cycles_in ii x r n) here (up_from 0 ii)
    ∙ omega (
      arith,
      rows_cycles ii x n pos,
      sum_only here ii ((x + n) % ii) (mod-lt (x + n) pos) (λ r l n. rw (ne_eqb r _ n)),
      ap {B = ℕ} (λ (b : Bool). cond b 1 0) (eq-eqb ((x + n) % ii) ((x + n) % ii) refl),
    )
  where
    here : ℕ → ℕ
    here r = cond (eqb r ((x + n) % ii)) 1 0

-- so a use counts as its duration, and an operation as the durations of its uses of the slot
pub rows_footprint : (ii t s : ℕ) (p : Op) → OpOk p → 1 ≤ ii
    → sum_of (λ r. count_of s r (footprint ii p t)) (up_from 0 ii) ≡ sum_of (λ u. cond (eqb u.slot s) u.duration 0) p.uses
rows_footprint ii t s p ok pos =
    sum_same _ (λ r. sum_of (λ j. use_count ii t s r (use_at p j)) (up_from 0 (length p.uses))) 0 ii (λ r a b. footprint_count ii t p ok s r)
    ∙ sum_swap (λ r j. use_count ii t s r (use_at p j)) (up_from 0 ii) (up_from 0 (length p.uses))
    ∙ sum_same _ (λ j. cond (eqb (use_at p j).slot s) (use_at p j).duration 0) 0 (length p.uses) (λ j a b. one (use_at p j) (ℕ_discrete s (use_at p j).slot))
    ∙ sym (sum_places (λ u. cond (eqb u.slot s) u.duration 0) p.uses no_use)
  where
    one : (u : Use) → Dec (s ≡ u.slot) → sum_of (λ r. use_count ii t s r u) (up_from 0 ii) ≡ cond (eqb u.slot s) u.duration 0
    one u (yes e) = rw (eq-eqb s u.slot e, eq-eqb u.slot s (sym e)) (rows_cycles ii (t + u.offset) u.duration pos)
    one u (no n) = rw (ne_eqb s u.slot n, ne_eqb u.slot s (λ e. n (sym e))) (sum_none _ 0 ii (λ r a b. count_never (λ j. false) (up_from 0 u.duration) (λ j. refl)))
