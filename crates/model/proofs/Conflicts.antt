-- No pair conflicts exactly where no cell occurs twice. Assumes nothing.
use mathlib.Core.Path.{◌≡◌, refl, sym, ap, ◌∙◌, fun_ext}
use mathlib.Core.Bool.{Bool, true, false, not, ◌&&◌, and-false}
use mathlib.Core.List.{List, []}
use mathlib.Core.Logic.{◌⊎◌, inl, inr}
use mathlib.Core.Option.{Option, none, some}
use Prim.Native.Nat.{ℕ, zero, suc, ◌+◌, ◌%◌, ◌≤◌, ◌<◌}
use native.Mathlib.Decide.{ℕ_discrete, dec_le}
use native.Mathlib.Nat.{eq-or-lt_of_le, le_of_suc-le-suc}
use native.Mathlib.Omega.{arith}
use borrow.Author.Tests.{ltb-false, eqb-true, le-ltb, eq-eqb, ne_eqb}
use lib.Dec.{eqb, ltb}
use lib.ListN.{length}
use Rattle.model.specs.Lists.{up_from, any_of, count_if, sum_of}
use Rattle.model.specs.Loop.{Use, Op, Loop, no_use, size, op_at, use_at, OpOk, LoopOk}
use Rattle.model.specs.Legality.{Placing, Cell, same_cell, footprint, share, conflict, self_conflict, conflict_at, self_conflict_at, pair_conflict, apart, conflicts_with}
use Rattle.model.specs.Table.{count_of, op_cells, cells_of}
use Rattle.model.specs.Counts.{cycles_in}
use Rattle.model.proofs.Lists.{and_left, and_right, same_test, any_flat_map, any_at, at_any, count_flat_map, count_none, none_count, count_never, count_before, count_last, one_sum, two_sum}
use Rattle.model.proofs.Cells.{use_count, cycles_once, once_cycles, footprint_count, cells_each, each_cells}
use Rattle.model.proofs.Sums.{sum_last, sum_only}
use Rattle.model.proofs.Legality.{apart_each, each_apart}

-- ---- cells in common

-- of two lists with no cell in common, a cell of the first is not in the second
pub apart_cells : (xs ys : List Cell) → share xs ys ≡ false → (s r : ℕ) → 1 ≤ count_of s r xs → count_of s r ys ≡ 0
unfolding share
apart_cells xs ys e s r h = count_none (same_cell (record { slot = s; row = r })) ys (cells_each (λ c. any_of (same_cell c) ys) xs e s r h)

-- and the other way round
pub cells_apart : (xs ys : List Cell) → ((s r : ℕ) → 1 ≤ count_of s r xs → count_of s r ys ≡ 0) → share xs ys ≡ false
unfolding share
cells_apart xs ys h = each_cells (λ c. any_of (same_cell c) ys) xs (λ s r l. none_count (same_cell (record { slot = s; row = r })) ys (h s r l))

-- having one in common goes both ways
pub share_sym : (xs ys : List Cell) → share xs ys ≡ share ys xs
share_sym xs ys = same_test (share xs ys) (share ys xs) (flip xs ys) (flip ys xs)
  where
    flip : (xs ys : List Cell) → share xs ys ≡ false → share ys xs ≡ false
    flip xs ys e = cells_apart ys xs (λ s r h. let no : 1 ≤ count_of s r xs → ⊥ = λ l. omega (arith, apart_cells xs ys e s r l) in omega arith)

-- ---- the cells of one operation

-- use j of p started at t covers slot s in its own cycle i, whose row is r
pub record Hit (ii : ℕ) (p : Op) (t s r j i : ℕ) : Type 0 where
  pub inside : j < length p.uses
  pub slot : (use_at p j).slot ≡ s
  pub going : i < (use_at p j).duration
  pub row : (t + (use_at p j).offset + i) % ii ≡ r

-- the slots of the uses rise from each to any later one
pub slots_rise : (p : Op) → OpOk p → (j k : ℕ) → j < k → k < length p.uses → (use_at p j).slot < (use_at p k).slot
slots_rise p ok j zero l m = absurd (omega arith)
slots_rise p ok j (suc k) l m = pick (eq-or-lt_of_le (le_of_suc-le-suc l)) (λ q. slots_rise p ok j k q (omega arith))
  where
    pick : (j ≡ k) ⊎ (j < k) → (j < k → (use_at p j).slot < (use_at p k).slot) → (use_at p j).slot < (use_at p (suc k)).slot
    pick (inl q) ih = rw q (ok.rising k m)
    pick (inr q) ih = omega (arith, ih q, ok.rising k m)

module _ (ii : ℕ) (p : Op) (t : ℕ) (ok : OpOk p) where
  -- so of a slot only its own use counts
  pub own_count : (j r : ℕ) → j < length p.uses → count_of (use_at p j).slot r (footprint ii p t) ≡ cycles_in ii (t + (use_at p j).offset) r (use_at p j).duration
  own_count j r l = footprint_count ii t p ok s r ∙ sum_only f (length p.uses) j l (λ i m n. away i (other i m n)) ∙ rw (eq-eqb (use_at p j).slot (use_at p j).slot refl)
    where
      s : ℕ
      s = (use_at p j).slot

      f : ℕ → ℕ
      f i = use_count ii t s r (use_at p i)

      other : (i : ℕ) → i < length p.uses → (i ≡ j → ⊥) → (use_at p j).slot ≡ (use_at p i).slot → ⊥
      other i m n e =
          let lt : i < j → ⊥ = λ q. omega (arith, slots_rise p ok i j q l) in
          let gt : j < i → ⊥ = λ q. omega (arith, slots_rise p ok j i q m) in
          n (omega arith)

      away : (i : ℕ) → ((use_at p j).slot ≡ (use_at p i).slot → ⊥) → f i ≡ 0
      away i n = rw (ne_eqb (use_at p j).slot (use_at p i).slot n) (count_never (λ k. false) (up_from 0 (use_at p i).duration) (λ k. refl))

  -- a cell of the footprint is one that a use covers
  pub cell_hit : (s r : ℕ) → 1 ≤ count_of s r (footprint ii p t) → (j : ℕ) × (i : ℕ) × Hit ii p t s r j i
  cell_hit s r h =
      let w = sum_last (λ j. use_count ii t s r (use_at p j)) (length p.uses) (rw (footprint_count ii t p ok s r) at h) in
      let u : Use = use_at p w.0 in
      let v = count_last (λ i. eqb s u.slot && eqb r ((t + u.offset + i) % ii)) u.duration w.2 in (
        w.0,
        v.0,
        record {
          inside = w.1;
          slot = sym (eqb-true s _ (and_left (eqb s u.slot) _ v.2));
          going = v.1;
          row = sym (eqb-true r _ (and_right (eqb s u.slot) _ v.2));
        },
      )

  -- and the other way round
  pub hit_cell : (s r j i : ℕ) → Hit ii p t s r j i → 1 ≤ count_of s r (footprint ii p t)
  hit_cell s r j i h =
      let c = count_before (λ i. eqb r ((t + (use_at p j).offset + i) % ii)) i (use_at p j).duration h.going (eq-eqb r _ (sym h.row)) in
      rw (← h.slot) (omega (arith, own_count j r h.inside))

  -- an operation that does not conflict with itself covers no cell twice
  pub self_once : self_conflict ii p ≡ false → (s r : ℕ) → count_of s r (footprint ii p t) ≤ 1
  unfolding self_conflict
  self_once e s r = pick (ℕ_discrete (count_of s r (footprint ii p t)) 0)
    where
      pick : Dec (count_of s r (footprint ii p t) ≡ 0) → count_of s r (footprint ii p t) ≤ 1
      pick (yes z) = omega arith
      pick (no n) =
          let w = cell_hit s r (omega arith) in
          let j : ℕ = w.0 in
          rw (← w.2.slot)
          (omega (
            arith,
            own_count j r w.2.inside,
            cycles_once ii (t + (use_at p j).offset) r (use_at p j).duration (ltb-false ii _ (any_at (λ u. ltb ii u.duration) p.uses j no_use e w.2.inside)),
          ))

  -- and the other way round
  pub once_self : 1 ≤ ii → ((s r : ℕ) → count_of s r (footprint ii p t) ≤ 1) → self_conflict ii p ≡ false
  unfolding self_conflict
  once_self pos h =
      at_any (λ u. ltb ii u.duration) p.uses no_use (λ j l.
      le-ltb ii (use_at p j).duration (once_cycles ii (t + (use_at p j).offset) (use_at p j).duration pos (λ r. omega (arith, own_count j r l, h (use_at p j).slot r))))

-- the same of an operation that may not be placed
pub placed_once : (ii : ℕ) (p : Op) (x : Option ℕ) → OpOk p → self_conflict_at ii p x ≡ false → (s r : ℕ) → count_of s r (op_cells ii p x) ≤ 1
unfolding count_if
placed_once ii p none ok e s r = omega arith
placed_once ii p (some t) ok e s r = self_once ii p t ok e s r

-- and the other way round
pub once_placed : (ii : ℕ) (p : Op) (x : Option ℕ) → OpOk p → 1 ≤ ii → ((s r : ℕ) → count_of s r (op_cells ii p x) ≤ 1) → self_conflict_at ii p x ≡ false
once_placed ii p none ok pos h = refl
once_placed ii p (some t) ok pos h = once_self ii p t ok pos h

-- two operations that may not be placed conflict exactly where their cells have one in common
conflict_share : (ii : ℕ) (p q : Op) (x y : Option ℕ) → conflict_at ii p x q y ≡ share (op_cells ii p x) (op_cells ii q y)
unfolding share conflict any_of count_if
conflict_share ii p q none y = refl
conflict_share ii p q (some a) none = sym (cells_apart (footprint ii p a) [] (λ s r h. refl))
conflict_share ii p q (some a) (some b) = refl

-- ---- all operations

module _ (l : Loop) (ii : ℕ) (f : Placing) where
  -- how often a cell stands among those of operation o
  abbrev pub cells_at : ℕ → ℕ → ℕ → ℕ
  cells_at s r o = count_of s r (op_cells ii (op_at l o) (f o))

  -- the cells of all operations, by the operations
  pub cells_sum : (s r : ℕ) → count_of s r (cells_of l ii f) ≡ sum_of (cells_at s r) (up_from 0 (size l))
  unfolding cells_of
  cells_sum s r = count_flat_map (same_cell (record { slot = s; row = r })) (λ o. op_cells ii (op_at l o) (f o)) (up_from 0 (size l))

  -- where no pair conflicts no cell occurs twice
  pub apart_once : LoopOk l → apart l ii f ≡ true → (s r : ℕ) → count_of s r (cells_of l ii f) ≤ 1
  apart_once ok e s r = rw cells_sum (pick (dec_le (sum_of (cells_at s r) (up_from 0 (size l))) 1))
    where
      pick : Dec (sum_of (cells_at s r) (up_from 0 (size l)) ≤ 1) → sum_of (cells_at s r) (up_from 0 (size l)) ≤ 1
      pick (yes h) = h
      pick (no n) =
          let b = sum_last (cells_at s r) (size l) (omega arith) in
          let one = placed_once ii (op_at l b.0) (f b.0) (ok.op_ok b.0 b.1) (rw (eq-eqb b.0 b.0 refl) at (apart_each l ii f e b.0 b.0 (omega arith) b.1)) s r in
          let a = sum_last (cells_at s r) b.0 (omega (arith, b.3)) in
          let other = rw (ne_eqb a.0 b.0 (λ q. omega (arith, a.1))) at (apart_each l ii f e a.0 b.0 (omega (arith, a.1)) b.1) in
          absurd (omega (arith, b.2, apart_cells _ (op_cells ii (op_at l b.0) (f b.0)) (sym (conflict_share ii (op_at l a.0) _ (f a.0) (f b.0)) ∙ other) s r a.2))

  -- and the other way round
  pub once_apart : LoopOk l → 1 ≤ ii → ((s r : ℕ) → count_of s r (cells_of l ii f) ≤ 1) → apart l ii f ≡ true
  once_apart ok pos h = each_apart l ii f (λ a b m n. pick a b m n (eq-or-lt_of_le m))
    where
      pick : (a b : ℕ) → a ≤ b → b < size l → (a ≡ b) ⊎ (a < b) → pair_conflict l ii f (a, b) ≡ false
      pick a b m n (inl q) =
          rw (← q, eq-eqb a a refl)
          (once_placed ii (op_at l a) (f a) (ok.op_ok a (omega arith)) pos (λ s r. omega (arith, cells_sum s r, h s r, one_sum (cells_at s r) (size l) a (omega arith))))
      pick a b m n (inr q) =
          rw (ne_eqb a b (λ e. omega arith))
          (conflict_share ii (op_at l a) (op_at l b) (f a) (f b)
          ∙ cells_apart (op_cells ii (op_at l a) (f a)) (op_cells ii (op_at l b) (f b)) (λ s r o. omega (arith, cells_sum s r, h s r, two_sum (cells_at s r) (size l) a b q n)))

-- an operation has a cell in common with the placed ones exactly where it conflicts with one of them
pub share_place : (l : Loop) (ii : ℕ) (f : Placing) (o t : ℕ) → f o ≡ none
    → share (footprint ii (op_at l o) t) (cells_of l ii f) ≡ any_of (conflicts_with l ii f o t) (up_from 0 (size l))
unfolding share cells_of conflict any_of
share_place l ii f o t open_yet =
    share_sym own (cells_of l ii f) ∙ any_flat_map (λ c. any_of (same_cell c) own) (λ p. op_cells ii (op_at l p) (f p)) (up_from 0 (size l))
    ∙ ap (λ (q : ℕ → Bool). any_of q (up_from 0 (size l))) (fun_ext (λ p. each p (f p) refl))
  where
    own : List Cell
    own = footprint ii (op_at l o) t

    each : (p : ℕ) (x : Option ℕ) → f p ≡ x → share (op_cells ii (op_at l p) x) own ≡ (not (eqb p o) && conflict_at ii (op_at l o) (some t) (op_at l p) x)
    each p none e = sym (and-false (not (eqb p o)))
    each p (some x) e =
        rw (ne_eqb p o (λ q. let y : some x ≡ none = sym e ∙ ap f q ∙ open_yet in let z : ◌≡◌ {A = ℕ} 0 1 = cc in omega arith)) (share_sym (footprint ii (op_at l p) x) own)
