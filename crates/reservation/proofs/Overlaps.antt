-- Conflicts of two operations, by uses and cycles. Assumes nothing.
use mathlib.Core.Path.{◌≡◌, refl, sym, ap, ◌∙◌}
use mathlib.Core.Bool.{Bool, true, false, ◌&&◌}
use Prim.Native.Nat.{ℕ, ◌+◌, ◌%◌, ◌≤◌, ◌<◌}
use native.Mathlib.Nat.{add-zero}
use native.Mathlib.Omega.{arith}
use lib.Dec.{eqb, ltb}
use lib.ListN.{length, get_or}
use borrow.Author.Tests.{le-leb, eq-eqb, eqb-true, lt-ltb, ltb-true}
use Rattle.model.specs.Lists.{up_from, any_of}
use Rattle.model.specs.Table.{count_of}
use Rattle.model.specs.Loop.{Use, Op, Loop, no_use, size, op_at, use_at, all_uses, first_use_of, OpOk}
use Rattle.model.specs.Legality.{same_cell, covers, footprint, share, conflict}
use Rattle.model.specs.Counts.{single, used_by, taken_at}
use Rattle.model.proofs.Lists.{and_left, and_right, same_test, any_count, none_count, any_row, row_any, row_some}
use Rattle.model.proofs.Modular.{cycle_of, cycle_row, cycle_first}
use Rattle.model.proofs.Loop.{use_among}
use Rattle.model.proofs.Cells.{cells_each, each_cells}
use Rattle.model.proofs.Conflicts.{Hit, cell_hit, hit_cell}
use Rattle.reservation.specs.Overlaps.{covers_cell, use_meets}

-- ---- the cells of one operation

-- whether a use of an operation started at s covers the slot in the row, by one division
abbrev pub use_pass : ℕ → ℕ → ℕ → ℕ → Use → Bool
use_pass ii s slot row u = eqb u.slot slot && ltb (cycle_of ii (s + u.offset) row) u.duration

module _ (ii : ℕ) (pos : 1 ≤ ii) (p : Op) (ok : OpOk p) (s : ℕ) where
  -- a use that passes covers the cell
  test_hit : (slot row j : ℕ) → row < ii → j < length p.uses → use_pass ii s slot row (use_at p j) ≡ true → Hit ii p s slot row j (cycle_of ii (s + (use_at p j).offset) row)
  test_hit slot row j l m e =
      let u : Use = use_at p j in
      let c : ℕ = cycle_of ii (s + u.offset) row in
      record {
        inside = m;
        slot = eqb-true u.slot slot (and_left (eqb u.slot slot) (ltb c u.duration) e);
        going = ltb-true c u.duration (and_right (eqb u.slot slot) (ltb c u.duration) e);
        row = cycle_row ii (s + u.offset) row pos l;
      }

  -- and one that covers it passes
  hit_test : (slot row j i : ℕ) → Hit ii p s slot row j i → use_pass ii s slot row (use_at p j) ≡ true
  hit_test slot row j i h =
      let u : Use = use_at p j in
      rw (eq-eqb u.slot slot h.slot)
      (lt-ltb (cycle_of ii (s + u.offset) row) u.duration (omega (arith, h.going, cycle_first ii (s + u.offset) row i pos h.row)))

-- a use of the slot that is going on when the row comes passes
pub pass_on : (ii s slot row : ℕ) (u : Use) → u.slot ≡ slot → cycle_of ii (s + u.offset) row < u.duration → use_pass ii s slot row u ≡ true
pass_on ii s slot row u e h = rw (eq-eqb u.slot slot e, lt-ltb (cycle_of ii (s + u.offset) row) u.duration h)

module _ (ii : ℕ) (pos : 1 ≤ ii) (p : Op) (ok : OpOk p) (s slot row : ℕ) (l : row < ii) where
  -- a use that passes is enough
  pub pass_covers : (j : ℕ) → j < length p.uses → use_pass ii s slot row (use_at p j) ≡ true → covers_cell ii p s slot row ≡ true
  unfolding covers_cell
  pass_covers j m e = any_count _ (footprint ii p s) ∙ le-leb 1 _ (hit_cell ii p s ok slot row j _ (test_hit ii pos p ok s slot row j l m e))

  -- where none passes, the operation does not cover the cell
  pub none_covers : ((j : ℕ) → j < length p.uses → use_pass ii s slot row (use_at p j) ≡ false) → covers_cell ii p s slot row ≡ false
  unfolding covers_cell
  none_covers h = none_count _ (footprint ii p s) (omega (arith, away))
    where
      away : 1 ≤ count_of slot row (footprint ii p s) → ⊥
      away c =
          let w = cell_hit ii p s ok slot row c in
          let z : false ≡ true = sym (h w.0 w.2.inside) ∙ hit_test ii pos p ok s slot row w.0 w.1 w.2 in
          cc

-- ---- two operations

-- use j of operation o, as it is read among all uses
pub own_use : (l : Loop) (o first j : ℕ) → o < size l → first ≡ first_use_of l o → j < length (op_at l o).uses → get_or (all_uses l) (first + j) no_use ≡ use_at (op_at l o) j
own_use l o first j h e m = ap (λ (n : ℕ). get_or (all_uses l) (n + j) no_use) e ∙ use_among l o j h m

module _ (ii : ℕ) (pos : 1 ≤ ii) (p q : Op) (ok : OpOk p) (s t : ℕ) where
  -- two operations conflict exactly where a cycle of a use of the first meets the second
  pub two_uses : conflict ii p s q t ≡ any_of (λ j. use_meets ii q s t (use_at p j)) (up_from 0 (length p.uses))
  unfolding conflict share covers_cell use_meets
  two_uses = same_test (share (footprint ii p s) (footprint ii q t)) (any_of uses_test (up_from 0 (length p.uses))) away toward
    where
      cycle_test : ℕ → ℕ → Bool
      cycle_test j k = covers_cell ii q t (use_at p j).slot ((s + (use_at p j).offset + k) % ii)

      uses_test : ℕ → Bool
      uses_test j = any_of (cycle_test j) (up_from 0 (use_at p j).duration)

      away : share (footprint ii p s) (footprint ii q t) ≡ false → any_of uses_test (up_from 0 (length p.uses)) ≡ false
      away e =
          row_any uses_test 0 (length p.uses) (λ j x y. row_any (cycle_test j) 0 (use_at p j).duration (λ k v w.
          cells_each (λ c. any_of (same_cell c) (footprint ii q t)) (footprint ii p s) e (use_at p j).slot _
          (hit_cell ii p s ok (use_at p j).slot _ j k (record { inside = omega arith; slot = refl; going = omega arith; row = refl }))))

      toward : any_of uses_test (up_from 0 (length p.uses)) ≡ false → share (footprint ii p s) (footprint ii q t) ≡ false
      toward e = each_cells (λ c. any_of (same_cell c) (footprint ii q t)) (footprint ii p s) (λ slot row h. one slot row (cell_hit ii p s ok slot row h))
        where
          one : (slot row : ℕ) → ((j : ℕ) × (k : ℕ) × Hit ii p s slot row j k) → any_of (same_cell (record { slot = slot; row = row })) (footprint ii q t) ≡ false
          one slot row (j, k, h) =
              rw (← h.slot, ← h.row)
              (any_row (cycle_test j) 0 (use_at p j).duration k (any_row uses_test 0 (length p.uses) j e (omega arith) (omega (arith, h.inside))) (omega arith) (omega (arith, h.going)))

-- of a use of slot x, offset y and duration z, and an operation q started at t
module _ (ii : ℕ) (q : Op) (s t : ℕ) (u : Use) (x y z : ℕ) (a : x ≡ u.slot) (b : y ≡ u.offset) (d : z ≡ u.duration) where
  -- a cycle whose cell the operation covers is enough
  pub meets_some : (k : ℕ) → k < z → covers_cell ii q t x ((s + y + k) % ii) ≡ true → use_meets ii q s t u ≡ true
  unfolding use_meets
  meets_some k l e =
      let g : covers_cell ii q t u.slot ((s + u.offset + k) % ii) ≡ true = rw (← a, ← b) e in
      row_some (λ k. covers_cell ii q t u.slot ((s + u.offset + k) % ii)) u.duration k (omega arith) g

  -- where it covers the cell of none, the use does not meet it
  pub meets_none : ((k : ℕ) → k < z → covers_cell ii q t x ((s + y + k) % ii) ≡ false) → use_meets ii q s t u ≡ false
  unfolding use_meets
  meets_none h =
      row_any (λ k. covers_cell ii q t u.slot ((s + u.offset + k) % ii)) 0 u.duration (λ k v w. rw (← a, ← b) (h k (omega arith)))

module _ (ii : ℕ) (pos : 1 ≤ ii) (p q : Op) (ok : OpOk p) (s t : ℕ) where
  -- a use of the first operation that meets the second is enough
  pub uses_some : (j : ℕ) → j < length p.uses → use_meets ii q s t (use_at p j) ≡ true → conflict ii p s q t ≡ true
  uses_some j l e = two_uses ii pos p q ok s t ∙ row_some (λ j. use_meets ii q s t (use_at p j)) (length p.uses) j l e

  -- where none meets it, the two do not conflict
  pub uses_none : ((j : ℕ) → j < length p.uses → use_meets ii q s t (use_at p j) ≡ false) → conflict ii p s q t ≡ false
  uses_none h = two_uses ii pos p q ok s t ∙ row_any (λ j. use_meets ii q s t (use_at p j)) 0 (length p.uses) (λ j v w. h j (omega arith))

-- ---- the first place that two operations share

-- whether use v of an operation started at t meets in cycle k operation p, started at s
module _ (ii s t k : ℕ) (p : Op) (v : Use) where
  -- while it lasts, where p covers its slot in the row of the cycle
  pub shared_cell : covers k v ≡ true → taken_at single (used_by ii p s) false ii t k v ≡ covers_cell ii p s v.slot ((t + k) % ii)
  unfolding covers_cell
  shared_cell h =
      let n : ℕ = count_of v.slot ((t + k) % ii) (footprint ii p s) in
      rw (h, add-zero n) (sym (any_count _ (footprint ii p s)))
