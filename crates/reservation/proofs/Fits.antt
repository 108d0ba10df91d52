-- The first taken place of the conflict test is the model's at capacity 1, where the rows are the table of some cells, and where there are no rows at all. Assumes nothing.
use mathlib.Core.Path.{◌≡◌, sym, ap, ◌∙◌}
use mathlib.Core.Bool.{Bool, true, ◌&&◌, ◌||◌}
use mathlib.Core.List.{List, []}
use Prim.Native.Nat.{ℕ, zero, suc, ◌+◌, ◌-◌, ◌%◌, ◌≤◌, ◌<◌}
use native.Mathlib.Decide.{dec_le}
use native.Mathlib.Nat.{zero-add, mod-lt}
use native.Mathlib.Omega.{arith}
use borrow.Author.Tests.{leb-true, le-leb, lt-leb, eq-eqb}
use lib.Dec.{eqb, leb}
use lib.ListN.{length}
use Rattle.model.specs.Loop.{Use, Op, no_use, use_at, OpOk}
use Rattle.model.specs.Legality.{Cell, covers}
use Rattle.model.specs.Table.{count_of, IsTable, digit_of, Digits}
use Rattle.model.specs.Counts.{single, Usage, cycles_in}
use Rattle.model.specs.Counts as counts
use Rattle.model.proofs.Lists.{same_true}
use Rattle.model.proofs.Firsts.{grid_same}
use Rattle.model.proofs.Table.{digit_count}
use Rattle.model.proofs.Cells.{cycles_again}
use Rattle.reservation.specs.Place.{row_at, met_at, first_met}
use Rattle.reservation.proofs.TakenCells.{digit_none}

-- where each row has the digits that u says, which are 0 or 1
module _ (base ii : ℕ) (u : Usage) (rows : List ℕ) (p : Op) (pos : 1 ≤ ii) (s : ℕ)
    (says : (k j : ℕ) → j < length p.uses → digit_of base (row_at ii rows s k) (use_at p j).slot ≡ u (use_at p j).slot ((s + k) % ii))
    (few : (a r : ℕ) → u a r < 2) where
  -- a use meets a taken cell exactly where the cell has no room beside u and the use's own earlier ones
  taken_bit : (k j : ℕ) → j < length p.uses → counts.taken_at single u true ii s k (use_at p j) ≡ met_at base ii rows s k (use_at p j)
  taken_bit k j l = pick (dec_le v.offset k)
    where
      v : Use
      v = use_at p j

      bit : ℕ
      bit = digit_of base (row_at ii rows s k) v.slot

      own : ℕ
      own = cycles_in ii (s + v.offset) ((s + k) % ii) (k - v.offset)

      either : (n m : ℕ) → n < 2 → leb 1 (n + m) ≡ (eqb n 1 || leb 1 m)
      either zero m h = ap (leb 1) (zero-add m)
      either (suc n) m h = le-leb 1 (suc n + m) (omega arith) ∙ sym (rw (eq-eqb (suc n) 1 (omega arith)))

      again : v.offset ≤ k → leb 1 own ≡ leb (v.offset + ii) k
      again a =
          let e : s + v.offset + (k - v.offset) ≡ s + k = omega arith in
          (rw e at (cycles_again ii (s + v.offset) (k - v.offset) pos))
          ∙ same_true (leb ii (k - v.offset)) (leb (v.offset + ii) k)
          (λ q. le-leb (v.offset + ii) k (omega (arith, leb-true ii (k - v.offset) q))) (λ q. le-leb ii (k - v.offset) (omega (arith, leb-true (v.offset + ii) k q)))

      pick : Dec (v.offset ≤ k) → counts.taken_at single u true ii s k (use_at p j) ≡ met_at base ii rows s k (use_at p j)
      pick (yes a) =
          let n : bit ≡ u v.slot ((s + k) % ii) = says k j l in
          ap (λ (b : Bool). covers k v && b)
          (ap (λ (n : ℕ). leb 1 (n + own)) (sym n) ∙ either bit own (omega (arith, n, few v.slot ((s + k) % ii))) ∙ ap (λ (b : Bool). eqb bit 1 || b) (again a))
      pick (no a) = rw (lt-leb v.offset k (omega arith))

  -- so both find the same first place
  digits_same : counts.first_taken single u true ii p s ≡ first_met base ii rows s p.uses
  unfolding first_met counts.first_taken
  digits_same = grid_same _ p.uses no_use 16 (met_at base ii rows s) (λ k j l m. taken_bit k j m)

-- the rows are the table of some cells
pub taken_same : {base : ℕ} → 2 ≤ base → (ii : ℕ) (cells : List Cell) (rows : List ℕ) → IsTable base ii cells rows → Digits 2 cells → (p : Op) → OpOk p → 1 ≤ ii → (s : ℕ)
    → counts.first_taken single (λ a r. count_of a r cells) true ii p s ≡ first_met base ii rows s p.uses
taken_same {base} wide ii cells rows t d p ok pos s =
    digits_same base ii (λ a r. count_of a r cells) rows p pos s
    (λ k j l. digit_count base ii (use_at p j).slot ((s + k) % ii) cells rows t (λ a r. omega (arith, d a r, wide)) (mod-lt (s + k) pos) (ok.each j l).slot_low (ok.each j l).slot_high)
    (λ a r. d a r)

-- there are no rows: what is taken is the operation's own
pub own_same : (base ii : ℕ) (p : Op) → 1 ≤ ii → (s : ℕ) → counts.first_taken single counts.unused true ii p s ≡ first_met base ii [] 0 p.uses
unfolding first_met
own_same base ii p pos s = digits_same base ii counts.unused [] p pos s (λ k j l. digit_none base (use_at p j).slot) (λ a r. omega arith)
