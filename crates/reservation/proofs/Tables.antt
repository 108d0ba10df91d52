-- Reserving and releasing an operation, as cells more and cells less in the table. Assumes nothing.
use mathlib.Core.Path.{◌≡◌, refl, ◌∙◌}
use mathlib.Core.Bool.{◌&&◌}
use mathlib.Core.List.{List, [], ◌∷◌, ◌++◌, append_assoc}
use Prim.Native.Nat.{ℕ, zero, suc, ◌+◌, ◌%◌, ◌≤◌}
use native.Mathlib.Nat.{le_refl, mod-lt}
use native.Mathlib.Numerals.{add-one}
use native.Mathlib.Omega.{arith}
use lib.Dec.{eqb}
use lib.ListN.{length, get_or}
use Rattle.model.specs.Lists.{up_from, count_if, sum_of}
use Rattle.model.specs.Loop.{Use, Op, no_use, use_at, OpOk}
use Rattle.model.specs.Legality.{Cell, same_cell, footprint}
use Rattle.model.specs.Table.{count_of, IsTable}
use Rattle.model.proofs.Lists.{count_append, count_next}
use Rattle.model.proofs.Sums.{sum_next}
use Rattle.model.proofs.Cells.{use_count, footprint_count}
use Rattle.model.proofs.Table.{count_middle, table_same, table_add, table_drop}
use Rattle.reservation.specs.Rows.{over_use, over_uses, with_one, less_one}

-- ---- the cells of one use

-- the cells of slot t in the rows (start + k) % ii for k below d, the last first
unfoldable pub use_cells : ℕ → ℕ → ℕ → ℕ → List Cell
use_cells ii t start zero = []
use_cells ii t start (suc k) = record { slot = t; row = (start + k) % ii } ∷ use_cells ii t start k

-- one more in the digits of a use adds its cells to the table
pub use_table : {base : ℕ} (ii t start k : ℕ) (cells : List Cell) (rows : List ℕ) → 1 ≤ ii → 1 ≤ t → t ≤ 24
    → IsTable base ii cells rows → IsTable base ii (use_cells ii t start k ++ cells) (over_use (with_one base t) ii start k rows)
unfolding use_cells over_use
use_table {base} ii t start zero cells rows p lo hi h = h
use_table {base} ii t start (suc k) cells rows p lo hi h =
    table_add base ii t ((start + k) % ii) (use_cells ii t start k ++ cells) (over_use (with_one base t) ii start k rows) (mod-lt (start + k) p) lo hi
    (use_table ii t start k cells rows p lo hi h)

-- and one less takes its cells off
pub unuse_table : {base : ℕ} (ii t start k : ℕ) (cells : List Cell) (rows : List ℕ) → 1 ≤ ii → 1 ≤ t → t ≤ 24
    → IsTable base ii (use_cells ii t start k ++ cells) rows → IsTable base ii cells (over_use (less_one base t) ii start k rows)
unfolding use_cells over_use
unuse_table {base} ii t start zero cells rows p lo hi h = h
unuse_table {base} ii t start (suc k) cells rows p lo hi h =
    let c : Cell = record { slot = t; row = (start + k) % ii } in
    table_drop base ii t ((start + k) % ii) cells (over_use (less_one base t) ii start k rows) (mod-lt (start + k) p) lo hi
    (unuse_table ii t start k (c ∷ cells) rows p lo hi
    (table_same base ii (c ∷ (use_cells ii t start k ++ cells)) (use_cells ii t start k ++ (c ∷ cells)) rows (λ s r. count_middle s r c (use_cells ii t start k) cells) h))

-- ---- the cells of an operation's uses, one use after the other

-- those of use u of an operation started at s
abbrev pub cells_of_use : ℕ → ℕ → Use → List Cell
cells_of_use ii s u = use_cells ii u.slot (s + u.offset) u.duration

-- those of the first n uses, the last use first
unfoldable pub uses_cells : ℕ → ℕ → List Use → ℕ → List Cell
uses_cells ii s us zero = []
uses_cells ii s us (suc n) = cells_of_use ii s (get_or us n no_use) ++ uses_cells ii s us n

-- they count as the uses do together
uses_count : (ii s : ℕ) (us : List Use) (t r n : ℕ) → count_of t r (uses_cells ii s us n) ≡ sum_of (λ j. use_count ii s t r (get_or us j no_use)) (up_from 0 n)
unfolding use_cells uses_cells count_if sum_of up_from
uses_count ii s us t r zero = refl
uses_count ii s us t r (suc n) =
    count_append (same_cell (record { slot = t; row = r })) (cells_of_use ii s (get_or us n no_use)) (uses_cells ii s us n)
    ∙ omega (arith, uses_count ii s us t r n, one (get_or us n no_use).duration, rw (add-one n) at (sum_next (λ j. use_count ii s t r (get_or us j no_use)) n))
  where
    u : Use
    u = get_or us n no_use

    one : (d : ℕ) → count_of t r (use_cells ii u.slot (s + u.offset) d) ≡ count_if (λ j. eqb t u.slot && eqb r ((s + u.offset + j) % ii)) (up_from 0 d)
    one zero = refl
    one (suc d) = omega (arith, one d, rw (add-one d) at (count_next (λ j. eqb t u.slot && eqb r ((s + u.offset + j) % ii)) d))

-- ---- the laws

module _ {base : ℕ} (ii s : ℕ) (p : Op) (ok : OpOk p) (pos : 1 ≤ ii) where
  -- the first n uses
  uses_table_lem : (n : ℕ) → n ≤ length p.uses → (cells : List Cell) (rows : List ℕ) → IsTable base ii cells rows
      → IsTable base ii (uses_cells ii s p.uses n ++ cells) (over_uses (with_one base) ii s p.uses n rows)
  unfolding uses_cells over_uses
  uses_table_lem zero l cells rows h = h
  uses_table_lem (suc n) l cells rows h =
      let u : Use = use_at p n in
      let o = ok.each n l in
      rw append_assoc
      (use_table ii u.slot (s + u.offset) u.duration (uses_cells ii s p.uses n ++ cells) (over_uses (with_one base) ii s p.uses n rows) pos o.slot_low o.slot_high
      (uses_table_lem n (omega arith) cells rows h))

  unuses_table : (n : ℕ) → n ≤ length p.uses → (cells : List Cell) (rows : List ℕ) → IsTable base ii (uses_cells ii s p.uses n ++ cells) rows
      → IsTable base ii cells (over_uses (less_one base) ii s p.uses n rows)
  unfolding uses_cells over_uses
  unuses_table zero l cells rows h = h
  unuses_table (suc n) l cells rows h =
      let u : Use = use_at p n in
      let o = ok.each n l in
      let a = cells_of_use ii s u in
      let b = uses_cells ii s p.uses n in
      unuse_table ii u.slot (s + u.offset) u.duration cells (over_uses (less_one base) ii s p.uses n rows) pos o.slot_low o.slot_high
      (unuses_table n (omega arith) (a ++ cells) rows
      (table_same base ii ((a ++ b) ++ cells) (b ++ (a ++ cells)) rows (λ t r. simp count_append (omega arith)) h))

  -- reserving an operation adds its footprint to the table
  pub reserve_table : (cells : List Cell) (rows : List ℕ) → IsTable base ii cells rows
      → IsTable base ii (footprint ii p s ++ cells) (over_uses (with_one base) ii s p.uses (length p.uses) rows)
  reserve_table cells rows h =
      let n : ℕ = length p.uses in
      table_same base ii (uses_cells ii s p.uses n ++ cells) (footprint ii p s ++ cells) (over_uses (with_one base) ii s p.uses n rows)
      (λ t r. simp count_append (omega (arith, footprint_count ii s p ok t r, uses_count ii s p.uses t r n))) (uses_table_lem n (le_refl n) cells rows h)

  -- and releasing it takes its footprint off
  pub release_table : (cells : List Cell) (rows : List ℕ) → IsTable base ii (footprint ii p s ++ cells) rows
      → IsTable base ii cells (over_uses (less_one base) ii s p.uses (length p.uses) rows)
  release_table cells rows h =
      let n : ℕ = length p.uses in
      unuses_table n (le_refl n) cells rows
      (table_same base ii (footprint ii p s ++ cells) (uses_cells ii s p.uses n ++ cells) rows (λ t r. simp count_append (omega (arith, footprint_count ii s p ok t r, uses_count ii s p.uses t r n))) h)
