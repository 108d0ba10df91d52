-- What reserving and releasing ask of the rows, from what the table's cells are. Assumes nothing.
use mathlib.Core.Path.{◌≡◌, refl, ◌∙◌}
use mathlib.Core.Bool.{false}
use mathlib.Core.List.{List, ◌++◌}
use Prim.Native.Nat.{ℕ, ◌+◌, ◌%◌, ◌≤◌, ◌<◌}
use native.Mathlib.Nat.{mod-lt}
use native.Mathlib.Omega.{arith}
use borrow.Author.Tests.{ltb-false}
use lib.Dec.{ltb}
use lib.ListN.{length, get_or}
use Rattle.model.specs.Loop.{Op, no_use, use_at, OpOk}
use Rattle.model.specs.Legality.{Cell, same_cell, footprint, self_conflict}
use Rattle.model.specs.Table.{count_of, IsTable, digit_of, Digits}
use Rattle.model.proofs.Lists.{any_at, count_append}
use Rattle.model.proofs.Conflicts.{hit_cell, once_self}
use Rattle.model.proofs.Table.{digit_count}
use Rattle.reservation.specs.Rows.{UsesIn}

module _ {base : ℕ} (ii s : ℕ) (p : Op) (ok : OpOk p) (pos : 1 ≤ ii) (near : s ≤ 4096) where
  -- where each cell of the footprint has the digit d, the uses lie in the table
  uses_in : (d : ℕ) (rows : List ℕ) → ii ≤ length rows → self_conflict ii p ≡ false
      → ((t r : ℕ) → 1 ≤ t → t ≤ 24 → r < ii → 1 ≤ count_of t r (footprint ii p s) → digit_of base (get_or rows r 0) t ≡ d) → UsesIn base d rows ii s p.uses
  unfolding self_conflict
  uses_in d rows long self digit = record {
    some = pos;
    long = long;
    near = near;
    short = λ j l. ltb-false ii (use_at p j).duration (any_at (λ u. ltb ii u.duration) p.uses j no_use self l);
    digits = λ j k l m.
        let u = use_at p j in
        let r : ℕ = (s + u.offset + k) % ii in
        let h = hit_cell ii p s ok u.slot r j k (record { inside = l; slot = refl; going = m; row = refl }) in
        digit u.slot r (ok.each j l).slot_low (ok.each j l).slot_high (mod-lt (s + u.offset + k) pos) h;
  }

  -- an operation that covers no cell of the table, and none twice, can be reserved
  pub uses_free : (cells : List Cell) (rows : List ℕ) → IsTable base ii cells rows → Digits base cells → self_conflict ii p ≡ false
      → ((t r : ℕ) → 1 ≤ count_of t r (footprint ii p s) → count_of t r cells ≡ 0) → UsesIn base 0 rows ii s p.uses
  uses_free cells rows h g self free = uses_in 0 rows h.long self (λ t r lo hi l m. digit_count base ii t r cells rows h g l lo hi ∙ free t r m)

  -- an operation whose cells are in the table, none of them twice, can be released
  pub uses_taken : 2 ≤ base → (cells : List Cell) (rows : List ℕ) → IsTable base ii (footprint ii p s ++ cells) rows → Digits 2 (footprint ii p s ++ cells) → UsesIn base 1 rows ii s p.uses
  uses_taken wide cells rows h g =
      let sum : (t r : ℕ) → count_of t r (footprint ii p s ++ cells) ≡ count_of t r (footprint ii p s) + count_of t r cells =
      λ t r. count_append (same_cell (record { slot = t; row = r })) (footprint ii p s) cells in
      uses_in 1 rows h.long (once_self ii p s ok pos (λ t r. omega (arith, g t r, sum t r)))
      (λ t r lo hi l m. digit_count base ii t r (footprint ii p s ++ cells) rows h (λ a b. omega (arith, g a b)) l lo hi ∙ omega (arith, g t r, sum t r))
