-- One operation more in a placing: its cells in the table, whether it conflicts, and the rows with it reserved and released. Assumes nothing.
use mathlib.Core.Path.{◌≡◌, sym, ◌∙◌}
use mathlib.Core.Bool.{true, false}
use mathlib.Core.List.{List, ◌++◌}
use mathlib.Core.Option.{none}
use Prim.Native.Nat.{ℕ, ◌≤◌, ◌<◌}
use native.Mathlib.Omega.{arith}
use lib.ListN.{length}
use Rattle.model.specs.Loop.{Op, Loop, size, op_at, OpOk, LoopOk}
use Rattle.model.specs.Legality.{Placing, Cell, footprint, self_conflict, meets, apart, legal_at, place_at, conflicts}
use Rattle.model.specs.Table.{row_base, cells_of, IsTable, Digits}
use Rattle.model.proofs.Lists.{and_right, or_false_left, or_false_right, take_drop_same, count_append}
use Rattle.model.proofs.Table.{table_take, table_same}
use Rattle.model.proofs.Conflicts.{apart_cells, apart_once, share_place}
use Rattle.model.proofs.Counts.{used_place}
use Rattle.model.proofs.Room.{taken_conflicts, conflicts_taken}
use Rattle.reservation.specs.Rows.{over_uses, with_one, less_one, UsesIn}
use Rattle.reservation.specs.Place.{first_met}
use Rattle.reservation.proofs.RowUpdates.{uses_rest}
use Rattle.reservation.proofs.Tables.{reserve_table, release_table}
use Rattle.reservation.proofs.Free.{uses_free, uses_taken}
use Rattle.reservation.proofs.Fits.{taken_same}

-- ---- legality

-- in the table of a legal placing every count is a bit
pub legal_digits : (l : Loop) (ii : ℕ) (f : Placing) → LoopOk l → legal_at l ii f ≡ true → Digits 2 (cells_of l ii f)
unfolding legal_at
legal_digits l ii f ok h s r = omega (arith, apart_once l ii f ok (and_right (meets l ii f) (apart l ii f) h) s r)

-- ---- the table

module _ (l : Loop) (ii : ℕ) (f : Placing) (o t : ℕ) (ok : LoopOk l) (pos : 1 ≤ ii) (inside : o < size l) (open_yet : f o ≡ none) where
  -- its uses are in order
  op_ok : OpOk (op_at l o)
  op_ok = ok.op_ok o inside

  -- the table of the placing with it is that of its footprint and the cells
  place_table : {base : ℕ} (rows : List ℕ) → IsTable base ii (cells_of l ii (place_at f o t)) rows → IsTable base ii (footprint ii (op_at l o) t ++ cells_of l ii f) rows
  place_table {base} rows = table_same base ii (cells_of l ii (place_at f o t)) _ rows (λ s r. simp count_append (used_place l ii f o t inside open_yet s r))

  -- reserving it makes the table that of the placing with it
  pub reserve_place : {base : ℕ} (rows : List ℕ) → IsTable base ii (cells_of l ii f) rows
      → IsTable base ii (cells_of l ii (place_at f o t)) (over_uses (with_one base) ii t (op_at l o).uses (length (op_at l o).uses) rows)
  reserve_place {base} rows h =
      table_same base ii _ (cells_of l ii (place_at f o t)) _ (λ s r. simp count_append (sym (used_place l ii f o t inside open_yet s r)))
      (reserve_table ii t (op_at l o) op_ok pos (cells_of l ii f) rows h)

  -- and releasing it makes the table that of the placing without it
  pub release_place : {base : ℕ} (rows : List ℕ) → IsTable base ii (cells_of l ii (place_at f o t)) rows
      → IsTable base ii (cells_of l ii f) (over_uses (less_one base) ii t (op_at l o).uses (length (op_at l o).uses) rows)
  release_place rows h = release_table ii t (op_at l o) op_ok pos (cells_of l ii f) rows (place_table rows h)

  -- it can be released from the table of the placing with it
  pub release_uses : t ≤ 4096 → (rows : List ℕ) → IsTable row_base ii (cells_of l ii (place_at f o t)) rows → Digits 2 (cells_of l ii (place_at f o t))
      → UsesIn row_base 1 rows ii t (op_at l o).uses
  release_uses near rows h d =
      uses_taken ii t (op_at l o) op_ok pos near (omega arith) (cells_of l ii f) rows (place_table rows h)
      (λ s r. simp count_append (omega (arith, d s r, used_place l ii f o t inside open_yet s r)))

  module _ (rows : List ℕ) (held : IsTable row_base ii (cells_of l ii f) rows) (digits : Digits 2 (cells_of l ii f)) where
    -- where the conflict test finds nothing taken it does not conflict
    pub free_conflict : first_met row_base ii rows t (op_at l o).uses ≡ none → conflicts l ii f o t ≡ false
    free_conflict e = taken_conflicts l ii ok pos f o t inside open_yet (taken_same (omega arith) ii (cells_of l ii f) rows held digits (op_at l o) op_ok pos t ∙ e)

    -- and the other way round
    pub conflict_free : conflicts l ii f o t ≡ false → first_met row_base ii rows t (op_at l o).uses ≡ none
    conflict_free c = sym (taken_same (omega arith) ii (cells_of l ii f) rows held digits (op_at l o) op_ok pos t) ∙ conflicts_taken l ii ok pos f o t inside open_yet c

    -- where it does not conflict it can be reserved
    pub reserve_uses : t ≤ 4096 → conflicts l ii f o t ≡ false → UsesIn row_base 0 rows ii t (op_at l o).uses
    reserve_uses near c =
        uses_free ii t (op_at l o) op_ok pos near (cells_of l ii f) rows held digits (or_false_left (self_conflict ii (op_at l o)) _ c)
        (apart_cells (footprint ii (op_at l o) t) (cells_of l ii f) (share_place l ii f o t open_yet ∙ or_false_right (self_conflict ii (op_at l o)) _ c))

-- ---- reserved, then released

-- releasing an operation that was reserved gives the rows back
pub reserve_release : {base : ℕ} (ii s : ℕ) (p : Op) → OpOk p → 1 ≤ ii → (cells : List Cell) (rows : List ℕ) → IsTable base ii cells rows
    → over_uses (less_one base) ii s p.uses (length p.uses) (over_uses (with_one base) ii s p.uses (length p.uses) rows) ≡ rows
reserve_release {base} ii s p ok pos cells rows t =
    let n : ℕ = length p.uses in
    let mid : List ℕ = over_uses (with_one base) ii s p.uses n rows in
    let back : List ℕ = over_uses (less_one base) ii s p.uses n mid in
    take_drop_same ii back rows
    (table_take base ii cells back (release_table ii s p ok pos cells mid (reserve_table ii s p ok pos cells rows t)) ∙ sym (table_take base ii cells rows t))
    (uses_rest (less_one base) ii s p.uses n mid pos ∙ uses_rest (with_one base) ii s p.uses n rows pos)
