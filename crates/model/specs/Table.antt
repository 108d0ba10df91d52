-- The modulo reservation table (document 01: row table): rows as numbers, made from a multiset of cells. Assumes nothing.
use Rattle.std.specs.Prelude.{◌≡◌, Bool, ℕ, zero, suc, ◌+◌, ◌-◌, ◌*◌, ◌/◌, ◌%◌, ◌^◌, ◌≤◌, ◌<◌, eqb, length, get_or, take}
use mathlib.Core.List.{List, [], map, flat_map}
use Rattle.std.proofs.Math.Option.{Option, none, some}
use Rattle.model.specs.Lists.{up_from, any_of, count_if}
use Rattle.model.specs.Loop.{Op, Loop, size, op_at}
use Rattle.model.specs.Legality.{Placing, Cell, same_cell, footprint}

-- how often slot s in row r stands among the cells
abbrev pub count_of : ℕ → ℕ → List Cell → ℕ
count_of s r cells = count_if (same_cell (record { slot = s; row = r })) cells

-- f 0 + f 1 * base + .. + f (n - 1) * base ^ (n - 1)
unfoldable pub number : ℕ → (ℕ → ℕ) → ℕ → ℕ
number base f zero = 0
number base f (suc n) = number base f n + f n * base ^ n

-- row r as a number: its digit s - 1 is the count of slot s in it, for s = 1 .. 24. In base 2 slot s is bit s - 1
unfoldable pub row_number : ℕ → List Cell → ℕ → ℕ
row_number base cells r = number base (λ j. count_of (suc j) r cells) 24

-- the table: rows 0 .. ii - 1
unfoldable pub table_of : ℕ → ℕ → List Cell → List ℕ
table_of base ii cells = map (row_number base cells) (up_from 0 ii)

-- the base of the digits of a session's and a search's rows: a slot holds one operation in a row, so a digit is a bit
abbrev pub row_base : ℕ
row_base = 2

-- the cells of an operation, none where it is not placed
abbrev pub op_cells : ℕ → Op → Option ℕ → List Cell
op_cells ii p none = []
op_cells ii p (some s) = footprint ii p s

-- the cells of all placed operations
unfoldable pub cells_of : Loop → ℕ → Placing → List Cell
cells_of l ii f = flat_map (λ o. op_cells ii (op_at l o) (f o)) (up_from 0 (size l))

-- the table of a placing: a bit is 1 exactly where a placed operation covers that slot and row, while nothing conflicts
abbrev pub table_at : Loop → ℕ → Placing → List ℕ
table_at l ii f = table_of row_base ii (cells_of l ii f)

-- whether a placed operation covers slot s in row r
unfoldable pub covered_at : Loop → ℕ → Placing → (s r : ℕ) → Bool
covered_at l ii f s r = any_of (λ o. any_of (same_cell (record { slot = s; row = r })) (op_cells ii (op_at l o) (f o))) (up_from 0 (size l))

-- ---- the same, row by row

-- the first ii of these rows are the table of these cells
pub record IsTable (base ii : ℕ) (cells : List Cell) (rows : List ℕ) : Type 0 where
  pub long : ii ≤ length rows
  pub at : (r : ℕ) → r < ii → get_or rows r 0 ≡ row_number base cells r

-- digit s - 1 of x
abbrev pub digit_of : ℕ → ℕ → ℕ → ℕ
digit_of base x s = x / base ^ (s - 1) % base

-- every count is a digit
abbrev pub Digits : ℕ → List Cell → Type 0
Digits base cells = (s r : ℕ) → count_of s r cells < base

-- ---- free rows (document 02, order 4)

-- how many of the first ii rows have the bit of slot s clear
unfoldable pub free_of : ℕ → List ℕ → ℕ → ℕ
free_of ii rows s = count_if (λ x. eqb (digit_of row_base x s) 0) (take ii rows)

-- the 24 numbers of a table, of slots 1 to 24
unfoldable pub free_rows : ℕ → List ℕ → List ℕ
free_rows ii rows = map (free_of ii rows) (up_from 1 24)
