-- What a picture of a reservation table shows: 24 cells, that of a slot (from 0) and a row at 8 times the slot plus the row. Assumes nothing.
use Rattle.std.specs.Prelude.{ℕ, zero, suc, ◌+◌, ◌*◌, ◌/◌, ◌%◌, ◌^◌, Bool, false, cond, ◌||◌, List, replicate, ◌==◌, nat_lt, slice_index, slice_set}
use Rattle.trial.specs.declared.drawn.Drawn.{Drawn}
use Rattle.trial.specs.Drawn.{duration_of}

-- one more, modulo 256, in a cell
abbrev pub one_more : List ℕ → ℕ → List ℕ
one_more cells i = slice_set cells i ((slice_index cells i + 1) % 256)

-- one more in the cell of a slot and of the row of a cycle, where there is such a cell
unfoldable pub dabbed : List ℕ → (slot cycle interval : ℕ) → List ℕ
dabbed cells slot cycle interval =
    cond
    (nat_lt slot 3)
    (cond (nat_lt 0 interval) (cond (nat_lt (cycle % interval) 8) (one_more cells (8 * slot + cycle % interval)) cells) cells)
    cells

-- k cycles of a use from its start on, each in its row; a cycle is a number of 64 bits, and wraps
unfoldable pub painted : List ℕ → (slot k start interval : ℕ) → List ℕ
painted cells slot zero start interval = cells
painted cells slot (suc k) start interval = dabbed (painted cells slot k start interval) slot ((start + k) % 2 ^ 64) interval

-- the uses of an operation on the three slots
unfoldable pub added : List ℕ → Drawn → (op start interval : ℕ) → List ℕ
added cells d op start interval =
    painted
    (painted (painted cells 0 (duration_of d op 0) start interval) 1 (duration_of d op 1) start interval)
    2
    (duration_of d op 2)
    start
    interval

-- the picture of those of the first k operations that are placed; a start of 65,535 is nowhere
unfoldable pub picture_of : Drawn → List ℕ → (interval k : ℕ) → List ℕ
picture_of d starts interval zero = replicate 24 0
picture_of d starts interval (suc k) =
    cond
    (slice_index starts k == 65535)
    (picture_of d starts interval k)
    (added (picture_of d starts interval k) d k (slice_index starts k) interval)

-- whether one of the first n cells is painted more than once
unfoldable pub twice_in : List ℕ → ℕ → Bool
twice_in cells zero = false
twice_in cells (suc n) = twice_in cells n || nat_lt 1 (slice_index cells n)

-- v where a cell is painted, else 0
unfoldable pub worth_of : List ℕ → (cell v : ℕ) → ℕ
worth_of cells cell v = cond (nat_lt 0 (slice_index cells cell)) v 0

-- a row of the table, in which the slots are worth 1, 2 and 4
unfoldable pub row_of : List ℕ → ℕ → ℕ
row_of cells r = worth_of cells r 1 + worth_of cells (8 + r) 2 + worth_of cells (16 + r) 4

-- the table as 8 rows: of the first k those that the interval has are the picture's, and all others stand as untouched, 2 ^ 64 - 1
unfoldable pub rows_of : List ℕ → (interval k : ℕ) → List ℕ
rows_of cells interval zero = replicate 8 18446744073709551615
rows_of cells interval (suc k) = cond (nat_lt k interval) (slice_set (rows_of cells interval k) k (row_of cells k)) (rows_of cells interval k)

-- whether the cell of a slot and of the row of a cycle is painted; false where there is no such cell
unfoldable pub marked_in : List ℕ → (slot cycle interval : ℕ) → Bool
marked_in cells slot cycle interval =
    cond
    (nat_lt slot 3)
    (cond (nat_lt 0 interval) (cond (nat_lt (cycle % interval) 8) (nat_lt 0 (slice_index cells (8 * slot + cycle % interval))) false) false)
    false

-- whether an operation uses a slot in cycle k from its start, and the cell is painted
unfoldable pub meets_in : List ℕ → Drawn → (op slot k start interval : ℕ) → Bool
meets_in cells d op slot k start interval = cond (nat_lt k (duration_of d op slot)) (marked_in cells slot ((start + k) % 2 ^ 64) interval) false

-- that cell painted, where the operation uses the slot in that cycle
unfoldable pub covered_by : List ℕ → Drawn → (op slot k start interval : ℕ) → List ℕ
covered_by cells d op slot k start interval = cond (nat_lt k (duration_of d op slot)) (dabbed cells slot ((start + k) % 2 ^ 64) interval) cells

-- of the next n cells of an operation, from number i on, the first that is painted, as 32 times its cycle plus its slot (from 1); 0 where none is. Number i is that of cycle i / 3 and of slot
-- i % 3 (from 0): cycle by cycle, and slot by slot in a cycle. Where own is true, each cell is painted once it has been looked at
unfoldable pub place_from : List ℕ → Drawn → (op start interval : ℕ) → (own : Bool) → (i n : ℕ) → ℕ
place_from cells d op start interval own i zero = 0
place_from cells d op start interval own i (suc n) =
    cond
    (meets_in cells d op (i % 3) (i / 3) start interval)
    (32 * (i / 3) + i % 3 + 1)
    (place_from (cond own (covered_by cells d op (i % 3) (i / 3) start interval) cells) d op start interval own (suc i) n)
