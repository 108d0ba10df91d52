-- What a loop over a row of tables, or over operations and their uses, has to know turn by turn: the laws that its function names. Assumes nothing.
use mathlib.Core.List.{List}
use Prim.Native.Nat.{ℕ, ◌+◌}
use lib.IntN.{ℤ}
use Rattle.model.specs.Refusals.{Check}
use Rattle.model.specs.Writer.{uses_given, first_given, slot_before, use_given_checks, op_uses_given_checks}
use Rattle.model.proofs.Checks.{row_start, row_next}
use Rattle.model.proofs.File.{slot_few}
use Rattle.refusals.proofs.Tables.{fine_passes, row_passed}
use Rattle.loop_writer.proofs.Uses.{given_none, given_next, uses_few, slot_none, slot_next}

-- the table of one use, by its number among those of its operation
abbrev pub use_table : List ℤ → ℕ → ℕ → List Check
use_table us first j = use_given_checks us (slot_before us first j) (first + j)

-- and of one operation's uses
abbrev pub op_table : List ℤ → List ℤ → ℕ → List Check
op_table ops us o = op_uses_given_checks us (first_given ops o) (uses_given ops o)

-- of any row
pub ruleset rows = (row_start, row_next, fine_passes, row_passed)

-- of the number of uses
pub ruleset counting = (given_none, given_next, uses_few)

-- of the row of an operation's uses
pub ruleset use_rows = (row_start, row_next, fine_passes, row_passed, slot_none, slot_next, slot_few)

-- of the row of the operations
pub ruleset op_rows = (row_start, row_next, fine_passes, row_passed, given_none, given_next)
