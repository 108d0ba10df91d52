-- The rows are those at entry with the bits of the first k cycles changed.
use Rattle.std.proofs.Common.{◌≡◌}
use Rattle.reservation.specs.Rows.{over_use}
use Rattle.reservation.proofs.cells.change_use.Given as goal

abbrev pub invariant-loop-k : goal.invariant-loop-k
invariant-loop-k g l = l.rows ≡ over_use (g.C.Change.after l.slot) l.interval l.start l.k l.initial.rows
