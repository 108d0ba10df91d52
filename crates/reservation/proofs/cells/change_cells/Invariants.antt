-- The rows are those at entry after the uses before u.
use Rattle.std.proofs.Common.{◌≡◌, ◌-◌}
use Rattle.model.specs.Loop.{op_at}
use Rattle.model.specs.File.{loop_of}
use Rattle.reservation.specs.Rows.{over_uses}
use Rattle.reservation.proofs.cells.change_cells.Given as goal

abbrev pub invariant-loop-u : goal.invariant-loop-u
invariant-loop-u g l = l.rows ≡ over_uses g.C.Change.after l.interval l.start (op_at (loop_of l.file) l.op).uses (l.u - l.first) l.initial.rows
