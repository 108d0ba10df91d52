-- The numbers are those at entry after a change by the uses before u.
use Rattle.std.proofs.Common.{◌-◌}
use Rattle.model.specs.Loop.{op_at}
use Rattle.model.specs.File.{loop_of}
use Rattle.free_rows.specs.Numbers.{Moved}
use Rattle.free_rows.proofs.Numbers.{uses_on}
use Rattle.free_rows.proofs.count.Given as goal

abbrev pub invariant-loop-u : goal.invariant-loop-u
invariant-loop-u l = Moved l.comes (uses_on (op_at (loop_of l.file) l.op) (l.u - l.first)) l.initial.free l.free
