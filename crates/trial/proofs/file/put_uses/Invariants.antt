-- The loops of `file::put_uses`: a use is two bytes, and no operation has more than three. Assumes nothing.
use Rattle.std.proofs.Common.{◌+◌, ◌*◌, ◌≤◌}
use Rattle.trial.proofs.file.put_uses.Given as goal

abbrev pub invariant-loop-op : goal.invariant-loop-op
invariant-loop-op l = (l.from ≤ l.at) × (l.at ≤ l.from + 6 * l.op)

abbrev pub invariant-loop-slot : goal.invariant-loop-slot
invariant-loop-slot l = (l.from ≤ l.at) × (l.at ≤ l.from + 6 * l.op + 2 * l.slot)
