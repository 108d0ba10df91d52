-- Operation b covers the cell of no cycle before k of the use.
use Rattle.std.proofs.Common.{◌≡◌, ℕ, ◌+◌, ◌%◌, ◌<◌, false}
use Rattle.model.specs.Loop.{op_at}
use Rattle.model.specs.File.{loop_of}
use Rattle.reservation.specs.Overlaps.{covers_cell}
use Rattle.reservation.proofs.pairs.use_meets.Given as goal

abbrev pub invariant-loop-k : goal.invariant-loop-k
invariant-loop-k l = (i : ℕ) → i < l.k → covers_cell l.interval (op_at (loop_of l.file) l.b) l.to l.on ((l.begin + i) % l.interval) ≡ false
