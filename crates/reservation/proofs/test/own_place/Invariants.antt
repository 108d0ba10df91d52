-- In no cycle below k does a use meet a cell of its own, and the uses cover no more than `most` cycles. The measure is how many of the 16 cycles are left.
use Rattle.std.proofs.Common.{◌≡◌, ℕ, ◌-◌, ◌≤◌, ◌<◌}
use Rattle.std.proofs.Math.Option.{none}
use Rattle.model.specs.Loop.{op_at}
use Rattle.model.specs.File.{loop_of}
use Rattle.model.specs.Table.{row_base}
use Rattle.reservation.specs.Place.{met_in, cycles_of}
use Rattle.reservation.proofs.test.own_place.Given as goal

abbrev pub invariant-loop-k : goal.invariant-loop-k
invariant-loop-k l = record {
  few : l.most ≤ 16;
  enough : cycles_of (op_at (loop_of l.file) l.op).uses ≤ l.most;
  none_met : (i : ℕ) → i < l.k → met_in row_base l.interval 0 i (op_at (loop_of l.file) l.op).uses ≡ none;
}

abbrev pub decreases-loop-k : goal.decreases-loop-k
decreases-loop-k l = 16 - l.k
