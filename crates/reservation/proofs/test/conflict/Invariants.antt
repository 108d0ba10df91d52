-- In no cycle below k does a use meet a taken cell, and where `most` cycles are behind, the uses cover no others. The measure is how many of the 16 cycles are left.
use Rattle.std.proofs.Common.{◌≡◌, ℕ, ◌-◌, ◌≤◌, ◌<◌}
use Rattle.std.proofs.Math.Option.{none}
use Rattle.model.specs.Loop.{op_at}
use Rattle.model.specs.File.{loop_of}
use Rattle.model.specs.Table.{row_base}
use Rattle.reservation.specs.Place.{met_in, cycles_of, row_at}
use Rattle.reservation.proofs.test.conflict.Given as goal

abbrev pub invariant-loop-k : goal.invariant-loop-k
invariant-loop-k l = record {
  few : l.most ≤ 16;
  no_more : l.most ≤ l.k → cycles_of (op_at (loop_of l.file) l.op).uses ≤ l.k;
  none_met : (i : ℕ) → i < l.k → met_in row_base l.interval (row_at l.interval l.rows l.start i) i (op_at (loop_of l.file) l.op).uses ≡ none;
}

abbrev pub decreases-loop-k : goal.decreases-loop-k
decreases-loop-k l = 16 - l.k
