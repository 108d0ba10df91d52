-- No use before u meets a taken cell in cycle k, and `most` is how many cycles these uses cover.
use Rattle.std.proofs.Common.{◌≡◌, ℕ, ◌-◌, ◌≤◌, ◌<◌, false, get_or, take}
use Rattle.model.specs.Loop.{no_use, op_at, all_uses}
use Rattle.model.specs.File.{loop_of}
use Rattle.model.specs.Table.{row_base}
use Rattle.reservation.specs.Place.{met_by, cycles_of}
use Rattle.reservation.proofs.test.taken_in.Given as goal

abbrev pub invariant-loop-u : goal.invariant-loop-u
invariant-loop-u l = record {
  longest : l.most ≡ cycles_of (take (l.u - l.first) (op_at (loop_of l.file) l.op).uses);
  none_met : (v : ℕ) → v < l.u → l.first ≤ v → met_by row_base l.interval l.row l.k (get_or (all_uses (loop_of l.file)) v no_use) ≡ false;
}
