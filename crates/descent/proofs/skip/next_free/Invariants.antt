-- At every start from `from` to `s` - 1 the operation meets a taken cell.
use Rattle.std.proofs.Common.{◌≡◌, ℕ, ◌-◌, ◌≤◌, ◌<◌}
use Rattle.std.proofs.Math.Option.{none}
use Rattle.model.specs.Loop.{op_at}
use Rattle.model.specs.File.{loop_of}
use Rattle.model.specs.Table.{row_base}
use Rattle.reservation.specs.Place.{first_met}
use Rattle.descent.proofs.skip.next_free.Given as goal

abbrev pub invariant-loop-s : goal.invariant-loop-s
invariant-loop-s l = record {
  behind : l.from ≤ l.s;
  taken : (t : ℕ) → l.from ≤ t → t < l.s → first_met row_base l.interval l.rows t (op_at (loop_of l.file) l.op).uses ≡ none → ⊥;
}

abbrev pub decreases-loop-s : goal.decreases-loop-s
decreases-loop-s l = l.to - l.s
