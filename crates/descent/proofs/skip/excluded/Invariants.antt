-- No use below `j` meets a taken cell.
use Rattle.std.proofs.Common.{◌≡◌, false, ℕ, ◌<◌}
use Rattle.model.specs.Loop.{op_at, use_at}
use Rattle.model.specs.File.{loop_of}
use Rattle.model.specs.Table.{row_base}
use Rattle.reservation.specs.Place.{met_at}
use Rattle.descent.proofs.skip.excluded.Given as goal

abbrev pub invariant-loop-j : goal.invariant-loop-j
invariant-loop-j l = (i : ℕ) → i < l.j → (k : ℕ) → met_at row_base l.interval l.rows l.start k (use_at (op_at (loop_of l.file) l.op) i) ≡ false
