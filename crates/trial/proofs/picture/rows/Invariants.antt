-- The loop of `picture::rows` has set the first rows. Assumes nothing.
use Rattle.std.proofs.Common.{◌≡◌}
use Rattle.trial.specs.Picture.{rows_of}
use Rattle.trial.proofs.picture.rows.Given as goal

abbrev pub invariant-loop-r : goal.invariant-loop-r
invariant-loop-r l = l.row-items ≡ rows_of l.picture l.interval l.r
