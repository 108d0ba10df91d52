-- The loop of `picture::of_starts` has painted those of the first operations that are placed. Assumes nothing.
use Rattle.std.proofs.Common.{◌≡◌}
use Rattle.trial.specs.Picture.{picture_of}
use Rattle.trial.proofs.picture.of_starts.Given as goal

abbrev pub invariant-loop-op : goal.invariant-loop-op
invariant-loop-op l = l.picture ≡ picture_of l.fn.d l.starts l.interval l.op
