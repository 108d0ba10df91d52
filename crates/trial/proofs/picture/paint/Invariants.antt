-- The loop of `picture::paint` has painted the first k cycles. Assumes nothing.
use Rattle.std.proofs.Common.{◌≡◌}
use Rattle.trial.specs.Picture.{painted}
use Rattle.trial.proofs.picture.paint.Given as goal

abbrev pub invariant-loop-k : goal.invariant-loop-k
invariant-loop-k l = l.picture ≡ painted l.initial.picture l.slot l.k l.start l.interval
