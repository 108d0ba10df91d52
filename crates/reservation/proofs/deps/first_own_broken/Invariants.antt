-- None of the first e dependences is broken by `op` at `start`.
use Rattle.model.specs.File.{loop_of}
use Rattle.model.specs.Session.{nowhere}
use Rattle.reservation.proofs.Breaches.{NoneBroken}
use Rattle.reservation.proofs.deps.first_own_broken.Given as goal

abbrev pub invariant-loop-e : goal.invariant-loop-e
invariant-loop-e l = NoneBroken (loop_of l.file) l.interval nowhere l.op l.start l.e
