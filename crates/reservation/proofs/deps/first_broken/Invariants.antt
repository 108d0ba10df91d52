-- None of the first e dependences is broken by `op` at `start`.
use Rattle.model.specs.File.{loop_of}
use Rattle.reservation.specs.Seats.{seats}
use Rattle.reservation.proofs.Breaches.{NoneBroken}
use Rattle.reservation.proofs.deps.first_broken.Given as goal

abbrev pub invariant-loop-e : goal.invariant-loop-e
invariant-loop-e l = NoneBroken (loop_of l.file) l.interval (seats l.starts) l.op l.start l.e
