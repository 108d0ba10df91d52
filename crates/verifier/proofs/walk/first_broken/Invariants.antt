-- The first e dependences hold.
use Rattle.model.specs.File.{loop_of}
use Rattle.verifier.proofs.Starts.{Kept}
use Rattle.verifier.proofs.walk.first_broken.Given as goal

abbrev pub invariant-loop-e : goal.invariant-loop-e
invariant-loop-e l = Kept (loop_of l.file) l.interval l.starts l.e
