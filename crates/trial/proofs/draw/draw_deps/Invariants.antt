-- The loop of `draw::draw_deps` changes no size. Assumes nothing.
use Rattle.trial.specs.Drawn.{SameSizes}
use Rattle.trial.proofs.draw.draw_deps.Given as goal

abbrev pub invariant-loop-e : goal.invariant-loop-e
invariant-loop-e l = SameSizes l.fn.d l.d
