-- The loop of `draw::draw_latencies` changes no size. Assumes nothing.
use Rattle.trial.specs.Drawn.{SameSizes}
use Rattle.trial.proofs.draw.draw_latencies.Given as goal

abbrev pub invariant-loop-op : goal.invariant-loop-op
invariant-loop-op l = SameSizes l.fn.d l.d
