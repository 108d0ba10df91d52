-- The loop of `draw::draw_uses` changes no size. Assumes nothing.
use Rattle.trial.specs.Drawn.{SameSizes}
use Rattle.trial.proofs.draw.draw_uses.Given as goal

abbrev pub invariant-loop-op : goal.invariant-loop-op
invariant-loop-op l = SameSizes l.fn.d l.d

abbrev pub invariant-loop-slot : goal.invariant-loop-slot
invariant-loop-slot l = SameSizes l.fn.d l.d
