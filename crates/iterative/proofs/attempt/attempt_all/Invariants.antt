-- Later rows and the lengths are as they were, so that another attempt may begin.
use Rattle.iterative.specs.Placed.{Untouched}
use Rattle.iterative.proofs.attempt.attempt_all.Given as goal

abbrev pub invariant-loop-order : goal.invariant-loop-order
invariant-loop-order l = Untouched l.fn.starts l.fn.rows l.starts l.rows
