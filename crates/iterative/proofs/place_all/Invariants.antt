-- Later rows and the lengths are as they were, so that an attempt at the next interval may begin.
use Rattle.iterative.specs.Placed.{Untouched}
use Rattle.iterative.proofs.place_all.Given as goal

abbrev pub invariant-loop-ii : goal.invariant-loop-ii
invariant-loop-ii l = Untouched l.fn.starts l.fn.rows l.starts l.rows
