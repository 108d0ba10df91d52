-- `best` is what is picked among the first o operations.
use Rattle.iterative.specs.Priority.{Picked}
use Rattle.iterative.proofs.priority.pick.Given as goal

abbrev pub invariant-loop-o : goal.invariant-loop-o
invariant-loop-o l = Picked l.o l.starts l.ranks l.best
