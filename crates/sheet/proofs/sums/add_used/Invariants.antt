-- The first k numbers are raised.
use Rattle.model.specs.File.{loop_of}
use Rattle.model.specs.Bounds.{total_on}
use Rattle.sheet.proofs.Additions.{Raised}
use Rattle.sheet.proofs.sums.add_used.Given as goal

abbrev pub invariant-loop-k : goal.invariant-loop-k
invariant-loop-k l = Raised (total_on (loop_of l.file)) l.k l.initial.used l.used
