-- The sum is the number of uses of the operations before `o`, as the file counts it.
use Rattle.std.proofs.Common.{◌≡◌}
use Rattle.model.specs.File.{first_use}
use Rattle.loop_access.proofs.first_use.Given as goal

abbrev pub invariant-loop-o : goal.invariant-loop-o
invariant-loop-o l = l.sum ≡ first_use l.file l.o
