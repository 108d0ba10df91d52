-- The sum is the number of uses of the operations passed, of which each has at most four.
use mathlib.Core.Path.{◌≡◌}
use Prim.Native.Nat.{◌*◌, ◌≤◌}
use Rattle.model.specs.Writer.{first_given}
use Rattle.loop_writer.proofs.checks.all_uses.Given as goal

abbrev pub invariant-loop-o : goal.invariant-loop-o
invariant-loop-o l = record { counted : l.sum ≡ first_given l.ops l.o; few : l.sum ≤ 4 * l.o }
