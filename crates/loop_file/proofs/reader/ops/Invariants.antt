-- The checks of the operations so far refuse nothing, and the sum is the number of their uses, of which each has at most four.
use Rattle.std.proofs.Common.{◌≡◌, ◌*◌, ◌≤◌}
use mathlib.Core.Option.{none}
use Rattle.model.specs.Refusals.{first_refusal}
use Rattle.model.specs.File.{first_use}
use Rattle.loop_file.specs.Read.{ops_table}
use Rattle.loop_file.proofs.reader.ops.Given as goal

abbrev pub invariant-loop-o : goal.invariant-loop-o
invariant-loop-o l = record {
  sum_is : l.sum ≡ first_use l.file l.o;
  few : l.sum ≤ 4 * l.o;
  passed : first_refusal (ops_table l.file l.o) ≡ none;
}
