-- The checks of the uses of the operations so far refuse nothing, and `first` is where the uses of the next operation begin.
use Rattle.std.proofs.Common.{◌≡◌, ◌+◌, ◌*◌}
use mathlib.Core.Option.{none}
use Rattle.model.specs.Refusals.{first_refusal}
use Rattle.model.specs.File.{first_use}
use Rattle.loop_file.specs.Read.{uses_table}
use Rattle.loop_file.proofs.reader.uses.Given as goal

abbrev pub invariant-loop-o : goal.invariant-loop-o
invariant-loop-o l = record {
  first_is : l.first ≡ l.start + 2 * first_use l.file l.o;
  passed : first_refusal (uses_table l.file l.start l.o) ≡ none;
}
