-- The checks of the uses of the operations passed refuse nothing, and `first` is the number of those uses.
use mathlib.Core.Path.{◌≡◌}
use mathlib.Core.List.{flat_map}
use mathlib.Core.Option.{none}
use Rattle.model.specs.Lists.{up_from}
use Rattle.model.specs.Refusals.{first_refusal}
use Rattle.model.specs.Writer.{first_given}
use Rattle.loop_writer.proofs.Rows.{op_table}
use Rattle.loop_writer.proofs.checks.use_list.Given as goal

abbrev pub invariant-loop-o : goal.invariant-loop-o
invariant-loop-o l = record {
  counted : l.first ≡ first_given l.ops l.o;
  passed : first_refusal (flat_map (op_table l.ops l.uses) (up_from 0 l.o)) ≡ none;
}
