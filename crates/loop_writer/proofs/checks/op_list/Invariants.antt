-- The checks of the operations passed refuse nothing.
use mathlib.Core.Path.{◌≡◌}
use mathlib.Core.List.{flat_map}
use mathlib.Core.Option.{none}
use Rattle.model.specs.Lists.{up_from}
use Rattle.model.specs.Refusals.{first_refusal}
use Rattle.model.specs.Writer.{op_given_checks}
use Rattle.loop_writer.proofs.checks.op_list.Given as goal

abbrev pub invariant-loop-o : goal.invariant-loop-o
invariant-loop-o l = first_refusal (flat_map (op_given_checks l.ops) (up_from 0 l.o)) ≡ none
