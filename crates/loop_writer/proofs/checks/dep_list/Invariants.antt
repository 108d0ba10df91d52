-- The checks of the dependences passed refuse nothing.
use mathlib.Core.Path.{◌≡◌}
use mathlib.Core.List.{flat_map}
use mathlib.Core.Option.{none}
use Rattle.model.specs.Lists.{up_from}
use Rattle.model.specs.Refusals.{first_refusal}
use Rattle.model.specs.Writer.{dep_given_checks}
use Rattle.loop_writer.proofs.checks.dep_list.Given as goal

abbrev pub invariant-loop-e : goal.invariant-loop-e
invariant-loop-e l = first_refusal (flat_map (dep_given_checks l.deps l.n) (up_from 0 l.e)) ≡ none
