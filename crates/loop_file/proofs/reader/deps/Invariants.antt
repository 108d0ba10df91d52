-- The checks of the dependences so far refuse nothing.
use Rattle.std.proofs.Common.{◌≡◌}
use mathlib.Core.Option.{none}
use Rattle.model.specs.Refusals.{first_refusal}
use Rattle.loop_file.specs.Read.{deps_table}
use Rattle.loop_file.proofs.reader.deps.Given as goal

abbrev pub invariant-loop-e : goal.invariant-loop-e
invariant-loop-e l = first_refusal (deps_table l.file l.n l.start l.e) ≡ none
