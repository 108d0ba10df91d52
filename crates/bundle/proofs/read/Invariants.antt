-- The entries passed refuse nothing, and `begin` is where the next file has to begin.
use mathlib.Core.Option.{none}
use Rattle.std.proofs.Common.{◌≡◌, ◌+◌, ◌*◌, ◌≤◌}
use Rattle.model.specs.Refusals.{first_refusal}
use Rattle.model.specs.Bundle.{begin_at, places_checks}
use Rattle.bundle.proofs.read.Given as goal

abbrev pub invariant-loop-i : goal.invariant-loop-i
invariant-loop-i l = record {
  begin_is : l.begin ≡ begin_at l.bundle l.i;
  small : l.begin ≤ 129 + 65536 * l.i;
  passed : first_refusal (places_checks l.bundle l.i) ≡ none;
}
