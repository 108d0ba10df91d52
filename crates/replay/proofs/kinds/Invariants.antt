-- The first i calls have a kind.
use Rattle.std.proofs.Common.{◌≡◌}
use mathlib.Core.List.{flat_map}
use Rattle.std.proofs.Math.Option.{none}
use Rattle.model.specs.Lists.{up_from}
use Rattle.model.specs.Refusals.{first_refusal}
use Rattle.replay.specs.Replay.{kind_check}
use Rattle.replay.proofs.kinds.Given as goal

abbrev pub invariant-loop-i : goal.invariant-loop-i
invariant-loop-i l = first_refusal (flat_map (kind_check l.calls) (up_from 0 l.i)) ≡ none
