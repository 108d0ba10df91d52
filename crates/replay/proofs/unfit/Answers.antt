-- Where `?` passes a refusal on, it is that of the calls.
use mathlib.Core.List.{flat_map}
use Rattle.model.specs.Lists.{up_from}
use Rattle.refusals.proofs.Tables.{passed_on}
use Rattle.replay.specs.Replay.{call_count, kind_check, call_checks}
use Rattle.replay.proofs.unfit.Goals as goal

pub returns-in_err-kinds : goal.returns-in_err-kinds
unfolding call_checks
returns-in_err-kinds c =
    let xs = c.args.calls.now in
    passed_on (flat_map (kind_check xs) (up_from 0 (call_count xs))) _ c.kinds.ensures c.from_residual.result c.in_err-kinds.was c.from_residual.ensures.1
