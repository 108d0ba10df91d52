-- One dependence more.
use Rattle.std.proofs.Common.{rules}
use Rattle.iterative.proofs.Timings.{earliest_first, earliest_next}
use Rattle.iterative.proofs.timing.earliest_start.Goals as goal

pub loop-e-init : goal.loop-e-init
loop-e-init c = earliest_first

pub loop-e-preserved : goal.loop-e-preserved
loop-e-preserved c = earliest_next c.loop-e.invariant c.due.ensures (search rules)
