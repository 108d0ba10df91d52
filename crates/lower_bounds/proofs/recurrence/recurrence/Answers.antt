-- What no start meets at the longest interval, none does at all; and a walk that rules out `mid` rules out all below it.
use Rattle.std.proofs.Common.{arith}
use Rattle.model.proofs.File.{accepted_ok}
use Rattle.lower_bounds.proofs.Bisection.{top_no, half_no}
use Rattle.lower_bounds.proofs.recurrence.recurrence.Goals as goal

pub returns-then-not-feasible : goal.returns-then-not-feasible
returns-then-not-feasible c = top_no _ (accepted_ok c.args.file.now c.requires) _ c.if-not-feasible.true c.feasible.ensures

pub loop-lo-preserved : goal.loop-lo-preserved
loop-lo-preserved c = half_no _ (accepted_ok c.args.file.now c.requires) _ _ _ _ c.if-feasible.false (omega arith) (omega arith) c.loop-lo.invariant c.feasible-in-loop-lo.ensures
