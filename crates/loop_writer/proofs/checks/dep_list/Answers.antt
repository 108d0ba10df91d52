use native.Mathlib.Omega.{arith}
use Rattle.model.specs.Writer.{dep_given_checks}
use Rattle.refusals.proofs.Tables.{row_passed_on}
use Rattle.loop_writer.proofs.checks.dep_list.Goals as goal

pub returns-in_err-dep : goal.returns-in_err-dep
returns-in_err-dep c =
    let l = c.loop-e in
    row_passed_on (dep_given_checks c.args.deps.now c.args.n) l.e c.args.m c.from_residual.result (omega arith) l.invariant c.in_err-dep.was c.from_residual.ensures.1 c.dep.ensures
