use native.Mathlib.Omega.{arith}
use Rattle.model.specs.Writer.{op_given_checks}
use Rattle.refusals.proofs.Tables.{row_passed_on}
use Rattle.loop_writer.proofs.checks.op_list.Goals as goal

pub returns-in_err-op : goal.returns-in_err-op
returns-in_err-op c =
    let l = c.loop-o in
    row_passed_on (op_given_checks c.args.ops.now) l.o c.args.n c.from_residual.result (omega arith) l.invariant c.in_err-op.was c.from_residual.ensures.1 c.op.ensures
