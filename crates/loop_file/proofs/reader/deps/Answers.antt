use Rattle.std.proofs.Common.{arith}
use Rattle.refusals.proofs.Tables.{row_passed_on}
use Rattle.loop_file.proofs.reader.deps.Goals as goal

pub returns-in_err-dep : goal.returns-in_err-dep
returns-in_err-dep c =
    row_passed_on _ c.loop-e.e _ c.from_residual.result (omega arith) c.loop-e.invariant c.in_err-dep.was c.from_residual.ensures.1 c.dep.ensures
