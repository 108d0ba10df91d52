use Rattle.std.proofs.Common.{arith}
use Rattle.model.proofs.File.{first_use_le}
use Rattle.refusals.proofs.Tables.{row_passed_on}
use Rattle.loop_file.proofs.reader.uses.Goals as goal

pub returns-in_err-op_uses : goal.returns-in_err-op_uses
returns-in_err-op_uses c =
    row_passed_on _ c.loop-o.o _ c.from_residual.result (omega arith) c.loop-o.invariant.passed c.in_err-op_uses.was c.from_residual.ensures.1
    (rw (c.loop-o.invariant.first_is, c.wide-k.ensures.0) at c.op_uses.ensures)

-- the uses of the operation lie inside the file
pub op_uses-requires : goal.op_uses-requires
op_uses-requires c = let h = first_use_le c.args.file.now c.loop-o.o c.args.n (omega arith) in (omega arith, omega arith)
