use mathlib.Core.Path.{ap₂, ◌∙◌}
use Prim.Native.Nat.{ℕ}
use native.Mathlib.Omega.{arith}
use Rattle.model.specs.Refusals.{first_refusal}
use Rattle.model.specs.Writer.{op_uses_given_checks}
use Rattle.model.proofs.Given.{first_le}
use Rattle.refusals.proofs.Tables.{row_passed_on}
use Rattle.loop_writer.proofs.Rows.{op_table}
use Rattle.loop_writer.proofs.checks.use_list.Goals as goal

-- the uses of an operation stand before those of the operations after it
pub op_uses-requires : goal.op_uses-requires
op_uses-requires c = let a = c.args in omega (arith, first_le a.ops.now c.loop-o.o a.n (omega arith))

pub overflow_add-first : goal.overflow_add-first
overflow_add-first c = let a = c.args in omega (arith, first_le a.ops.now c.loop-o.o a.n (omega arith))

pub returns-in_err-op_uses : goal.returns-in_err-op_uses
returns-in_err-op_uses c =
    let a = c.args in
    let l = c.loop-o in
    let said = c.op_uses.ensures ∙ ap₂ (λ (u n : ℕ). first_refusal (op_uses_given_checks a.uses.now u n)) l.invariant.counted c.natural-k.ensures in
    row_passed_on (op_table a.ops.now a.uses.now) l.o a.n c.from_residual.result (omega arith) l.invariant.passed c.in_err-op_uses.was c.from_residual.ensures.1 said
