use mathlib.Core.Path.{ap, ◌∙◌}
use Prim.Native.Nat.{ℕ, ◌+◌}
use native.Mathlib.Omega.{arith}
use Rattle.model.specs.Refusals.{first_refusal}
use Rattle.model.specs.Writer.{use_given_checks, op_uses_given_checks}
use Rattle.refusals.proofs.Tables.{row_passed_on}
use Rattle.loop_writer.proofs.Rows.{use_table}
use Rattle.loop_writer.proofs.checks.op_uses.Goals as goal

pub returns-in_err-one_use : goal.returns-in_err-one_use
unfolding op_uses_given_checks
returns-in_err-one_use c =
    let a = c.args in
    let l = c.loop-j in
    let said = c.one_use.ensures ∙ ap (λ (b : ℕ). first_refusal (use_given_checks a.uses.now b (a.first + l.j))) l.invariant.slot in
    row_passed_on (use_table a.uses.now a.first) l.j a.n c.from_residual.result (omega arith) l.invariant.passed c.in_err-one_use.was c.from_residual.ensures.1 said
