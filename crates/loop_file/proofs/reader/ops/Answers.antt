use Rattle.std.proofs.Common.{◌≡◌, ◌+◌, arith}
use Rattle.std.proofs.lemmas.Bool.Decides.{nat_tests}
use mathlib.Core.Option.{some}
use Rattle.model.specs.Refusals.{first_refusal}
use Rattle.model.specs.File.{first_use, op_record, op_checks, op_checks_at}
use Rattle.model.proofs.Checks.{row_refused}
use Rattle.refusals.specs.Told.{refusal}
use Rattle.loop_file.specs.Read.{ops_table}
use Rattle.loop_file.proofs.CheckAnswers.{part_refused}
use Rattle.loop_file.proofs.reader.ops.Goals as goal

pub returns-then-file-at-gt64 : goal.returns-then-file-at-gt64
unfolding op_checks first_refusal
returns-then-file-at-gt64 c =
    let h : first_refusal (op_checks_at c.args.file.now (op_record c.loop-o.o)) ≡ some (refusal 4 (op_record c.loop-o.o)) = grind (arith, nat_tests) in
    part_refused (ops_table c.args.file.now c.args.n) (first_use c.args.file.now c.args.n)
    (row_refused (λ o. op_checks_at c.args.file.now (op_record o)) c.loop-o.o c.args.n _ (omega arith) c.loop-o.invariant.passed h)

pub returns-then-k-gt4 : goal.returns-then-k-gt4
unfolding op_checks first_refusal
returns-then-k-gt4 c =
    let h : first_refusal (op_checks_at c.args.file.now (op_record c.loop-o.o)) ≡ some (refusal 4 (op_record c.loop-o.o + 1)) = grind (arith, nat_tests) in
    part_refused (ops_table c.args.file.now c.args.n) (first_use c.args.file.now c.args.n)
    (row_refused (λ o. op_checks_at c.args.file.now (op_record o)) c.loop-o.o c.args.n _ (omega arith) c.loop-o.invariant.passed h)
