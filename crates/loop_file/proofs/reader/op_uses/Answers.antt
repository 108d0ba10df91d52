use Rattle.std.proofs.Common.{◌≡◌, ◌+◌, ◌*◌, ℕ, sym, arith}
use Rattle.std.proofs.lemmas.Bool.Decides.{nat_tests}
use mathlib.Core.Option.{some}
use Rattle.model.specs.Refusals.{first_refusal}
use Rattle.model.specs.File.{use_width, slot_below, use_checks, use_checks_at, op_use_checks}
use Rattle.model.proofs.Checks.{row_refused}
use Rattle.refusals.specs.Told.{refusal}
use Rattle.loop_file.proofs.reader.op_uses.Goals as goal

pub returns-then-slot-below : goal.returns-then-slot-below
unfolding op_use_checks use_checks first_refusal
returns-then-slot-below c =
    let at : ℕ = c.args.first + use_width * c.loop-j.j in
    let h : first_refusal (use_checks_at c.args.file.now (slot_below c.args.file.now c.args.first c.loop-j.j) at) ≡ some (refusal 5 at) = grind (arith, nat_tests) in
    sym (row_refused _ _ _ _ (omega arith) c.loop-j.invariant.passed h)

pub returns-then-duration-lt1 : goal.returns-then-duration-lt1
unfolding op_use_checks use_checks first_refusal
returns-then-duration-lt1 c =
    let at : ℕ = c.args.first + use_width * c.loop-j.j in
    let h : first_refusal (use_checks_at c.args.file.now (slot_below c.args.file.now c.args.first c.loop-j.j) at) ≡ some (refusal 5 (at + 1)) = grind (arith, nat_tests) in
    sym (row_refused _ _ _ _ (omega arith) c.loop-j.invariant.passed h)
