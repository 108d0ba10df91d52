-- Each part of the bodies settles its own table, and the tables join to that of the bodies.
use Rattle.std.proofs.Common.{◌≡◌, ◌∙◌, ◌+◌, ◌*◌, ◌/◌, ◌≤◌, ◌++◌, ap, sym, arith}
use mathlib.Core.List.{List}
use Rattle.std.specs.Prelude.{ℕ, Result, Ok}
use Rattle.model.specs.Refusals.{first_refusal, settle}
use Rattle.model.specs.File.{oper, uses, length_of, uses_at, op_count, first_use, uses_checks}
use Rattle.model.proofs.Checks.{refusal_early}
use Rattle.model.proofs.File.{Shape, shape}
use Rattle.refusals.specs.declared.Refusal.{Refusal}
use Rattle.refusals.specs.Told.{refusal_of}
use Rattle.refusals.proofs.Tables.{fine_passes, refusal_kept, refused_first, kept_first, rest_decides}
use Rattle.loop_file.specs.Read.{part_of, ops_table, uses_table}
use Rattle.loop_file.proofs.CheckAnswers.{part_refusal, part_rest, part_refused, part_passed_on, part_fine}
use Rattle.loop_file.proofs.Tables.{uses_few}
use Rattle.loop_file.proofs.FileChecks.{sum_refused, sum_right, ops_part, deps_part, bodies_whole}
use Rattle.loop_file.proofs.reader.bodies.Goals as goal

-- ---- the operations, whose number is `w` / 2

module _ (f : List ℕ) (w : ℕ) (is : w ≡ length_of f oper) (r : Result ℕ Refusal) (said : part_of r ≡ settle (ops_table f (w / 2)) (first_use f (w / 2))) where
  ops_said : part_of r ≡ settle (ops_part f) (first_use f (op_count f))
  ops_said = rw is at said

  -- once they are right: how many uses there are, and what is left of the table
  ops_rest : {total : ℕ} → r ≡ Ok total → (total ≡ first_use f (op_count f)) × (first_refusal (uses_checks f ++ deps_part f) ≡ first_refusal (ops_part f ++ (uses_checks f ++ deps_part f)))
  ops_rest h = part_rest (ops_part f) (uses_checks f ++ deps_part f) (first_use f (op_count f)) ops_said h

  -- at most four an operation
  total_few : {total : ℕ} → Shape f → r ≡ Ok total → total ≤ 256
  total_few k h = omega (arith, (ops_rest h).0, uses_few f (op_count f) (fine_passes (ops_part f) h (part_refusal r (ops_part f) (first_use f (op_count f)) ops_said)), k)

-- ---- the uses, once their number is right: their body begins where that of the operations, of `w` bytes, ends

module _ (f : List ℕ) (w total u : ℕ) (is : w ≡ length_of f oper) (all : total ≡ first_use f (op_count f)) (length_is : u ≡ length_of f uses) (right : u ≡ 2 * total) (r : Result Unit Refusal) (said : refusal_of r ≡ first_refusal (uses_table f (26 + w) (w / 2))) where
  uses_said : refusal_of r ≡ first_refusal (uses_checks f)
  uses_said =
      let e : length_of f uses ≡ 2 * first_use f (op_count f) = omega arith in
      (rw is at said) ∙ sym (sum_right f e)

pub returns-in_default : goal.returns-in_default
returns-in_default c =
    let f = c.args.file.now in
    let said = part_refusal c.ops-by_ops.result (ops_part f) (first_use f (op_count f)) (ops_said f _ c.word-oper.ensures.0 _ c.ops-by_ops.ensures) in
    ap part_of c.in_default.is
    ∙ part_refused _ _ (sym (bodies_whole f) ∙ sym (refused_first (ops_part f) (uses_checks f ++ deps_part f) said c.in_default.is) ∙ ap refusal_of c.in_default.is)

pub returns-then-uses_length-total : goal.returns-then-uses_length-total
returns-then-uses_length-total c =
    let f = c.args.file.now in
    let o = ops_rest f _ c.word-oper.ensures.0 _ c.ops-by_ops.ensures c.in-Ok.is in
    let s : 26 + c.word-oper.result ≡ uses_at f = omega arith in
    let n = sum_refused f (λ e. c.if-uses_length-total.true (c.word-uses_length.ensures.0 ∙ e ∙ ap (λ (t : ℕ). 2 * t) (sym o.0))) in
    rw s (part_refused _ _ (sym (bodies_whole f) ∙ sym o.1 ∙ refusal_early (uses_checks f) (deps_part f) _ n))

pub returns-in_default-by_uses : goal.returns-in_default-by_uses
returns-in_default-by_uses c =
    let f = c.args.file.now in
    let o = ops_rest f _ c.word-oper.ensures.0 _ c.ops-by_ops.ensures c.in-Ok.is in
    let u = uses_said f _ _ _ c.word-oper.ensures.0 o.0 c.word-uses_length.ensures.0 c.if-uses_length-total.false _ c.uses-by_uses.ensures in
    part_passed_on _ c.passed_on.result _ _ c.passed_on.ensures
    (kept_first (uses_checks f) (deps_part f) u c.passed_on.result c.in_default-by_uses.is c.passed_on.ensures ∙ o.1 ∙ bodies_whole f)

pub returns-in_default-by_deps : goal.returns-in_default-by_deps
returns-in_default-by_deps c =
    let f = c.args.file.now in
    let o = ops_rest f _ c.word-oper.ensures.0 _ c.ops-by_ops.ensures c.in-Ok.is in
    let u = uses_said f _ _ _ c.word-oper.ensures.0 o.0 c.word-uses_length.ensures.0 c.if-uses_length-total.false _ c.uses-by_uses.ensures in
    let r = c.passed_on-in_default-by_deps in
    part_passed_on _ r.result _ _ r.ensures
    (refusal_kept c.deps-by_deps.result r.result (rw c.in_default-by_deps.is) r.ensures
    ∙ (rw (c.word-oper.ensures.0, c.word-uses_length.ensures.0, c.word.ensures.0) at c.deps-by_deps.ensures)
    ∙ sym (rest_decides (uses_checks f) (deps_part f) u c.in-Ok-by_uses.is)
    ∙ o.1
    ∙ bodies_whole f)

pub returns : goal.returns
returns c =
    let f = c.args.file.now in
    let o = ops_rest f _ c.word-oper.ensures.0 _ c.ops-by_ops.ensures c.in-Ok.is in
    let u = uses_said f _ _ _ c.word-oper.ensures.0 o.0 c.word-uses_length.ensures.0 c.if-uses_length-total.false _ c.uses-by_uses.ensures in
    let d = rw (c.word-oper.ensures.0, c.word-uses_length.ensures.0, c.word.ensures.0) at c.deps-by_deps.ensures in
    part_fine _ (sym (bodies_whole f) ∙ sym o.1 ∙ rest_decides (uses_checks f) (deps_part f) u c.in-Ok-by_uses.is ∙ fine_passes (deps_part f) c.in-Ok-by_deps.is d) o.0

pub overflow_mul-total : goal.overflow_mul-total
overflow_mul-total c = omega (arith, total_few c.args.file.now _ c.word-oper.ensures.0 _ c.ops-by_ops.ensures (shape c.args.file.now c.requires.1) c.in-Ok.is)
