-- Part by part: a refusal is the whole table's, and else the rest decides.
use mathlib.Core.Path.{◌≡◌, sym, ap, ◌∙◌}
use Prim.Native.Nat.{ℕ, ◌*◌}
use native.Mathlib.Omega.{arith}
use lib.ListN.{length}
use Rattle.model.specs.File.{use_width}
use Rattle.model.specs.Writer.{op_total, first_given, uses_given_checks}
use Rattle.refusals.proofs.Tables.{fine_passes, passed_on, rest_decides}
use Rattle.loop_writer.specs.Answer.{fields_by}
use Rattle.loop_writer.proofs.Tables.{op_size, dep_size, ops_table, deps_table, after_ops, after_sizes, after_op_size, whole, number_refused, number_right, few, from_op_size, from_sizes, from_ops}
use Rattle.loop_writer.proofs.checks.given.Goals as goal

pub returns-in_err-size : goal.returns-in_err-size
returns-in_err-size c =
    let d = fields_by c.args.ops.now c.args.uses.now c.args.deps.now in
    passed_on (op_size d) (after_op_size d) c.size.ensures c.from_residual.result c.in_err-size.was c.from_residual.ensures.1 ∙ whole d

pub returns-in_err-size-2 : goal.returns-in_err-size-2
returns-in_err-size-2 c =
    let d = fields_by c.args.ops.now c.args.uses.now c.args.deps.now in
    let r = c.from_residual-in_err-size-2 in
    passed_on (dep_size d) (after_sizes d) c.size-2.ensures r.result c.in_err-size-2.was r.ensures.1 ∙ from_op_size d c.size.ensures c.in_ok-size.was

pub returns-in_err-op_list : goal.returns-in_err-op_list
returns-in_err-op_list c =
    let d = fields_by c.args.ops.now c.args.uses.now c.args.deps.now in
    let r = c.from_residual-in_err-op_list in
    passed_on (ops_table d) (after_ops d) c.op_list.ensures r.result c.in_err-op_list.was r.ensures.1 ∙ from_sizes d c.size.ensures c.in_ok-size.was c.size-2.ensures c.in_ok-size-2.was

pub all_uses-requires : goal.all_uses-requires
all_uses-requires c =
    let d = fields_by c.args.ops.now c.args.uses.now c.args.deps.now in
    (omega arith, (few d c.size.ensures c.in_ok-size.was).1, fine_passes (ops_table d) c.in_ok-op_list.was c.op_list.ensures)

pub returns-then-uses-all_uses : goal.returns-then-uses-all_uses
returns-then-uses-all_uses c =
    let d = fields_by c.args.ops.now c.args.uses.now c.args.deps.now in
    number_refused d (λ e. c.if-uses-all_uses.true (e ∙ sym (ap (λ (n : ℕ). use_width * n) c.all_uses.ensures.0)))
    ∙ from_ops d c.size.ensures c.in_ok-size.was c.size-2.ensures c.in_ok-size-2.was c.op_list.ensures c.in_ok-op_list.was

pub returns-in_err-use_list : goal.returns-in_err-use_list
returns-in_err-use_list c =
    let d = fields_by c.args.ops.now c.args.uses.now c.args.deps.now in
    let r = c.from_residual-in_err-use_list in
    let number : length d.uses ≡ use_width * first_given d.ops (op_total d) = omega arith in
    passed_on (uses_given_checks d) (deps_table d) (c.use_list.ensures ∙ number_right d number) r.result c.in_err-use_list.was r.ensures.1
    ∙ from_ops d c.size.ensures c.in_ok-size.was c.size-2.ensures c.in_ok-size-2.was c.op_list.ensures c.in_ok-op_list.was

pub dep_list-requires : goal.dep_list-requires
dep_list-requires c =
    let d = fields_by c.args.ops.now c.args.uses.now c.args.deps.now in
    let w = few d c.size.ensures c.in_ok-size.was in
    (omega arith, w.0, w.1)

pub returns : goal.returns
returns c =
    let d = fields_by c.args.ops.now c.args.uses.now c.args.deps.now in
    let number : length d.uses ≡ use_width * first_given d.ops (op_total d) = omega arith in
    c.dep_list.ensures
    ∙ sym (rest_decides (uses_given_checks d) (deps_table d) (c.use_list.ensures ∙ number_right d number) c.in_ok-use_list.was)
    ∙ from_ops d c.size.ensures c.in_ok-size.was c.size-2.ensures c.in_ok-size-2.was c.op_list.ensures c.in_ok-op_list.was
