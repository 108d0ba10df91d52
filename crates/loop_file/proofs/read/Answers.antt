-- The three parts of the reader settle their tables, and the tables join to that of the whole file.
use Rattle.std.proofs.Common.{◌∙◌, ◌++◌, ◌/◌, ℕ, ap, sym}
use Rattle.model.specs.File.{length_checks, head_checks, contents_checks, op_count, first_use}
use Rattle.refusals.proofs.Tables.{fine_passes, refusal_kept, kept_first, rest_decides}
use Rattle.loop_file.specs.Read.{body_checks}
use Rattle.loop_file.proofs.CheckAnswers.{part_refusal, part_value}
use Rattle.loop_file.proofs.FileChecks.{file_whole}
use Rattle.loop_file.proofs.Answers.{counted_refused, counted_accepted}
use Rattle.loop_file.proofs.read.Goals as goal

pub returns-in_default : goal.returns-in_default
returns-in_default c =
    let f = c.args.file.now in
    counted_refused _ f c.passed_on.result c.passed_on.ensures
    (kept_first (length_checks f ++ head_checks f) (contents_checks f ++ body_checks f) c.head-head.ensures c.passed_on.result c.in_default.is c.passed_on.ensures ∙ file_whole f)

pub returns-in_default-contents : goal.returns-in_default-contents
returns-in_default-contents c =
    let f = c.args.file.now in
    let r = c.passed_on-in_default-contents in
    counted_refused _ f r.result r.ensures
    (kept_first (contents_checks f) (body_checks f) c.contents-contents.ensures r.result c.in_default-contents.is r.ensures
    ∙ sym (rest_decides (length_checks f ++ head_checks f) (contents_checks f ++ body_checks f) c.head-head.ensures c.in-Ok.is)
    ∙ file_whole f)

pub returns-in_default-bodies : goal.returns-in_default-bodies
returns-in_default-bodies c =
    let f = c.args.file.now in
    let r = c.passed_on-in_default-bodies in
    counted_refused _ f r.result r.ensures
    (refusal_kept c.bodies-bodies.result r.result (rw c.in_default-bodies.is) r.ensures
    ∙ part_refusal c.bodies-bodies.result (body_checks f) (first_use f (op_count f)) c.bodies-bodies.ensures
    ∙ sym (rest_decides (contents_checks f) (body_checks f) c.contents-contents.ensures c.in-Ok-contents.is)
    ∙ sym (rest_decides (length_checks f ++ head_checks f) (contents_checks f ++ body_checks f) c.head-head.ensures c.in-Ok.is)
    ∙ file_whole f)

pub returns : goal.returns
returns c =
    let f = c.args.file.now in
    counted_accepted f _
    (sym (file_whole f)
    ∙ rest_decides (length_checks f ++ head_checks f) (contents_checks f ++ body_checks f) c.head-head.ensures c.in-Ok.is
    ∙ rest_decides (contents_checks f) (body_checks f) c.contents-contents.ensures c.in-Ok-contents.is
    ∙ fine_passes (body_checks f) c.in-Ok-bodies.is (part_refusal c.bodies-bodies.result (body_checks f) (first_use f (op_count f)) c.bodies-bodies.ensures))
    (ap (λ (w : ℕ). w / 2) c.word.ensures.0)
    (part_value (body_checks f) (first_use f (op_count f)) c.in-Ok-bodies.is c.bodies-bodies.ensures)
    (ap (λ (w : ℕ). w / 4) c.word-2.ensures.0)
