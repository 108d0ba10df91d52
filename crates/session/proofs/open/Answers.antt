-- The first refusal, or an empty session on cleared rows.
use Rattle.std.proofs.Common.{ℕ, replicate}
use Rattle.std.proofs.Math.ListN.{length-replicate}
use Rattle.model.specs.File.{longest}
use Rattle.session.proofs.Openings.{open_refused, open_done}
use Rattle.session.proofs.open.Goals as goal

pub returns-in_default : goal.returns-in_default
returns-in_default c =
    let a = c.args in
    open_refused a.file.now a.interval a.horizon a.rows.now c.passed_on.result c.openable-answer.ensures c.in_default.is c.passed_on.ensures

pub returns : goal.returns
returns c =
    let a = c.args in
    open_done a.file.now a.interval a.horizon a.rows.now c.in-Ok.ensures (replicate longest 0) _ _ (length-replicate {A = ℕ} longest 0) c.copy_file.ensures c.clear_rows.ensures
