-- The first check that fails, or the bounds' refusal; else what all of them say.
use Rattle.loop_file.proofs.Answers.{read_accepted}
use Rattle.search.proofs.Requests.{by_file, by_request, by_lower, all_pass}
use Rattle.search.proofs.admitted.Goals as goal

pub returns-in_err-counts : goal.returns-in_err-counts
returns-in_err-counts c = by_file _ _ _ _ _ _ c.from_residual.result _ c.in_err-counts.ensures c.from_residual.ensures.1

pub returns-in_err-request : goal.returns-in_err-request
returns-in_err-request c = by_request _ _ _ _ _ _ (read_accepted _ _ c.in_ok-counts.ensures) c.from_residual-in_err-request.result _ c.in_err-request.ensures c.from_residual-in_err-request.ensures.1

pub lower-requires : goal.lower-requires
lower-requires c = (read_accepted _ _ c.in_ok-counts.ensures).file

pub returns-in_err-bounds : goal.returns-in_err-bounds
returns-in_err-bounds c =
    by_lower _ _ _ _ _ _ (read_accepted _ _ c.in_ok-counts.ensures) c.in_ok-request.ensures c.from_residual-in_err-bounds.result _ c.in_err-bounds.ensures c.from_residual-in_err-bounds.ensures.1

pub returns : goal.returns
returns c = all_pass _ _ _ _ _ _ (read_accepted _ _ c.in_ok-counts.ensures) c.in_ok-request.ensures _ c.in_ok-bounds.ensures
