-- A force that is done answers the displaced (`forced_displaces`): they are counted and then the operation; where it is refused the numbers stay.
use Rattle.std.proofs.Common.{◌∙◌, ap}
use Rattle.std.specs.Prelude.{Ok}
use Rattle.std.proofs.lemmas.Result.{err_from_is_err_and}
use Rattle.free_rows.proofs.Calls.{refused_free, forced_displaces, gone_room, forced_room, forced_free}
use Rattle.free_rows.proofs.force.Goals as goal

pub returns-in_err-forced : goal.returns-in_err-forced
returns-in_err-forced c =
    let p = err_from_is_err_and c.from_residual.result c.from_residual.ensures.1 in
    rw (p.1, p.2) (rw c.in_err-forced.was at c.force.ensures, refused_free c.force.ensures c.in_err-forced.was c.requires.1)

pub unreachable-requires : goal.unreachable-requires
unreachable-requires c = forced_displaces c.force.ensures c.in_ok-forced.was c.in_default.not-Displaced

pub count_gone-requires : goal.count_gone-requires
count_gone-requires c = gone_room c.requires.0 c.force.ensures (c.in_ok-forced.was ∙ ap Ok c.in-Displaced.is) c.args.free.now c.requires.1

pub count-requires : goal.count-requires
count-requires c = forced_room c.requires.0 c.force.ensures (c.in_ok-forced.was ∙ ap Ok c.in-Displaced.is) c.args.free.now c.requires.1 _ c.count_gone.ensures

pub returns : goal.returns
returns c =
    let done = c.in_ok-forced.was ∙ ap Ok c.in-Displaced.is in
    (rw done at c.force.ensures, forced_free c.requires.0 c.force.ensures done c.args.free.now c.requires.1 _ c.count_gone.ensures _ c.count.ensures)
