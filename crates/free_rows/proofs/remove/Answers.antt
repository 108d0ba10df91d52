-- An operation that was removed is counted; where none was the numbers stay.
use Rattle.std.proofs.lemmas.Result.{err_from_is_err_and}
use Rattle.free_rows.proofs.Calls.{refused_free, removed_room, removed_free}
use Rattle.free_rows.proofs.remove.Goals as goal

pub returns-in_err-removed : goal.returns-in_err-removed
returns-in_err-removed c =
    let p = err_from_is_err_and c.from_residual.result c.from_residual.ensures.1 in
    rw (p.1, p.2) (rw c.in_err-removed.was at c.remove.ensures, refused_free (c.remove.ensures 4096 c.requires.0) c.in_err-removed.was c.requires.1)

pub count-requires : goal.count-requires
count-requires c = removed_room c.requires.0 (c.remove.ensures 4096 c.requires.0) c.in_ok-removed.was c.args.free.now c.requires.1

pub returns : goal.returns
returns c = (c.in_ok-removed.ensures, removed_free c.requires.0 (c.remove.ensures 4096 c.requires.0) c.in_ok-removed.was c.args.free.now c.requires.1 _ c.count.ensures)
