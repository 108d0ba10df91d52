-- An operation that was placed is counted; where none was the numbers stay.
use Rattle.std.proofs.lemmas.Result.{err_from_is_err_and}
use Rattle.free_rows.proofs.Calls.{refused_free, placed_room, placed_free}
use Rattle.free_rows.proofs.place.Goals as goal

pub returns-in_err-placed : goal.returns-in_err-placed
returns-in_err-placed c =
    let p = err_from_is_err_and c.from_residual.result c.from_residual.ensures.1 in
    rw (p.1, p.2) (rw c.in_err-placed.was at c.place.ensures, refused_free c.place.ensures c.in_err-placed.was c.requires.1)

pub count-requires : goal.count-requires
count-requires c = placed_room c.requires.0 c.place.ensures c.in_ok-placed.was c.args.free.now c.requires.1

pub returns : goal.returns
returns c = (c.in_ok-placed.ensures, placed_free c.requires.0 c.place.ensures c.in_ok-placed.was c.args.free.now c.requires.1 _ c.count.ensures)
