-- The laws of an operation put in (`put_uses`, `put_is`).
use Rattle.reservation.proofs.Seats.{seat_none}
use Rattle.board.proofs.Boards.{put_uses, put_is}
use Rattle.board.proofs.put.Goals as goal

pub reserve-requires : goal.reserve-requires
reserve-requires c =
    let p = c.requires in
    (p.board.accepted, p.inside, put_uses c.args.op c.args.start p.board p.inside p.near (seat_none _ p.blank) p.fits, c.first_use.ensures)

pub returns : goal.returns
returns c =
    let p = c.requires in
    rw c.reserve.ensures (put_is c.args.op c.args.start p.board p.inside p.near (seat_none _ p.blank) p.fits)
