-- The laws of an operation taken out (`lift_uses`, `lift_is`).
use Rattle.std.proofs.Common.{arith}
use Rattle.board.proofs.Boards.{number_near, number_there, lift_uses, lift_is}
use Rattle.board.proofs.lift.Goals as goal

pub release-requires : goal.release-requires
release-requires c =
    let p = c.requires in
    let o = c.args.op in
    (p.0.accepted, p.1, lift_uses o _ p.0 p.1 (omega (arith, number_there o p.0 p.1, number_near o p.0 p.2)) (number_there o p.0 p.1), c.first_use.ensures)

pub returns : goal.returns
returns c =
    let p = c.requires in
    let o = c.args.op in
    rw c.release.ensures (lift_is o _ p.0 p.1 (omega (arith, number_there o p.0 p.1, number_near o p.0 p.2)) (number_there o p.0 p.1))
