-- Where the check refuses all stays (`did_passed`), and else the operation is taken out (`did_remove`).
use Rattle.model.specs.Session.{remove}
use Rattle.refusals.proofs.Tables.{fine_passes}
use Rattle.board.proofs.Effects.{did_passed, remove_inside, remove_placed, did_remove}
use Rattle.board.proofs.moves.remove.Goals as goal

pub returns-in_err-removable : goal.returns-in_err-removable
returns-in_err-removable c h b = did_passed b (remove c.args.op) c.from_residual.result c.removable.ensures c.in_err-removable.was c.from_residual.ensures.1

pub lift-requires : goal.lift-requires
lift-requires c =
    let b = c.requires in
    let fine = fine_passes _ c.in_ok-removable.was c.removable.ensures in
    (b, remove_inside b c.args.op fine, remove_placed b c.args.op fine)

pub returns : goal.returns
returns c h b = did_remove b c.args.op (fine_passes _ c.in_ok-removable.was c.removable.ensures) c.lift.ensures
