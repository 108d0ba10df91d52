-- Where the check refuses all stays (`did_passed`), and else the operation is put in (`did_place`).
use Rattle.model.specs.Session.{place}
use Rattle.refusals.proofs.Tables.{fine_passes}
use Rattle.board.proofs.Effects.{did_passed, place_put, did_place}
use Rattle.board.proofs.moves.place.Goals as goal

pub returns-in_err-placeable : goal.returns-in_err-placeable
returns-in_err-placeable c = did_passed c.requires (place c.args.op c.args.start) c.from_residual.result c.placeable.ensures c.in_err-placeable.was c.from_residual.ensures.1

pub put-requires : goal.put-requires
put-requires c = place_put c.requires c.args.op c.args.start (fine_passes _ c.in_ok-placeable.was c.placeable.ensures)

pub returns : goal.returns
returns c = did_place c.requires c.args.op c.args.start (fine_passes _ c.in_ok-placeable.was c.placeable.ensures) c.put.ensures
