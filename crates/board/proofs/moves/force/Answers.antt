-- Where the check refuses all stays (`did_passed`), and else what is in the way is taken out and the operation put in (`did_force`).
use Rattle.model.specs.Session.{force}
use Rattle.refusals.proofs.Tables.{fine_passes}
use Rattle.board.proofs.Effects.{did_passed}
use Rattle.board.proofs.Obstacles.{force_clear, force_put, did_force}
use Rattle.board.proofs.moves.force.Goals as goal

pub returns-in_err-forceable : goal.returns-in_err-forceable
returns-in_err-forceable c = did_passed c.requires (force c.args.op c.args.start) c.from_residual.result c.forceable.ensures c.in_err-forceable.was c.from_residual.ensures.1

pub displace-mask-requires : goal.displace-mask-requires
displace-mask-requires c = force_clear c.requires c.args.op c.args.start (fine_passes _ c.in_ok-forceable.was c.forceable.ensures)

pub put-requires : goal.put-requires
put-requires c = force_put c.requires c.args.op c.args.start (fine_passes _ c.in_ok-forceable.was c.forceable.ensures) c.displace-mask.ensures

pub returns : goal.returns
returns c = did_force c.requires c.args.op c.args.start (fine_passes _ c.in_ok-forceable.was c.forceable.ensures) c.displace-mask.ensures c.put.ensures
