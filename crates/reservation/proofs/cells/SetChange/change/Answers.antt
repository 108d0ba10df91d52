-- Setting a bit that is clear adds its power.
use Rattle.std.proofs.Common.{arith}
use Rattle.reservation.proofs.Bits.{or_shl}
use Rattle.reservation.proofs.cells.SetChange.change.Goals as goal

pub returns : goal.returns
returns c = or_shl c.args.row _ (omega arith) c.requires.2
