-- Clearing a bit that is set takes its power off.
use Rattle.std.proofs.Common.{arith}
use Rattle.reservation.proofs.Bits.{and_not_shl}
use Rattle.reservation.proofs.cells.ClearChange.change.Goals as goal

pub returns : goal.returns
returns c = and_not_shl c.args.row _ (omega arith) (omega arith) c.requires.2
