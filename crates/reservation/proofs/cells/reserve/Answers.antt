-- The bits of other slots stay.
use Rattle.reservation.proofs.Bits.{with_other}
use Rattle.reservation.proofs.cells.reserve.Goals as goal

pub change_cells-requires-clause-leaves : goal.change_cells-requires-clause-leaves
change_cells-requires-clause-leaves c = with_other
