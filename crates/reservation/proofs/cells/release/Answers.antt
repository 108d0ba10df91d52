-- The bits of other slots stay.
use Rattle.reservation.proofs.Bits.{less_other}
use Rattle.reservation.proofs.cells.release.Goals as goal

pub change_cells-requires-clause-leaves : goal.change_cells-requires-clause-leaves
change_cells-requires-clause-leaves c = less_other
