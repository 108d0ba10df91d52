-- In a cycle that the use covers it meets what `covers` says (`shared_cell`).
use Rattle.std.proofs.Common.{◌∙◌, sym}
use Rattle.reservation.proofs.Overlaps.{shared_cell}
use Rattle.reservation.proofs.pairs.shares.Goals as goal

pub returns-then-covers_cycle : goal.returns-then-covers_cycle
returns-then-covers_cycle c = (rw c.slot.ensures at c.covers.ensures) ∙ sym (shared_cell _ _ _ _ _ _ (sym c.if-covers_cycle.ensures))
