-- No row comes twice, so each bit is still as it was at entry when its turn comes (`over_turn`).
use Rattle.std.proofs.Common.{add-one, arith, refl}
use Rattle.reservation.specs.Rows.{over_use}
use Rattle.reservation.proofs.RowUpdates.{over_turn}
use Rattle.reservation.proofs.cells.change_use.Goals as goal

pub loop-k-init : goal.loop-k-init
unfolding over_use
loop-k-init g c = refl

pub change-requires : goal.change-requires
change-requires g c =
    let a = c.args in
    let turn = over_turn (g.C.Change.after a.slot) g.C.Change.before a.rows.now a.interval a.start a.n a.slot c.requires c.loop-k.k (omega arith) in
    rw c.loop-k.invariant (turn.low, turn.high, turn.digit)

pub loop-k-preserved : goal.loop-k-preserved
unfolding over_use
loop-k-preserved g c = rw (c.change.ensures, c.loop-k.invariant, add-one c.loop-k.k)
