-- The uses of an operation are of different slots, so the cells of each are still as they were at entry when its turn comes (`uses_turn`).
use Rattle.std.proofs.Common.{◌≡◌, suc, ◌+◌, ◌-◌, arith, le_refl}
use Rattle.model.specs.Loop.{op_at}
use Rattle.model.specs.File.{loop_of}
use Rattle.model.proofs.File.{accepted_ok}
use Rattle.reservation.specs.Rows.{over_uses}
use Rattle.reservation.proofs.RowUpdates.{uses_turn}
use Rattle.reservation.proofs.UseNumbers.{own_uses, own_at}
use Rattle.reservation.proofs.cells.change_cells.Goals as goal

pub loop-u-init : goal.loop-u-init
unfolding over_uses
loop-u-init g c = let e : c.args.first - c.args.first ≡ 0 = omega arith in rw e

pub change_use-requires : goal.change_use-requires
change_use-requires g c =
    let p = c.requires.in_table in
    let own = own_uses _ _ _ _ p.0 p.1 p.3 c.use_count.ensures in
    let a = c.args in
    let j = c.loop-u.u - a.first in
    rw (c.loop-u.invariant, c.offset.ensures, c.duration.ensures, c.slot.ensures, ← own_at own c.loop-u.u (omega arith) (omega arith))
    (uses_turn g.C.Change.after g.C.Change.before a.rows.now a.interval a.start (op_at (loop_of a.file.now) a.op) c.requires.leaves ((accepted_ok _ p.0).op_ok a.op p.1) p.2
    j j (le_refl j) (omega (arith, own)))

pub loop-u-preserved : goal.loop-u-preserved
unfolding over_uses
loop-u-preserved g c =
    let p = c.requires.in_table in
    let own = own_uses _ _ _ _ p.0 p.1 p.3 c.use_count.ensures in
    let e : c.loop-u.u + 1 - c.args.first ≡ suc (c.loop-u.u - c.args.first) = omega arith in
    rw (c.change_use.ensures, c.loop-u.invariant, c.offset.ensures, c.duration.ensures, c.slot.ensures, e, own_at own c.loop-u.u (omega arith) (omega arith))
