-- A turn: the operation is in the way, is taken out and its bit is set (`clear_lift`), or it is left (`clear_keep`).
use Rattle.std.proofs.Common.{sym, arith}
use Rattle.board.proofs.Boards.{few_operations}
use Rattle.board.proofs.Obstacles.{clear_begin, clear_known, clear_placed, clear_keep, clear_lift}
use Rattle.board.proofs.moves.displace.Goals.{then-in_the_way, else-in_the_way}
use Rattle.board.proofs.moves.displace.Goals as goal

pub loop-p-init : goal.loop-p-init
loop-p-init c = clear_begin c.args.op c.args.start c.requires.0

pub in_the_way-requires : goal.in_the_way-requires
in_the_way-requires c = clear_known c.requires.0 c.requires.2 c.loop-p.invariant c.requires.1 (omega arith) c.requires.3 c.mark_broken-hits.ensures c.is_free-free.ensures

pub lift-requires : goal.lift-requires
lift-requires c = (c.loop-p.invariant.board, omega arith, clear_placed c.requires.0 c.requires.2 c.loop-p.invariant (sym c.if-in_the_way.ensures))

pub loop-p-preserved : goal.loop-p-preserved
loop-p-preserved c =
    let t = c.loop-p.invariant in
    elim c.if-in_the_way.branch [
      | then-in_the_way w ↦ rw (w.starts-is, w.rows-is, w.mask-is) (clear_lift c.requires.0 c.requires.2 t (omega (arith, few_operations _ c.requires.0.accepted)) (sym w.if-in_the_way.ensures) w.lift.ensures)
      | else-in_the_way w ↦ rw (w.starts-is, w.rows-is, w.mask-is) (clear_keep c.requires.0 c.requires.2 t (sym w.if-in_the_way.ensures))
    ]
