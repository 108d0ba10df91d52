-- A turn: the operation is elsewhere and is taken out (`thin_lift`), or is left (`thin_same`, `thin_blank`).
use Rattle.std.proofs.Common.{arith}
use Rattle.board.proofs.Rollback.{thin_blank, thin_same, thin_lift}
use Rattle.board.proofs.moves.lift_others.Goals as goal

pub loop-p-preserved : goal.loop-p-preserved
loop-p-preserved c =
    let t = c.loop-p.invariant in
    let s = c.requires.1 in
    grind (arith, thin_blank t (omega arith), thin_same t (omega arith) s, thin_lift t (omega arith) s)
