-- A turn: the operation is wanted and not placed, so that it fits and is put in (`fill_may`, `fill_put`), or it is left.
use Rattle.std.proofs.Common.{arith}
use Rattle.board.proofs.Rollback.{fill_placed, fill_blank, fill_may, fill_put, fill_end}
use Rattle.board.proofs.moves.put_missing.Goals as goal

pub put-requires : goal.put-requires
put-requires c = fill_may c.loop-p.invariant c.requires.1 (omega arith) c.if-starts-p.true c.if-start.true

pub loop-p-preserved : goal.loop-p-preserved
loop-p-preserved c =
    let t = c.loop-p.invariant in
    let s = c.requires.1 in
    grind (arith, fill_placed t s (omega arith), fill_blank t s (omega arith), fill_put t s (omega arith))

pub returns : goal.returns
returns c = fill_end c.requires.1 (omega arith) c.loop-p.invariant
