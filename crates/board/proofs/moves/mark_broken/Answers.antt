-- A turn: the other end of a broken dependence is marked (`mark_target`, `mark_source`).
use Rattle.std.proofs.Common.{arith}
use Rattle.model.proofs.File.{accepted_ok}
use Rattle.board.proofs.Boards.{few_operations}
use Rattle.board.proofs.Hits.{mark_begin, mark_skip, mark_target, mark_source}
use Rattle.board.proofs.moves.mark_broken.Goals as goal

pub loop-e-init : goal.loop-e-init
loop-e-init c = mark_begin _ _ _ _ _

pub bounds-hits-other : goal.bounds-hits-other
bounds-hits-other c =
    let ok = (accepted_ok _ c.requires.0.accepted).dep_ok c.loop-e.e (omega arith) in
    grind (arith, few_operations _ c.requires.0.accepted, ok.source, ok.target)

pub loop-e-preserved : goal.loop-e-preserved
loop-e-preserved c =
    let ok = (accepted_ok _ c.requires.0.accepted).dep_ok c.loop-e.e (omega arith) in
    let h = c.loop-e.invariant in
    let few = few_operations _ c.requires.0.accepted in
    grind (arith, mark_skip h, mark_target h ok few, mark_source h ok few)
