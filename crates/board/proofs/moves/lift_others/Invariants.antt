-- Of the first p operations those that are elsewhere are taken out.
use Rattle.board.specs.Moves.{Thinned}
use Rattle.board.proofs.moves.lift_others.Given as goal

abbrev pub invariant-loop-p : goal.invariant-loop-p
invariant-loop-p l = Thinned l.file l.interval l.p l.wanted l.initial.starts l.initial.rows l.starts l.rows
