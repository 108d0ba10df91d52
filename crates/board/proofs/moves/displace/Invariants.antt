-- Of the first p operations those in the way are taken out.
use Rattle.board.specs.Moves.{Cleared}
use Rattle.board.proofs.moves.displace.Given as goal

abbrev pub invariant-loop-p : goal.invariant-loop-p
invariant-loop-p l = Cleared l.file l.interval l.op l.start l.p l.initial.starts l.initial.rows l.starts l.rows l.mask
