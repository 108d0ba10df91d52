-- Each of the first p operations is where it is wanted.
use Rattle.board.proofs.Rollback.{Filled}
use Rattle.board.proofs.moves.put_missing.Given as goal

abbrev pub invariant-loop-p : goal.invariant-loop-p
invariant-loop-p l = Filled l.file l.interval l.p l.wanted l.initial.rows l.starts l.rows
