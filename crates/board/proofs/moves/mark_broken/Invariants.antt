-- The marks are those of the first e dependences.
use Rattle.model.specs.File.{loop_of}
use Rattle.board.specs.Moves.{HitsAre}
use Rattle.board.proofs.moves.mark_broken.Given as goal

abbrev pub invariant-loop-e : goal.invariant-loop-e
invariant-loop-e l = HitsAre (loop_of l.file) l.interval l.op l.start l.e l.starts l.hits
