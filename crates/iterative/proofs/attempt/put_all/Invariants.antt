-- The starts and the rows are a board, and later rows are as they were.
use Rattle.iterative.specs.Placed.{Kept}
use Rattle.iterative.proofs.attempt.put_all.Given as goal

abbrev pub invariant-loop : goal.invariant-loop
invariant-loop l = Kept l.file l.interval l.horizon l.fn.rows l.starts l.rows
