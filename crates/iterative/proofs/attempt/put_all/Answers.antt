-- The operation that is picked is one of the loop's, and a step keeps the board.
use Rattle.std.proofs.Common.{refl, arith}
use Rattle.iterative.proofs.attempt.put_all.Goals as goal

pub step-requires : goal.step-requires
step-requires c = (c.loop.invariant.board, omega (arith, (c.in-Some.ensures.highest c.in-Some.op refl).inside))
