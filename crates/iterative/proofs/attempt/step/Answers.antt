-- The start is below the horizon.
use Rattle.std.proofs.Common.{arith}
use Rattle.iterative.proofs.Timings.{start_near}
use Rattle.iterative.proofs.attempt.step.Goals as goal

pub overflow_add-again : goal.overflow_add-again
overflow_add-again c = omega (arith, start_near c.in-Some.ensures)

pub overflow_cast-again : goal.overflow_cast-again
overflow_cast-again c = omega (arith, start_near c.in-Some.ensures)
