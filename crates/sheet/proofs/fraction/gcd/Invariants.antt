-- Each turn keeps the common divisors. The measure is the second number.
use Rattle.model.proofs.Fractions.{Common}
use Rattle.sheet.proofs.fraction.gcd.Given as goal

abbrev pub invariant-loop-y : goal.invariant-loop-y
invariant-loop-y l = Common l.fn.a l.fn.b l.x l.y

abbrev pub decreases-loop-y : goal.decreases-loop-y
decreases-loop-y l = l.y
