-- A place in range has a small cycle and a small slot.
use Rattle.std.proofs.Common.{ap, arith}
use Rattle.reservation.specs.Place.{place_of}
use Rattle.reservation.proofs.number.Goals as goal

pub overflow_mul-result : goal.overflow_mul-result
overflow_mul-result c = omega (arith, c.requires.small _ _ (ap place_of c.in-Some.is))

pub overflow_add-result : goal.overflow_add-result
overflow_add-result c = omega (arith, c.requires.small _ _ (ap place_of c.in-Some.is))
