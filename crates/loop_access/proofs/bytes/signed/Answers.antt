-- A byte read as a signed number by the machine is the byte's signed value.
use Rattle.std.proofs.Common.{arith}
use Rattle.std.proofs.lemmas.Bool.Decides.{nat_tests}
use Rattle.std.proofs.lemmas.Int.{ints}
use Rattle.model.specs.File.{signed_byte}
use Rattle.loop_access.proofs.bytes.signed.Goals as goal

pub returns : goal.returns
unfolding signed_byte
returns c = grind (arith, ints, nat_tests, c.from.ensures, c.cast_signed.ensures)
