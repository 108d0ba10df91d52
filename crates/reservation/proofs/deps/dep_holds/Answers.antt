-- What is read is in range, since the file is accepted, so 32 bits hold both sides of the inequality.
use Rattle.std.proofs.Common.{arith}
use Rattle.std.proofs.lemmas.Int.{ints}
use Rattle.model.specs.Legality.{holds}
use Rattle.model.proofs.File.{accepted_ok}
use Rattle.model.proofs.Delays.{lag_le}
use Rattle.reservation.proofs.deps.dep_holds.Goals as goal

pub overflow_add-due : goal.overflow_add-due
overflow_add-due c = let ok = (accepted_ok _ c.requires.0).dep_ok c.args.e c.requires.1 in omega (arith, ints, ok.early, ok.late, c.delay.ensures)

pub returns : goal.returns
unfolding holds
returns c =
    let ok = (accepted_ok _ c.requires.0).dep_ok c.args.e c.requires.1 in
    rw (← c.distance.ensures) (grind (arith, ints, ok.early, ok.late, c.delay.ensures, lag_le c.args.interval ok c.requires.4 c.distance.ensures))
