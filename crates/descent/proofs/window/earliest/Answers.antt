-- 32 bits hold the difference: a delay is one of -64 to 64, and an interval of at most 4,096 times a distance is small.
use Rattle.std.proofs.Common.{ap, ◌*◌, ℕ, arith}
use Rattle.std.proofs.lemmas.Bool.Decides.{nat_tests}
use Rattle.std.proofs.lemmas.Int.{ints}
use Rattle.model.specs.Legality.{holds}
use Rattle.model.proofs.File.{accepted_ok}
use Rattle.reservation.proofs.Ranges.{lag_small}
use Rattle.descent.proofs.window.earliest.Goals as goal

pub returns-then-due-lt0 : goal.returns-then-due-lt0
unfolding holds
returns-then-due-lt0 c t =
    let k = (accepted_ok c.args.file.now c.requires.0).dep_ok c.args.e c.requires.1 in
    let small = lag_small c.args.file.now c.args.interval c.args.e c.requires.0 c.requires.1 c.requires.3 in
    let e = ap (λ (x : ℕ). c.args.interval * x) c.distance.ensures in
    grind (arith, ints, nat_tests, k.early, k.late, c.delay.ensures, small, e)

pub returns-else-due-lt0 : goal.returns-else-due-lt0
unfolding holds
returns-else-due-lt0 c t =
    let k = (accepted_ok c.args.file.now c.requires.0).dep_ok c.args.e c.requires.1 in
    let small = lag_small c.args.file.now c.args.interval c.args.e c.requires.0 c.requires.1 c.requires.3 in
    let e = ap (λ (x : ℕ). c.args.interval * x) c.distance.ensures in
    grind (arith, ints, nat_tests, k.early, k.late, c.delay.ensures, small, e)
