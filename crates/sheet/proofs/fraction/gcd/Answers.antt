-- The last number left is the greatest common divisor.
use Rattle.std.proofs.Common.{◌≡◌, arith, subst}
use Rattle.model.specs.Fractions.{gcd_of}
use Rattle.model.proofs.Fractions.{Common, common_next, common_end}
use Rattle.sheet.proofs.fraction.gcd.Goals as goal

pub loop-y-preserved : goal.loop-y-preserved
loop-y-preserved c = common_next (omega arith) c.loop-y.invariant

pub returns : goal.returns
returns c =
    let a = c.args in
    let l = c.loop-y in
    let z : l.y ≡ 0 = omega arith in
    let e : l.x ≡ gcd_of a.a a.b = common_end a.a a.b l.x c.requires (subst (Common a.a a.b l.x) z l.invariant) in
    (e, omega arith)
