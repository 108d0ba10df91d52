use Rattle.std.proofs.Common.{◌≡◌, length, arith}
use Rattle.model.specs.Loop.{all_uses}
use Rattle.model.specs.File.{loop_of}
use Rattle.model.proofs.File.{accepted_ok}
use Rattle.model.proofs.Loop.{all_ok, all_few}
use Rattle.lower_bounds.proofs.AllUses.{total_all, total_most}
use Rattle.lower_bounds.proofs.resource.total_on.Goals as goal

-- 16 for each use so far and for this one, of at most 256
pub overflow_add-sum : goal.overflow_add-sum
overflow_add-sum c =
    let l = loop_of c.args.file.now in
    let ok = accepted_ok c.args.file.now c.requires in
    omega (arith, all_few l ok, total_most l ok c.args.s c.loop-u.u (omega arith), (all_ok l ok c.loop-u.u (omega arith)).ends)

pub returns : goal.returns
returns c =
    let l = loop_of c.args.file.now in
    let e : c.loop-u.u ≡ length (all_uses l) = omega arith in
    rw (← total_all l c.args.s, ← e) c.loop-u.invariant
