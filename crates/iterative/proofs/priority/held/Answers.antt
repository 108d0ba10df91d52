-- One use more.
use Rattle.std.proofs.Common.{arith}
use Rattle.model.specs.File.{loop_of}
use Rattle.reservation.proofs.UseNumbers.{use_here}
use Rattle.iterative.proofs.Durations.{lasts, held_first, held_next}
use Rattle.iterative.proofs.priority.held.Goals as goal

pub loop-j-init : goal.loop-j-init
loop-j-init c = record {
  is = held_first (loop_of c.args.file.now) c.args.op;
  short = omega arith;
  here = λ k m. use_here _ _ _ _ _ c.requires.0 c.requires.1 c.first_use-first.ensures c.use_count-j-end.ensures m;
}

pub overflow_add-sum : goal.overflow_add-sum
overflow_add-sum c =
    let here = c.loop-j.invariant.here _ c.loop-j-test.true in
    omega (arith, here.small, lasts c.requires.0 c.requires.1 (omega arith) here c.duration-sum.ensures)

pub loop-j-preserved : goal.loop-j-preserved
loop-j-preserved c =
    let d = lasts c.requires.0 c.requires.1 (omega arith) (c.loop-j.invariant.here _ c.loop-j-test.true) c.duration-sum.ensures in
    record { is = held_next _ _ c.loop-j.invariant.is d; short = omega arith; here = c.loop-j.invariant.here }
