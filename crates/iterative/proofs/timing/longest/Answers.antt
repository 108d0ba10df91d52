-- One use more.
use Rattle.std.proofs.Common.{◌≡◌, max, arith, rules}
use Rattle.model.specs.File.{loop_of}
use Rattle.reservation.proofs.UseNumbers.{use_here}
use Rattle.iterative.proofs.Durations.{lasts, longest_first, longest_next}
use Rattle.iterative.proofs.timing.longest.Goals as goal

pub loop-j-init : goal.loop-j-init
loop-j-init c = record {
  is = longest_first (loop_of c.args.file.now) c.args.op;
  short = omega arith;
  here = λ k m. use_here _ _ _ _ _ c.requires.0 c.requires.1 c.first_use-first.ensures c.use_count-j-end.ensures m;
}

pub loop-j-preserved : goal.loop-j-preserved
loop-j-preserved c =
    let d = lasts c.requires.0 c.requires.1 (omega arith) (c.loop-j.invariant.here _ c.loop-j-test.true) c.duration.ensures in
    let larger : c.max-most.result ≡ max c.loop-j.most c.duration.result = search rules in
    record { is = longest_next _ _ c.loop-j.invariant.is d larger; short = omega arith; here = c.loop-j.invariant.here }
