-- Cycle by cycle: `place_taken` where the test of one finds something, `place_free` where none does.
use Rattle.std.proofs.Common.{arith, below_more}
use Rattle.reservation.proofs.TakenCells.{cycles_few, cycle_free, place_free, place_taken}
use Rattle.reservation.proofs.test.conflict.Goals as goal

pub returns-in-Taken : goal.returns-in-Taken
returns-in-Taken c = place_taken _ _ _ _ _ c.loop-k.k _ _ (omega arith) c.loop-k.invariant.none_met c.in-Taken.ensures

pub loop-k-preserved : goal.loop-k-preserved
loop-k-preserved c =
    let told = cycle_free _ _ _ c.in-Free.ensures in
    record {
      few = omega (arith, told.1, cycles_few _ c.args.op c.requires.0 c.requires.1);
      no_more = λ l. omega (arith, told.1);
      none_met = below_more _ _ c.loop-k.invariant.none_met told.0;
    }

pub returns : goal.returns
returns c = place_free _ _ _ _ _ c.loop-k.k c.loop-k.invariant.none_met (c.loop-k.invariant.no_more c.loop-k-test.false)
