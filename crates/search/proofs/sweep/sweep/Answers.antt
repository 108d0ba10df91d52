-- Each end by what the interval comes to, searched from its empty prefix.
use Rattle.std.proofs.Common.{arith}
use Rattle.search.proofs.Tops.{ready, finds, stops, goes_on, ends}
use Rattle.search.proofs.sweep.sweep.Goals as goal
use Rattle.search.proofs.sweep.sweep.Goals.{else-loop-ii-test, then-loop-ii-test+in-Nothing+else-ii-cap}

pub choose-requires : goal.choose-requires
choose-requires c = ready c.requires c.loop-ii.invariant c.loop-ii-test.true

pub returns-in-All-clause-done : goal.returns-in-All-clause-done
returns-in-All-clause-done c = (finds c.requires c.loop-ii.invariant c.loop-ii-test.true c.in-All.ensures.done).0

pub returns-in-Spent-clause-done : goal.returns-in-Spent-clause-done
returns-in-Spent-clause-done c = stops c.requires c.loop-ii.invariant c.loop-ii-test.true c.in-Spent.ensures.done

pub loop-ii-preserved : goal.loop-ii-preserved
loop-ii-preserved c = goes_on c.requires c.loop-ii.invariant c.loop-ii-test.true c.choose.ensures.same c.in-Nothing.ensures.done

pub overflow_sub-result : goal.overflow_sub-result
overflow_sub-result c = (finds c.requires c.loop-ii.invariant c.loop-ii-test.true c.in-All.ensures.done).1

-- no interval is there, or the last one is done
pub overflow_sub-result-2 : goal.overflow_sub-result-2
overflow_sub-result-2 c =
    elim c.loop-ii-test.branch [
      | else-loop-ii-test w ↦ omega arith
      | then-loop-ii-test+in-Nothing+else-ii-cap w ↦ omega (arith, (goes_on c.requires c.loop-ii.invariant w.loop-ii-test.true w.choose.ensures.same w.in-Nothing.ensures.done).paid)
    ]

pub returns-clause-done : goal.returns-clause-done
returns-clause-done c =
    elim c.loop-ii-test.branch [
      | else-loop-ii-test w ↦ rw w.left-is (ends c.requires c.loop-ii.invariant w.loop-ii-test.false)
      | then-loop-ii-test+in-Nothing+else-ii-cap w ↦ rw w.left-is (ends c.requires (goes_on c.requires c.loop-ii.invariant w.loop-ii-test.true w.choose.ensures.same w.in-Nothing.ensures.done) (omega arith))
    ]
