-- What is left of the budget falls: with `left` of it, pick has 2 * left + 1 and try_start 2 * left + 2, and pick pays for a start before it tries it.
-- The invariant of the loop is `AtStart`: what is left to do comes to what the whole comes to. Assumes nothing.
use Rattle.std.proofs.Common.{◌+◌, ◌-◌, ◌*◌}
use Rattle.descent.proofs.Steps.{AtStart}
use Rattle.descent.proofs.+pick_try_start.Given as goal

abbrev pub decreases-pick : goal.decreases-pick
decreases-pick l = l.left * 2 + 1

abbrev pub decreases-try_start : goal.decreases-try_start
decreases-try_start l = l.left * 2 + 2

abbrev pub invariant-pick-loop-s : goal.invariant-pick-loop-s
invariant-pick-loop-s l =
    AtStart l.file l.fn.starts l.fn.rows l.op l.n l.interval l.horizon l.left l.w.from l.w.to l.starts l.rows l.purse l.paid l.s

abbrev pub decreases-pick-loop-s : goal.decreases-pick-loop-s
decreases-pick-loop-s l = l.horizon - l.s
