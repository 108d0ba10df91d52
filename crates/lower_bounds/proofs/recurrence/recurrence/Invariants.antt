-- No interval below `lo` can be met, and `hi` can.
use Prim.Native.Nat.{◌-◌}
use Rattle.model.specs.File.{loop_of}
use Rattle.lower_bounds.proofs.Bisection.{Between}
use Rattle.lower_bounds.proofs.recurrence.recurrence.Given as goal

abbrev pub invariant-loop-lo : goal.invariant-loop-lo
invariant-loop-lo l = Between (loop_of l.file) l.lo l.hi

abbrev pub decreases-loop-lo : goal.decreases-loop-lo
decreases-loop-lo l = l.hi - l.lo
