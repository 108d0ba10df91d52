-- `most` is the largest total on the slots below `s`, and at least 1.
use Rattle.std.proofs.Common.{◌≡◌, ◌-◌, max}
use Rattle.model.specs.Lists.{up_from, max_of}
use Rattle.model.specs.File.{loop_of}
use Rattle.model.specs.Bounds.{total_on}
use Rattle.lower_bounds.proofs.resource.resource.Given as goal

abbrev pub invariant-loop-s : goal.invariant-loop-s
invariant-loop-s l = l.most ≡ max 1 (max_of (total_on (loop_of l.file)) (up_from 1 (l.s - 1)))
