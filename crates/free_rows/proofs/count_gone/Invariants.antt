-- What is left of the mask are its bits from p on, and the numbers are those at entry after the operations before p that it names have gone. The measure is what is left.
use Rattle.std.proofs.Common.{◌≡◌, ◌/◌, ◌^◌, ◌≤◌, false}
use Rattle.model.specs.Loop.{size}
use Rattle.model.specs.File.{loop_of}
use Rattle.free_rows.specs.Numbers.{Moved, named_on}
use Rattle.free_rows.proofs.count_gone.Given as goal

abbrev pub invariant-loop-left : goal.invariant-loop-left
invariant-loop-left l = record {
  inside : l.p ≤ size (loop_of l.file);
  bits : l.left ≡ l.mask / 2 ^ l.p;
  gone : Moved false (λ s. named_on (loop_of l.file) l.mask s l.p) l.initial.free l.free;
}

abbrev pub decreases-loop-left : goal.decreases-loop-left
decreases-loop-left l = l.left
