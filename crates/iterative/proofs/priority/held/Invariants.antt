-- The sum is that of the first j uses, each of at most 16 cycles; and where the uses stand.
use Rattle.std.proofs.Common.{◌≡◌, ◌+◌, ◌*◌, ◌<◌, ◌≤◌, ℕ}
use Rattle.model.specs.File.{loop_of}
use Rattle.reservation.proofs.UseNumbers.{UseHere}
use Rattle.iterative.specs.Priority.{held_by}
use Rattle.iterative.proofs.priority.held.Given as goal

abbrev pub invariant-loop-j : goal.invariant-loop-j
invariant-loop-j l = record { is : l.sum ≡ held_by (loop_of l.file) l.op l.j; short : l.sum ≤ 16 * l.j; here : (k : ℕ) → k < l.j-end → UseHere l.file l.op k (l.first + k) }
