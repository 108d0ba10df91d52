-- `most` is the longest of the first j uses; and where the uses stand.
use Rattle.std.proofs.Common.{◌≡◌, ◌+◌, ◌<◌, ◌≤◌, ℕ}
use Rattle.model.specs.File.{loop_of}
use Rattle.reservation.proofs.UseNumbers.{UseHere}
use Rattle.iterative.specs.Timing.{longest_of}
use Rattle.iterative.proofs.timing.longest.Given as goal

abbrev pub invariant-loop-j : goal.invariant-loop-j
invariant-loop-j l = record { is : l.most ≡ longest_of (loop_of l.file) l.op l.j; short : l.most ≤ 16; here : (k : ℕ) → k < l.j-end → UseHere l.file l.op k (l.first + k) }
