-- No pair before this one conflicts, no cycle of a use before this one meets operation b, and no cycle before this one of this use does; nothing is found yet.
use Rattle.std.proofs.Common.{◌≡◌}
use Rattle.std.specs.Prelude.{None}
use Rattle.model.specs.File.{loop_of}
use Rattle.verifier.proofs.Pairs.{CyclesPass, UsesPass, Beside, Before}
use Rattle.verifier.proofs.walk.first_pair.Given as goal

abbrev pub invariant-pairs : goal.invariant-pairs
invariant-pairs l = (l.found ≡ None) × Before (loop_of l.file) l.interval l.starts l.a

abbrev pub invariant-loop-b : goal.invariant-loop-b
invariant-loop-b l = (l.found ≡ None) × Beside (loop_of l.file) l.interval l.starts l.a l.b

abbrev pub invariant-loop-u : goal.invariant-loop-u
invariant-loop-u l = (l.found ≡ None) × UsesPass (loop_of l.file) l.interval l.starts l.a l.b l.first l.u

abbrev pub invariant-loop-k : goal.invariant-loop-k
invariant-loop-k l = (l.found ≡ None) × CyclesPass (loop_of l.file) l.interval l.starts l.a l.b l.u l.k
