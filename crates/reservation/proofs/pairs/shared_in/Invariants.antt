-- No use before u of operation b meets operation a in cycle k.
use Rattle.std.proofs.Common.{◌≡◌, ℕ, ◌≤◌, ◌<◌, false, get_or}
use Rattle.model.specs.Loop.{no_use, op_at, all_uses}
use Rattle.model.specs.File.{loop_of}
use Rattle.model.specs.Counts.{single, used_by, taken_at}
use Rattle.reservation.proofs.pairs.shared_in.Given as goal

abbrev pub invariant-loop-u : goal.invariant-loop-u
invariant-loop-u l =
    (v : ℕ) → v < l.u → l.first ≤ v
    → taken_at single (used_by l.interval (op_at (loop_of l.file) l.a) l.from) false l.interval l.to l.k (get_or (all_uses (loop_of l.file)) v no_use) ≡ false
