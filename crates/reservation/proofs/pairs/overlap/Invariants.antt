-- No use before u of operation a meets operation b.
use Rattle.std.proofs.Common.{◌≡◌, ℕ, ◌≤◌, ◌<◌, false, get_or}
use Rattle.model.specs.Loop.{no_use, op_at, all_uses}
use Rattle.model.specs.File.{loop_of}
use Rattle.reservation.specs.Overlaps.{use_meets}
use Rattle.reservation.proofs.pairs.overlap.Given as goal

abbrev pub invariant-loop-u : goal.invariant-loop-u
invariant-loop-u l = (v : ℕ) → v < l.u → l.first ≤ v → use_meets l.interval (op_at (loop_of l.file) l.b) l.from l.to (get_or (all_uses (loop_of l.file)) v no_use) ≡ false
