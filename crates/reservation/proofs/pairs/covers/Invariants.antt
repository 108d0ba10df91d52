-- No use before u covers the slot in the row.
use Rattle.std.proofs.Common.{◌≡◌, ℕ, ◌≤◌, ◌<◌, false, get_or}
use Rattle.model.specs.Loop.{no_use, all_uses}
use Rattle.model.specs.File.{loop_of}
use Rattle.reservation.proofs.Overlaps.{use_pass}
use Rattle.reservation.proofs.pairs.covers.Given as goal

abbrev pub invariant-loop-u : goal.invariant-loop-u
invariant-loop-u l = (v : ℕ) → v < l.u → l.first ≤ v → use_pass l.interval l.start l.slot_ l.row (get_or (all_uses (loop_of l.file)) v no_use) ≡ false
