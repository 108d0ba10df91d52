-- In no cycle before k does operation b meet operation a.
use Rattle.std.proofs.Common.{◌≡◌, ℕ, ◌<◌, false}
use Rattle.std.proofs.Math.Option.{none}
use Rattle.model.specs.Loop.{op_at}
use Rattle.model.specs.File.{loop_of}
use Rattle.model.specs.Counts.{single, used_by}
use Rattle.reservation.proofs.TakenCells.{taken_in}
use Rattle.reservation.proofs.pairs.shared_place.Given as goal

abbrev pub invariant-loop-k : goal.invariant-loop-k
invariant-loop-k l = (i : ℕ) → i < l.k → taken_in single (used_by l.interval (op_at (loop_of l.file) l.a) l.from) false l.interval (op_at (loop_of l.file) l.b) l.to i ≡ none
