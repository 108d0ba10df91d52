-- What every accepted file has in range, under one name for the tactic of the whole crate (src/lib.rt). Assumes nothing.
use mathlib.Core.List.{List}
use mathlib.Core.Path.{refl}
use Prim.Native.Nat.{ℕ, ◌+◌, ◌*◌, ◌≤◌, ◌<◌}
use lib.ListN.{length, get_or}
use Rattle.model.specs.Loop.{no_use, size, op_at, dep_at, all_uses, first_use_of}
use Rattle.model.specs.File.{loop_of, Accepted}
use Rattle.model.proofs.Delays.{lag_le}
use Rattle.model.proofs.File.{accepted_ok}
use Rattle.model.proofs.Loop.{use_within, all_ok, all_few}

module _ (f : List ℕ) where
  -- the uses of an operation end before those of all do
  pub uses_end : (o : ℕ) → Accepted f → o < size (loop_of f) → first_use_of (loop_of f) o + length (op_at (loop_of f) o).uses ≤ length (all_uses (loop_of f))
  uses_end o a l = use_within (loop_of f) o l

  -- and there are at most 256
  pub uses_few : Accepted f → length (all_uses (loop_of f)) ≤ 256
  uses_few a = all_few (loop_of f) (accepted_ok f a)

  -- a use ends within 16 cycles
  pub use_ends : (u : ℕ) → Accepted f → u < length (all_uses (loop_of f)) → (get_or (all_uses (loop_of f)) u no_use).offset + (get_or (all_uses (loop_of f)) u no_use).duration ≤ 16
  use_ends u a l = (all_ok (loop_of f) (accepted_ok f a) u l).ends

  -- its slot is one from 1 to 24
  pub slot_low : (u : ℕ) → Accepted f → u < length (all_uses (loop_of f)) → 1 ≤ (get_or (all_uses (loop_of f)) u no_use).slot
  slot_low u a l = (all_ok (loop_of f) (accepted_ok f a) u l).slot_low

  pub slot_high : (u : ℕ) → Accepted f → u < length (all_uses (loop_of f)) → (get_or (all_uses (loop_of f)) u no_use).slot ≤ 24
  slot_high u a l = (all_ok (loop_of f) (accepted_ok f a) u l).slot_high

  -- both ends of a dependence are operations
  pub source_there : (e : ℕ) → Accepted f → e < length (loop_of f).deps → (dep_at (loop_of f) e).src < size (loop_of f)
  source_there e a l = ((accepted_ok f a).dep_ok e l).source

  pub target_there : (e : ℕ) → Accepted f → e < length (loop_of f).deps → (dep_at (loop_of f) e).dst < size (loop_of f)
  target_there e a l = ((accepted_ok f a).dep_ok e l).target

  -- and an interval times its distance is small
  pub lag_small : (ii e : ℕ) → Accepted f → e < length (loop_of f).deps → ii ≤ 4096 → ii * (dep_at (loop_of f) e).distance ≤ 61440
  lag_small ii e a l h = lag_le ii ((accepted_ok f a).dep_ok e l) h refl

pub ruleset ranges = (uses_end, uses_few, use_ends, slot_low, slot_high, source_there, target_there, lag_small)
