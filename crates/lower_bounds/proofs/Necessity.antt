-- No legal list of starts exists at an interval below either bound. Assumes nothing.
use mathlib.Core.Path.{◌≡◌}
use mathlib.Core.Bool.{true}
use mathlib.Core.List.{List}
use Prim.Native.Nat.{ℕ, ◌≤◌, ◌<◌, max}
use native.Mathlib.Decide.{dec_lt}
use native.Mathlib.Omega.{arith}
use lib.ListN.{length}
use Rattle.model.specs.Loop.{Loop, size, LoopOk}
use Rattle.model.specs.Legality.{placed, meets, apart, legal_at, legal}
use Rattle.model.specs.Bounds.{resource_bound, RecurrenceBound}
use Rattle.model.proofs.Lists.{and_left}
use Rattle.lower_bounds.proofs.Slots.{resource_needed}

-- what is legal meets the dependences, so its interval is at least the recurrence bound
pub recurrence_needed : (l : Loop) (ii b : ℕ) (xs : List ℕ) → 1 ≤ ii → length xs ≡ size l → legal l ii xs ≡ true → RecurrenceBound l b → b ≤ ii
unfolding legal_at
recurrence_needed l ii b xs p e h r = go (dec_lt ii b)
  where
    go : Dec (ii < b) → b ≤ ii
    go (yes m) = absurd (r.least ii p m (record { starts = xs; all_ops = e; all_met = and_left (meets l ii (placed xs)) (apart l ii (placed xs)) h }))
    go (no m) = omega arith

-- so a legal list's interval is at least the larger bound
pub bounds_needed : (l : Loop) (ii b : ℕ) (xs : List ℕ) → LoopOk l → 1 ≤ ii → length xs ≡ size l → legal l ii xs ≡ true → RecurrenceBound l b → max (resource_bound l) b ≤ ii
bounds_needed l ii b xs ok p e h r = omega (arith, resource_needed l ii xs ok p e h, recurrence_needed l ii b xs p e h r)
