-- How large the values of the rounds grow. Assumes nothing.
use mathlib.Core.Path.{◌≡◌, refl}
use mathlib.Core.List.{List}
use Prim.Native.Nat.{ℕ, zero, suc, ◌+◌, ◌*◌, ◌≤◌, ◌<◌, max}
use native.Mathlib.Nat.{le_refl, mul-suc}
use native.Mathlib.Decide.{ℕ_discrete}
use native.Mathlib.Omega.{arith}
use lib.IntN.{pos}
use lib.Signed.{◌≤ℤ◌}
use lib.ListN.{length, get_or, set, replicate}
use lib.Seq.{get_or-set_same, get_or-set_other}
use Rattle.model.specs.Loop.{Dep, Loop, dep_at}
use Rattle.model.proofs.Signed.{plus_le}
use Rattle.lower_bounds.specs.Rounds.{needed, relax, relax_to, round, rounds, AtMost}
use Rattle.lower_bounds.proofs.Rounds.{AllWithin, relax_to_length, rounds_length}

pub zeros : (n i : ℕ) → ◌≡◌ {A = ℕ} (get_or (replicate n 0) i 0) 0
zeros zero i = refl
zeros (suc n) zero = refl
zeros (suc n) (suc i) = zeros n i

-- one value changed to b
set_below : (xs : List ℕ) (v b top : ℕ) → v < length xs → b ≤ top → AtMost xs top → AtMost (set xs v b) top
set_below xs v b top l h f i = go (ℕ_discrete i v)
  where
    go : Dec (i ≡ v) → get_or (set xs v b) i 0 ≤ top
    go (yes e) = rw (e, get_or-set_same xs v b 0 l) h
    go (no o) = rw (get_or-set_other xs v i b 0 o) (f i)

-- a dependence of delay up to 64 raises the largest by at most 64
pub relax_below : (ii : ℕ) (d : Dep) (xs : List ℕ) (top : ℕ) → d.dst < length xs → d.delay ≤ℤ pos 64 → AtMost xs top → AtMost (relax ii d xs) (top + 64)
unfolding relax
relax_below ii d xs top l h f = set_below xs d.dst (max (get_or xs d.dst 0) (needed ii xs d)) (top + 64) l (omega (arith, f d.dst, f d.src, plus_le d.delay 64 h)) (λ i. omega (arith, f i))

module _ (L : Loop) (ii n : ℕ) (within : AllWithin n L) where
  pub to_below : (k : ℕ) → k ≤ length L.deps → (xs : List ℕ) (top : ℕ) → length xs ≡ n → AtMost xs top → AtMost (relax_to L ii k xs) (top + 64 * k)
  unfolding relax_to
  to_below zero l xs top e f i = omega (arith, f i)
  to_below (suc k) l xs top e f i =
      let h : (dep_at L k).dst < length (relax_to L ii k xs) = omega (arith, (within k l).target, relax_to_length L ii k xs) in
      omega (arith, relax_below ii (dep_at L k) (relax_to L ii k xs) (top + 64 * k) h (within k l).late (to_below k (omega arith) xs top e f) i)

  -- after r rounds
  pub rounds_below : (r : ℕ) → AtMost (rounds L ii n r) (64 * (length L.deps * r))
  unfolding rounds round
  rounds_below zero i = rw (zeros n i) (omega arith)
  rounds_below (suc r) i = omega (arith, to_below (length L.deps) (le_refl (length L.deps)) (rounds L ii n r) (64 * (length L.deps * r)) (rounds_length L ii n r) (rounds_below r) i, mul-suc (length L.deps) r)
