-- The model's tests of a record's values as one test of signed numbers. Assumes nothing.
use mathlib.Core.Path.{◌≡◌, refl, ap}
use mathlib.Core.Bool.{Bool, ◌||◌}
use Prim.Native.Nat.{ℕ, suc, ◌+◌, ◌-◌, ◌≤◌}
use native.Mathlib.Omega.{arith}
use borrow.Author.Tests.{le-ltb}
use lib.Dec.{ltb}
use lib.IntN.{ℤ, pos, negsuc, ◌+ℤ◌, ◌-ℤ◌}
use mir.Syntax.{w32}
use mir.Val.{to_z, of_z}
use Rattle.std.proofs.lemmas.Int.{ints}
use Rattle.model.specs.File.{not_up_to, not_below, not_between}
use Rattle.model.proofs.Signed.{outside_range, leb_same}
use Rattle.loop_writer.specs.Ranges.{beyond}

-- 0 .. most
pub up_to : (most : ℕ) (z : ℤ) → not_up_to most z ≡ beyond (pos 0) (pos most) z
up_to most (pos n) = rw (le-ltb n 0 (omega arith))
up_to most (negsuc n) = refl

-- below + 1 .. most
pub between : (below most : ℕ) (z : ℤ) → not_between below most z ≡ beyond (pos (below + 1)) (pos most) z
between below most (pos n) = ap (λ (b : Bool). b || ltb most n) (leb_same n below (suc n) (below + 1) (λ h. omega arith) (λ h. omega arith))
between below most (negsuc n) = refl

-- the same where the machine adds the one
pub above : (below most : ℕ) (z : ℤ) → below ≤ 64 → not_between below most z ≡ beyond (to_z w32 (of_z w32 (to_z w32 below +ℤ pos 1))) (pos most) z
above below most z h = let e : to_z w32 (of_z w32 (to_z w32 below +ℤ pos 1)) ≡ pos (below + 1) = omega (arith, ints) in rw e (between below most z)

-- 0 .. n - 1, of which there is one, where the machine subtracts the one
pub under : (n : ℕ) (z : ℤ) → 1 ≤ n → n ≤ 64 → not_below n z ≡ beyond (pos 0) (to_z w32 (of_z w32 (to_z w32 n -ℤ pos 1))) z
under n z l h = let e : to_z w32 (of_z w32 (to_z w32 n -ℤ pos 1)) ≡ pos (n - 1) = omega (arith, ints) in rw e (to_last z)
  where
    to_last : (z : ℤ) → not_below n z ≡ beyond (pos 0) (pos (n - 1)) z
    to_last (pos m) = rw (le-ltb m 0 (omega arith)) (leb_same n m (suc (n - 1)) m (λ k. omega arith) (λ k. omega arith))
    to_last (negsuc m) = refl

-- those of a use, and those of a dependence
pub ruleset use_tests = (between, above)

pub ruleset dep_tests = (up_to, under, outside_range)
