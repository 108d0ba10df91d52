-- What a dependence of an accepted file adds and subtracts, in naturals. Assumes nothing.
use mathlib.Core.Path.{◌≡◌, sym, ap, ◌∙◌}
use Prim.Native.Nat.{ℕ, ◌+◌, ◌*◌, ◌≤◌}
use native.Mathlib.Nat.{mul-le-mul}
use native.Mathlib.Omega.{arith}
use lib.Dec.{leb}
use Rattle.model.specs.Integers.{plus, minus}
use Rattle.model.specs.Loop.{Dep, DepOk}
use Rattle.model.specs.Legality.{holds}
use Rattle.model.proofs.Signed.{is_pos, is_negsuc, le_of, parts, holds_parts}

-- a delay is at most 64
pub delay_late : {n : ℕ} {d : Dep} → DepOk n d → plus d.delay ≤ 64 + minus d.delay
delay_late {d = d} k = omega (arith, le_of (parts d.delay) (is_pos 64) k.late)

-- and at least -64
pub delay_early : {n : ℕ} {d : Dep} → DepOk n d → minus d.delay ≤ 64 + plus d.delay
delay_early {d = d} k = omega (arith, le_of (is_negsuc 63) (parts d.delay) k.early)

-- an interval of at most 4,096 times a distance
pub lag_le : {n x : ℕ} {d : Dep} (ii : ℕ) → DepOk n d → ii ≤ 4096 → x ≡ d.distance → ii * x ≤ 4096 * 15
lag_le ii k l e = mul-le-mul {n₂ = 4096} {m₂ = 15} l (omega (arith, k.near))

-- the dependence's inequality, at a number that is its distance
pub holds_lag : (ii : ℕ) (d : Dep) (s t : ℕ) {x : ℕ} → x ≡ d.distance → leb (s + plus d.delay) (t + ii * x + minus d.delay) ≡ holds ii d s t
holds_lag ii d s t e =
    ap (λ (y : ℕ). leb (s + plus d.delay) (t + ii * y + minus d.delay)) e ∙ sym (holds_parts ii d s t)
