-- One bit of a word, set and cleared, and the other bits, which stay. Assumes nothing.
use mathlib.Core.Path.{◌≡◌, sym, ap, ◌∙◌}
use Prim.Native.Nat.{ℕ, ◌+◌, ◌-◌, ◌*◌, ◌/◌, ◌%◌, ◌^◌, ◌≤◌, ◌<◌}
use native.Mathlib.Nat.{zero-mul, one-mul, mod-eq_of_lt, mul-div-le, le-mul_of_pos_right, add-div_right}
use native.Mathlib.Decide.{ℕ_discrete}
use native.Mathlib.Omega.{arith}
use lib.Bits.{bit_and, bit_or, or_disjoint}
use lib.Pow.{pow_pos, pow-lt}
use mir.Syntax.{w64}
use Rattle.std.specs.Int.{bit_at}
use Rattle.std.proofs.lemmas.Nat.{and_le_l}
use Rattle.std.proofs.lemmas.Nat.Bits.{and_pow, bit_at_or, bit_at-pow_other, bit_at_clear_same, bit_at_clear_other, same_from_bits_below}
use Rattle.model.specs.Table.{digit_of}

-- setting a bit that is clear adds its power
set_bit : (x k : ℕ) → bit_at x k ≡ 0 → bit_or x (2 ^ k) ≡ x + 2 ^ k
set_bit x k e = or_disjoint x (2 ^ k) (and_pow x k ∙ ap (λ (d : ℕ). d * 2 ^ k) e ∙ zero-mul (2 ^ k))

-- and leaves the others
more_bit : (x j k : ℕ) → (j ≡ k → ⊥) → bit_at x k ≡ 0 → bit_at (x + 2 ^ k) j ≡ bit_at x j
more_bit x j k ne e = ap (λ (y : ℕ). bit_at y j) (sym (set_bit x k e)) ∙ bit_at_or x (2 ^ k) j ∙ omega (arith, bit_at-pow_other k j ne)

-- a bit that is set: without its power it is clear, and the others are as they were
module _ (x k : ℕ) (e : bit_at x k ≡ 1) where
  back : x - 2 ^ k + 2 ^ k ≡ x
  back = omega (arith, mul-div-le x (2 ^ k), le-mul_of_pos_right {m = x / 2 ^ k} (2 ^ k) (omega arith))

  less_clear : bit_at (x - 2 ^ k) k ≡ 0
  less_clear =
      let up : x / 2 ^ k ≡ (x - 2 ^ k) / 2 ^ k + 1 = ap (λ (y : ℕ). y / 2 ^ k) (sym back) ∙ add-div_right (x - 2 ^ k) (pow_pos k) in
      omega arith

  less_bit : (j : ℕ) → (j ≡ k → ⊥) → bit_at (x - 2 ^ k) j ≡ bit_at x j
  less_bit j ne = sym (more_bit (x - 2 ^ k) j k ne less_clear) ∙ ap (λ (y : ℕ). bit_at y j) back

-- the code's own terms at 64 bits: `x | (1 << k)` where the bit is clear
pub or_shl : (x k : ℕ) → k < 64 → x / 2 ^ k % 2 ≡ 0 → bit_or x (1 * 2 ^ k % 2 ^ 64) ≡ x + 2 ^ k
or_shl x k l e = ap (bit_or x) (rw one-mul (mod-eq_of_lt (pow-lt l))) ∙ set_bit x k e

-- and `x & !(1 << k)` where it is set: both have the same bits
pub and_not_shl : (x k : ℕ) → x < 2 ^ 64 → k < 64 → x / 2 ^ k % 2 ≡ 1 → bit_and x (2 ^ 64 - 1 - 1 * 2 ^ k % 2 ^ 64) ≡ x - 2 ^ k
and_not_shl x k h l e = same_from_bits_below 64 _ _ (omega (arith, and_le_l)) (omega arith) (λ i m. pick i m (ℕ_discrete i k))
  where
    pick : (i : ℕ) → i < 64 → Dec (i ≡ k) → bit_at (bit_and x (2 ^ 64 - 1 - 1 * 2 ^ k % 2 ^ 64)) i ≡ bit_at (x - 2 ^ k) i
    pick i m (yes s) = rw s (bit_at_clear_same w64 x k l ∙ sym (less_clear x k e))
    pick i m (no ne) = bit_at_clear_other w64 x k l i m ne ∙ sym (less_bit x k e i ne)

-- setting the bit of slot t leaves the bit of another slot
pub with_other : (s t x : ℕ) → 1 ≤ s → 1 ≤ t → (s ≡ t → ⊥) → digit_of 2 x t ≡ 0 → digit_of 2 (x + 2 ^ (t - 1)) s ≡ digit_of 2 x s
with_other s t x p q ne e = more_bit x (s - 1) (t - 1) (λ h. ne (omega arith)) e

-- and so does clearing it
pub less_other : (s t x : ℕ) → 1 ≤ s → 1 ≤ t → (s ≡ t → ⊥) → digit_of 2 x t ≡ 1 → digit_of 2 (x - 2 ^ (t - 1)) s ≡ digit_of 2 x s
less_other s t x p q ne e = less_bit x (t - 1) e (s - 1) (λ h. ne (omega arith))
