-- Laws of rows that wrap round at the interval. Assumes nothing.
use mathlib.Core.Path.{◌≡◌, sym, ap, ◌∙◌}
use Prim.Native.Nat.{ℕ, ◌+◌, ◌-◌, ◌%◌, ◌≤◌, ◌<◌, suc}
use native.Mathlib.Nat.{mod-lt, mod-eq_of_lt, mod-add-mod, add-mod-mod, mod-eq-sub-mod, add-mod_right, mod_self}
use native.Mathlib.Decide.{dec_lt}
use native.Mathlib.Omega.{arith}

-- within ii steps no row comes twice
pub wrap_ne : (ii a e : ℕ) → 0 < e → e < ii → (a + e) % ii ≡ a % ii → ⊥
wrap_ne ii a e lo hi q = pick (dec_lt (a % ii + e) ii)
  where
    below : a % ii < ii
    below = mod-lt a (omega arith)

    pick : Dec (a % ii + e < ii) → ⊥
    pick (yes l) = omega (arith, mod-add-mod a ii e, mod-eq_of_lt l)
    pick (no n) =
        let l : ii ≤ a % ii + e = omega arith in
        let m : a % ii + e - ii < ii = omega (arith, below) in
        omega (arith, below, mod-add-mod a ii e, mod-eq-sub-mod l ∙ mod-eq_of_lt m)

-- the next row, where it is not past the last
pub wrap_next : (ii a : ℕ) → suc (a % ii) < ii → (a + 1) % ii ≡ a % ii + 1
wrap_next ii a h =
    let l : a % ii + 1 < ii = omega arith in
    sym (mod-add-mod a ii 1) ∙ mod-eq_of_lt l

-- after the last row comes row 0
pub wrap_zero : (ii a : ℕ) → a % ii + 1 ≡ ii → (a + 1) % ii ≡ 0
wrap_zero ii a h = sym (mod-add-mod a ii 1) ∙ ap (λ (x : ℕ). x % ii) h ∙ mod_self ii

-- the cycle, counted from x, in which the row comes
abbrev pub cycle_of : ℕ → ℕ → ℕ → ℕ
cycle_of ii x row = (row + ii - x % ii) % ii

-- in that cycle the row comes
pub cycle_row : (ii x row : ℕ) → 1 ≤ ii → row < ii → (x + cycle_of ii x row) % ii ≡ row
cycle_row ii x row pos l =
    let e : x % ii + (row + ii - x % ii) ≡ row + ii = omega (arith, mod-lt x pos) in
    add-mod-mod x (row + ii - x % ii) ii ∙ sym (mod-add-mod x ii (row + ii - x % ii)) ∙ ap (λ (n : ℕ). n % ii) e ∙ add-mod_right row ii ∙ mod-eq_of_lt l

-- and in none before
pub cycle_first : (ii x row k : ℕ) → 1 ≤ ii → (x + k) % ii ≡ row → cycle_of ii x row ≤ k
cycle_first ii x row k pos e = pick (dec_lt k (cycle_of ii x row))
  where
    pick : Dec (k < cycle_of ii x row) → cycle_of ii x row ≤ k
    pick (no n) = omega arith
    pick (yes l) =
        let c : ℕ = cycle_of ii x row in
        let g : x + k + (c - k) ≡ x + c = omega arith in
        let m : row < ii = omega (arith, mod-lt (x + k) pos) in
        absurd (wrap_ne ii (x + k) (c - k) (omega arith) (omega (arith, mod-lt (row + ii - x % ii) pos)) (ap (λ (n : ℕ). n % ii) g ∙ cycle_row ii x row pos m ∙ sym e))
