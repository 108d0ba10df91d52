-- Fractions in lowest terms (document 02, order 6). Assumes nothing.
use Rattle.std.specs.Prelude.{◌≡◌, Bool, cond, ◌&&◌, ℕ, zero, suc, ◌*◌, ◌/◌, ◌%◌, ◌≤◌, eqb}
use Rattle.std.specs.Int.{◌∣◌}

-- a fraction
pub record Fraction : Type 0 where
  pub num : ℕ
  pub den : ℕ

-- by its numbers
abbrev pub over : ℕ → ℕ → Fraction
over num den = record { num = num; den = den }

-- whether k divides n
abbrev pub divides : ℕ → ℕ → Bool
divides k n = eqb (n % k) 0

-- the largest number from 1 to m that divides both; 0 where there is none
unfoldable pub greatest : ℕ → ℕ → ℕ → ℕ
greatest zero a b = 0
greatest (suc m) a b = cond (divides (suc m) a && divides (suc m) b) (suc m) (greatest m a b)

-- the greatest common divisor of a and b, where b is not 0
unfoldable pub gcd_of : ℕ → ℕ → ℕ
gcd_of a b = greatest b a b

-- `used` over `cells` in lowest terms; 0/1 where there are no cells
unfoldable pub lowest_of : ℕ → ℕ → Fraction
lowest_of used cells = cond (eqb cells 0) (over 0 1) (over (used / gcd_of used cells) (cells / gcd_of used cells))

-- in plain words, for laws: the fraction has the value of `used` over `cells`, and 1 is the only number that divides both of its numbers
pub record InLowest (used cells : ℕ) (f : Fraction) : Type 0 where
  pub some : 1 ≤ f.den
  pub same : f.num * cells ≡ used * f.den
  pub coprime : (k : ℕ) → k ∣ f.num → k ∣ f.den → k ≡ 1
