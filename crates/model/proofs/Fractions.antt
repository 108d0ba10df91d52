-- The greatest common divisor divides both numbers and is the largest that does; a fraction divided by it is in lowest terms; Euclid's invariant. Assumes nothing.
use mathlib.Core.Path.{◌≡◌, refl, sym, ap, ap₂, ◌∙◌, subst}
use mathlib.Core.Bool.{Bool, true, false, cond, ◌&&◌}
use mathlib.Core.Logic.{◌⊎◌, inl, inr}
use Prim.Native.Nat.{ℕ, zero, suc, ◌+◌, ◌*◌, ◌/◌, ◌%◌, ◌≤◌, ◌<◌, ◌∣◌}
use native.Mathlib.Nat.{dvd-zero, dvd_refl, one-dvd, dvd-mod_iff, le_of_dvd, pos_of_dvd_of_pos, dvd_of_mod-eq-zero, mod-eq-zero_of_dvd, mul-dvd-mul_right, div-mul_cancel, mul-le-mul_right, mul_assoc, mul_comm, zero-mul, le_antisymm, eq-or-lt_of_le}
use native.Mathlib.Omega.{arith}
use borrow.Author.Tests.{eq-eqb, ne_eqb, eqb-true}
use Rattle.model.specs.Fractions.{Fraction, divides, greatest, gcd_of, over, lowest_of, InLowest}

-- ---- the greatest common divisor

both_left : (x y : Bool) → (x && y) ≡ true → x ≡ true
both_left true y e = refl
both_left false y e = e

both_right : (x y : Bool) → (x && y) ≡ true → y ≡ true
both_right true y e = e
both_right false y e = let z : ◌≡◌ {A = ℕ} 0 1 = cc in absurd (omega arith)

-- the test by remainders says that k divides n
divides_is : (k n : ℕ) → divides k n ≡ true → k ∣ n
divides_is k n e = dvd_of_mod-eq-zero k (eqb-true _ _ e)

is_divides : (k n : ℕ) → k ∣ n → divides k n ≡ true
is_divides k n d = eq-eqb _ _ (mod-eq-zero_of_dvd k d)

-- what a greatest common divisor of a and b up to m is
pub record Greatest (m a b g : ℕ) : Type 0 where
  pub least : 1 ≤ g
  pub left : g ∣ a
  pub right : g ∣ b
  pub most : (k : ℕ) → k ≤ m → k ∣ a → k ∣ b → k ≤ g

greatest_is : (m a b : ℕ) → 1 ≤ m → Greatest m a b (greatest m a b)
unfolding greatest
greatest_is zero a b l = absurd (omega arith)
greatest_is (suc m) a b l = pick (divides (suc m) a && divides (suc m) b) refl (greatest_is m a b)
  where
    pick : (t : Bool) → (divides (suc m) a && divides (suc m) b) ≡ t → (1 ≤ m → Greatest m a b (greatest m a b)) → Greatest (suc m) a b (cond t (suc m) (greatest m a b))
    pick true t ih = record {
      least = omega arith;
      left = divides_is (suc m) a (both_left (divides (suc m) a) (divides (suc m) b) t);
      right = divides_is (suc m) b (both_right (divides (suc m) a) (divides (suc m) b) t);
      most = λ k h p q. h;
    }
    pick false t ih = record { least = g.least; left = g.left; right = g.right; most = λ k h p q. below k p q (eq-or-lt_of_le h) }
      where
        -- a common divisor is not m + 1
        other : (k : ℕ) → k ∣ a → k ∣ b → k ≡ suc m → ⊥
        other k p q e =
            let x : divides (suc m) a ≡ true = is_divides (suc m) a (subst (λ (n : ℕ). n ∣ a) e p) in
            let y : divides (suc m) b ≡ true = is_divides (suc m) b (subst (λ (n : ℕ). n ∣ b) e q) in
            let z : ◌≡◌ {A = Bool} false true = sym t ∙ rw (x, y) in
            let o : ◌≡◌ {A = ℕ} 0 1 = cc in
            omega arith

        g : Greatest m a b (greatest m a b)
        g = ih (pos (eq-or-lt_of_le (omega arith)))
          where
            pos : (0 ≡ m) ⊎ (0 < m) → 1 ≤ m
            pos (inl e) = absurd (other 1 (one-dvd a) (one-dvd b) (ap suc e))
            pos (inr h) = h

        below : (k : ℕ) → k ∣ a → k ∣ b → (k ≡ suc m) ⊎ (k < suc m) → k ≤ greatest m a b
        below k p q (inl e) = absurd (other k p q e)
        below k p q (inr h) = g.most k (omega arith) p q

-- of a and b, where b is not 0: it divides both, and no larger number does
pub record Gcd (a b g : ℕ) : Type 0 where
  pub least : 1 ≤ g
  pub left : g ∣ a
  pub right : g ∣ b
  pub most : (k : ℕ) → k ∣ a → k ∣ b → k ≤ g

pub gcd_is : (a b : ℕ) → 1 ≤ b → Gcd a b (gcd_of a b)
unfolding gcd_of
gcd_is a b l = let g = greatest_is b a b l in record { least = g.least; left = g.left; right = g.right; most = λ k p q. g.most k (le_of_dvd l q) p q }

-- ---- Euclid: the common divisors of x and y are those of a and b

pub record Common (a b x y : ℕ) : Type 0 where
  pub some : 1 ≤ x + y
  pub there : (k : ℕ) → k ∣ a → k ∣ b → (k ∣ x) × (k ∣ y)
  pub back : (k : ℕ) → k ∣ x → k ∣ y → (k ∣ a) × (k ∣ b)

pub common_start : (a b : ℕ) → 1 ≤ b → Common a b a b
common_start a b l = record { some = omega arith; there = λ k p q. (p, q); back = λ k p q. (p, q) }

pub common_next : {a b x y : ℕ} → 0 < y → Common a b x y → Common a b y (x % y)
common_next {a} {b} {x} {y} l c = record {
  some = omega arith;
  there = λ k p q. ((c.there k p q).1, (dvd-mod_iff k (c.there k p q).1).1 (c.there k p q).0);
  back = λ k p q. c.back k ((dvd-mod_iff k p).0 q) p;
}

pub common_end : (a b x : ℕ) → 1 ≤ b → Common a b x 0 → x ≡ gcd_of a b
common_end a b x l c =
    let g = gcd_is a b l in
    let d = c.back x (dvd_refl x) (dvd-zero x) in
    let pos : 1 ≤ x = omega (arith, c.some) in
    le_antisymm (g.most x d.0 d.1) (le_of_dvd pos (c.there (gcd_of a b) g.left g.right).0)

-- ---- the fraction

module _ (used cells : ℕ) (l : 1 ≤ cells) (g : ℕ) (d : Gcd used cells g) where
  p·g : used / g * g ≡ used
  p·g = div-mul_cancel g d.left

  q·g : cells / g * g ≡ cells
  q·g = div-mul_cancel g d.right

  same_value : used / g * cells ≡ used * (cells / g)
  same_value =
      ap (λ (n : ℕ). used / g * n) (sym q·g ∙ mul_comm (cells / g) g) ∙ sym (mul_assoc (used / g) g (cells / g)) ∙ ap (λ (n : ℕ). n * (cells / g)) p·g

  den_some : 1 ≤ cells / g
  den_some = pick (cells / g) refl
    where
      pick : (n : ℕ) → cells / g ≡ n → 1 ≤ n
      pick zero e = absurd (omega (arith, sym q·g ∙ ap (λ (n : ℕ). n * g) e))
      pick (suc n) e = omega arith

  no_common : (k : ℕ) → k ∣ used / g → k ∣ cells / g → k ≡ 1
  no_common k p q =
      let a : k * g ∣ used = subst (λ (n : ℕ). k * g ∣ n) p·g (mul-dvd-mul_right k p g) in
      let b : k * g ∣ cells = subst (λ (n : ℕ). k * g ∣ n) q·g (mul-dvd-mul_right k q g) in
      let h : k * g ≤ g = d.most (k * g) a b in
      let pos : 1 ≤ k = pos_of_dvd_of_pos q den_some in
      small k h pos d.least
    where
      small : (k : ℕ) → k * g ≤ g → 1 ≤ k → 1 ≤ g → k ≡ 1
      small zero h a b = omega arith
      small (suc zero) h a b = refl
      small (suc (suc k)) h a b = absurd (omega (arith, mul-le-mul_right {m = 2} {n = suc (suc k)} g (omega arith)))

  in_lowest : InLowest used cells (over (used / g) (cells / g))
  in_lowest = record { some = den_some; same = same_value; coprime = no_common }

-- ---- the fraction in lowest terms

pub lowest_none : (used cells : ℕ) → cells < 1 → over 0 1 ≡ lowest_of used cells
unfolding lowest_of
lowest_none used cells l = let e : cells ≡ 0 = omega arith in rw (eq-eqb cells 0 e)

pub lowest_some : (used cells g : ℕ) → 1 ≤ cells → g ≡ gcd_of used cells → over (used / g) (cells / g) ≡ lowest_of used cells
unfolding lowest_of
lowest_some used cells g l e = rw (ne_eqb cells 0 (λ (z : cells ≡ 0). omega arith), e)

-- where there are cells, it has their value, and 1 is the only common divisor of its numbers
pub lowest_in : (used cells : ℕ) → 1 ≤ cells → InLowest used cells (lowest_of used cells)
lowest_in used cells l = subst (InLowest used cells) (lowest_some used cells (gcd_of used cells) l refl) (in_lowest used cells l (gcd_of used cells) (gcd_is used cells l))

-- 0/1 where there are none
pub no_cells : (used : ℕ) → lowest_of used 0 ≡ over 0 1
no_cells used = sym (lowest_none used 0 (omega arith))

-- and where none is used
pub none_used : (cells : ℕ) → lowest_of 0 cells ≡ over 0 1
none_used zero = no_cells 0
none_used (suc n) =
    let f : Fraction = lowest_of 0 (suc n) in
    let w = lowest_in 0 (suc n) (omega arith) in
    let z : f.num ≡ 0 = none_of f.num (w.same ∙ zero-mul f.den) in
    ap₂ over z (w.coprime f.den (subst (λ (k : ℕ). f.den ∣ k) (sym z) (dvd-zero f.den)) (dvd_refl f.den))
  where
    none_of : (k : ℕ) → k * suc n ≡ 0 → k ≡ 0
    none_of zero e = refl
    none_of (suc k) e = absurd (omega (arith, mul-le-mul_right {m = 1} {n = suc k} (suc n) (omega arith)))
