-- Two of n + 1 numbers below n are equal. Assumes nothing.
use mathlib.Core.Path.{◌≡◌, sym, ap, ◌∙◌}
use mathlib.Core.Logic.{◌≢◌, ◌⊎◌, inl, inr}
use Prim.Native.Nat.{ℕ, zero, suc, ◌-◌, ◌≤◌, ◌<◌}
use native.Mathlib.Omega.{arith}
use native.Mathlib.Decide.{ℕ_discrete, dec_lt}

-- f takes one value at two places up to n, the first before the second
pub record Twice (f : ℕ → ℕ) (n : ℕ) : Type 0 where
  pub one : ℕ
  pub two : ℕ
  pub before : one < two
  pub upto : two ≤ n
  pub equal : f one ≡ f two

-- among the first n: one whose value is v, or none
find : (f : ℕ → ℕ) (v n : ℕ) → ((i : ℕ) × (i < n) × (f i ≡ v)) ⊎ ((i : ℕ) → i < n → f i ≢ v)
find f v zero = inr (λ i h e. absurd (omega arith))
find f v (suc n) = go (ℕ_discrete (f n) v) (find f v n)
  where
    go : Dec (f n ≡ v) → ((i : ℕ) × (i < n) × (f i ≡ v)) ⊎ ((i : ℕ) → i < n → f i ≢ v) → ((i : ℕ) × (i < suc n) × (f i ≡ v)) ⊎ ((i : ℕ) → i < suc n → f i ≢ v)
    go (yes e) r = inl (n, omega arith, e)
    go (no o) (inl r) = inl (r.0, omega arith, r.2)
    go (no o) (inr g) = inr all
      where
        last : (i : ℕ) → i < suc n → Dec (i ≡ n) → f i ≢ v
        last i h (yes e) q = o (ap f (sym e) ∙ q)
        last i h (no e) q = g i (omega arith) q

        all : (i : ℕ) → i < suc n → f i ≢ v
        all i h = last i h (ℕ_discrete i n)

-- the values but v, closed up
close : (v a : ℕ) → Dec (v < a) → ℕ
close v a (yes h) = a - 1
close v a (no h) = a

close_lt : (n v a : ℕ) (t : Dec (v < a)) → v < suc n → a < suc n → a ≢ v → close v a t < n
unfolding close
close_lt n v a (yes h) p q o = omega arith
close_lt n v a (no h) p q o = omega arith

close_eq : (v a b : ℕ) (s : Dec (v < a)) (t : Dec (v < b)) → a ≢ v → b ≢ v → close v a s ≡ close v b t → a ≡ b
unfolding close
close_eq v a b (yes h) (yes k) p q e = omega arith
close_eq v a b (yes h) (no k) p q e = omega arith
close_eq v a b (no h) (yes k) p q e = omega arith
close_eq v a b (no h) (no k) p q e = e

pub pigeonhole : (n : ℕ) (f : ℕ → ℕ) → ((i : ℕ) → i ≤ n → f i < n) → Twice f n
pigeonhole zero f h = absurd (omega (arith, h 0 (omega arith)))
pigeonhole (suc n) f h = go (find f (f (suc n)) (suc n)) (pigeonhole n g)
  where
    g : ℕ → ℕ
    g i = close (f (suc n)) (f i) (dec_lt (f (suc n)) (f i))

    go : ((i : ℕ) × (i < suc n) × (f i ≡ f (suc n))) ⊎ ((i : ℕ) → i < suc n → f i ≢ f (suc n)) → (((i : ℕ) → i ≤ n → g i < n) → Twice g n) → Twice f (suc n)
    go (inl r) next = record { one = r.0; two = suc n; before = r.1; upto = omega arith; equal = r.2 }
    go (inr o) next =
        let t : Twice g n = next (λ i l. close_lt n (f (suc n)) (f i) (dec_lt (f (suc n)) (f i)) (h (suc n) (omega arith)) (h i (omega arith)) (o i (omega arith))) in
        record {
          one = t.one;
          two = t.two;
          before = t.before;
          upto = omega arith;
          equal = close_eq (f (suc n)) (f t.one) (f t.two) (dec_lt (f (suc n)) (f t.one)) (dec_lt (f (suc n)) (f t.two)) (o t.one (omega arith)) (o t.two (omega arith)) t.equal;
        }
