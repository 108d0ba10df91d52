-- Laws of sums, of running totals and of largest numbers. Assumes nothing.
use mathlib.Core.Path.{◌≡◌, refl, sym, ap, ap₂, ◌∙◌}
use mathlib.Core.Bool.{Bool, cond}
use mathlib.Core.List.{List, [], ◌∷◌, ◌++◌, flat_map}
use mathlib.Core.Logic.{◌⊎◌, inl, inr}
use Prim.Native.Nat.{ℕ, zero, suc, ◌+◌, ◌-◌, ◌*◌, ◌≤◌, ◌<◌, max}
use native.Mathlib.Nat.{eq-or-lt_of_le, mul-suc}
use native.Mathlib.Numerals.{add-one}
use native.Mathlib.Decide.{ℕ_discrete, dec_le}
use native.Mathlib.Omega.{arith}
use lib.Dec.{eqb}
use Rattle.model.specs.Lists.{up_from, count_if, sum_of, max_of}
use Rattle.model.proofs.Lists.{up_from_split, sum_append, sum_add, sum_none, sum_around}

module _ {A B : Type 0} where
  -- a sum over a flat_map is the sum of the sums
  pub sum_flat_map : (h : B → ℕ) (f : A → List B) (xs : List A) → sum_of h (flat_map f xs) ≡ sum_of (λ x. sum_of h (f x)) xs
  unfolding sum_of flat_map
  sum_flat_map h f [] = refl
  sum_flat_map h f (x ∷ xs) = sum_append h (f x) (flat_map f xs) ∙ ap (λ (n : ℕ). sum_of h (f x) + n) (sum_flat_map h f xs)

  -- two sums in the other order
  pub sum_swap : (f : A → B → ℕ) (xs : List A) (ys : List B) → sum_of (λ x. sum_of (f x) ys) xs ≡ sum_of (λ y. sum_of (λ x. f x y) xs) ys
  unfolding sum_of
  sum_swap f [] ys = sym (zeros ys)
    where
      zeros : (ys : List B) → sum_of (λ y. 0) ys ≡ 0
      zeros [] = refl
      zeros (y ∷ ys) = omega (arith, zeros ys)
  sum_swap f (x ∷ xs) ys = ap (λ (n : ℕ). sum_of (f x) ys + n) (sum_swap f xs ys) ∙ sym (sum_add (f x) (λ y. sum_of (λ z. f z y) xs) ys)

-- a count is a sum of ones
pub count_sum : {A : Type 0} (p : A → Bool) (xs : List A) → count_if p xs ≡ sum_of (λ x. cond (p x) 1 0) xs
unfolding count_if sum_of
count_sum p [] = refl
count_sum p (x ∷ xs) = ap (λ (n : ℕ). cond (p x) 1 0 + n) (count_sum p xs)

-- a row with one number more
pub sum_next : (f : ℕ → ℕ) (n : ℕ) → sum_of f (up_from 0 (n + 1)) ≡ sum_of f (up_from 0 n) + f n
unfolding sum_of up_from
sum_next f n =
    let e : 0 + n ≡ n = omega arith in
    ap (sum_of f) (up_from_split 0 n 1) ∙ sum_append f (up_from 0 n) ((0 + n) ∷ []) ∙ rw e (omega arith)

-- a row that counts has a last number that does
pub sum_last : (g : ℕ → ℕ) (n : ℕ) → 1 ≤ sum_of g (up_from 0 n) → (k : ℕ) × (k < n) × (1 ≤ g k) × (sum_of g (up_from 0 n) ≡ sum_of g (up_from 0 k) + g k)
unfolding sum_of up_from
sum_last g zero h = absurd (omega arith)
sum_last g (suc n) h = pick (ℕ_discrete (g n) 0) (rw (add-one n) at (sum_next g n)) (sum_last g n)
  where
    pick : Dec (g n ≡ 0) → sum_of g (up_from 0 (suc n)) ≡ sum_of g (up_from 0 n) + g n
        → (1 ≤ sum_of g (up_from 0 n) → (k : ℕ) × (k < n) × (1 ≤ g k) × (sum_of g (up_from 0 n) ≡ sum_of g (up_from 0 k) + g k))
        → (k : ℕ) × (k < suc n) × (1 ≤ g k) × (sum_of g (up_from 0 (suc n)) ≡ sum_of g (up_from 0 k) + g k)
    pick (yes z) e ih = let w = ih (omega arith) in (w.0, omega (arith, w.1), w.2, omega (arith, w.3))
    pick (no m) e ih = (n, omega arith, omega arith, e)

-- a row of which one number alone counts
pub sum_only : (f : ℕ → ℕ) (n k : ℕ) → k < n → ((i : ℕ) → i < n → (i ≡ k → ⊥) → f i ≡ 0) → sum_of f (up_from 0 n) ≡ f k
sum_only f n k l h =
    omega (
      arith,
      sum_around f 0 n k (omega arith) (omega arith),
      sum_none f 0 (k - 0) (λ i a b. h i (omega arith) (λ e. omega arith)),
      sum_none f (suc k) (0 + n - suc k) (λ i a b. h i (omega arith) (λ e. omega arith)),
    )

-- a row that is not above another, number by number
pub sum_less : (f g : ℕ → ℕ) (a n : ℕ) → ((k : ℕ) → a ≤ k → k < a + n → f k ≤ g k) → sum_of f (up_from a n) ≤ sum_of g (up_from a n)
unfolding sum_of up_from
sum_less f g a zero h = omega arith
sum_less f g a (suc n) h = omega (arith, h a (omega arith) (omega arith), sum_less f g (suc a) n (λ k l m. h k (omega arith) (omega arith)))

-- n terms of at most b
pub sum_most : (f : ℕ → ℕ) (b a n : ℕ) → ((k : ℕ) → a ≤ k → k < a + n → f k ≤ b) → sum_of f (up_from a n) ≤ b * n
unfolding sum_of up_from
sum_most f b a zero h = omega arith
sum_most f b a (suc n) h = omega (arith, h a (omega arith) (omega arith), sum_most f b (suc a) n (λ k l m. h k (omega arith) (omega arith)))

-- of numbers that are 0 or 1, those that are 0 and the sum make up all
pub zeros_sum : (g : ℕ → ℕ) (a n : ℕ) → ((k : ℕ) → a ≤ k → k < a + n → g k ≤ 1) → count_if (λ k. eqb (g k) 0) (up_from a n) + sum_of g (up_from a n) ≡ n
unfolding count_if sum_of up_from
zeros_sum g a zero h = refl
zeros_sum g a (suc n) h = omega (arith, bit (g a) (h a (omega arith) (omega arith)), zeros_sum g (suc a) n (λ k l m. h k (omega arith) (omega arith)))
  where
    bit : (x : ℕ) → x ≤ 1 → cond (eqb x 0) 1 0 + x ≡ 1
    bit zero l = refl
    bit (suc zero) l = refl
    bit (suc (suc x)) l = absurd (omega arith)

-- the largest of a row with one number more
pub max_next : (f : ℕ → ℕ) (a n : ℕ) → max_of f (up_from a (n + 1)) ≡ max (max_of f (up_from a n)) (f (a + n))
unfolding max_of up_from
max_next f a n = ap (max_of f) (up_from_split a n 1) ∙ append (up_from a n)
  where
    append : (xs : List ℕ) → max_of f (xs ++ ((a + n) ∷ [])) ≡ max (max_of f xs) (f (a + n))
    append [] = omega arith
    append (x ∷ xs) = omega (arith, append xs)

-- the largest of numbers of at most b
pub max_most : (f : ℕ → ℕ) (b : ℕ) (xs : List ℕ) → ((x : ℕ) → f x ≤ b) → max_of f xs ≤ b
unfolding max_of
max_most f b [] h = omega arith
max_most f b (x ∷ xs) h = omega (arith, h x, max_most f b xs h)

-- two rows that agree number by number have the same largest
pub max_same : (f g : ℕ → ℕ) (a n : ℕ) → ((k : ℕ) → a ≤ k → k < a + n → f k ≡ g k) → max_of f (up_from a n) ≡ max_of g (up_from a n)
unfolding max_of up_from
max_same f g a zero h = refl
max_same f g a (suc n) h = ap₂ max (h a (omega arith) (omega arith)) (max_same f g (suc a) n (λ k l m. h k (omega arith) (omega arith)))

-- no number of a row is above its largest
pub max_above : (f : ℕ → ℕ) (a n k : ℕ) → a ≤ k → k < a + n → f k ≤ max_of f (up_from a n)
unfolding max_of up_from
max_above f a zero k l m = absurd (omega arith)
max_above f a (suc n) k l m = pick (ℕ_discrete k a) (max_above f (suc a) n k)
  where
    pick : Dec (k ≡ a) → (suc a ≤ k → k < suc a + n → f k ≤ max_of f (up_from (suc a) n)) → f k ≤ max (f a) (max_of f (up_from (suc a) n))
    pick (yes e) ih = rw e (omega arith)
    pick (no d) ih = omega (arith, ih (omega arith) (omega arith))

-- the largest of a row is one of its numbers
pub max_one : (f : ℕ → ℕ) (a n : ℕ) → 1 ≤ n → (k : ℕ) × (k < a + n) × (max_of f (up_from a n) ≡ f k)
unfolding max_of up_from
max_one f a zero some = absurd (omega arith)
max_one f a (suc zero) some = (a, omega arith, omega arith)
max_one f a (suc (suc n)) some = pick (max_one f (suc a) (suc n) (omega arith)) (dec_le (f a) (max_of f (up_from (suc a) (suc n))))
  where
    pick : (k : ℕ) × (k < suc a + suc n) × (max_of f (up_from (suc a) (suc n)) ≡ f k) → Dec (f a ≤ max_of f (up_from (suc a) (suc n)))
        → (k : ℕ) × (k < a + suc (suc n)) × (max (f a) (max_of f (up_from (suc a) (suc n))) ≡ f k)
    pick w (yes m) = (w.0, omega (arith, w.1), omega (arith, w.2))
    pick w (no m) = (a, omega arith, omega arith)

-- ---- a running total: `before n` is the sum of the counts of 0 .. n - 1

module _ (before count : ℕ → ℕ) (next : (n : ℕ) → before (suc n) ≡ before n + count n) where
  -- what is counted at o stands before what is counted after it
  pub total_le : (o n : ℕ) → o < n → before o + count o ≤ before n
  total_le o zero l = absurd (omega arith)
  total_le o (suc n) l = pick (eq-or-lt_of_le l) (total_le o n)
    where
      pick : (suc o ≡ suc n) ⊎ (suc o < suc n) → (o < n → before o + count o ≤ before n) → before o + count o ≤ before (suc n)
      pick (inl q) ih = let e : o ≡ n = omega arith in rw (e, next n) (omega arith)
      pick (inr q) ih = let h : before o + count o ≤ before n = ih (omega arith) in rw (next n) (omega arith)

  -- where each count is at most w
  pub total_few : (w n : ℕ) → before 0 ≡ 0 → ((o : ℕ) → o < n → count o ≤ w) → before n ≤ w * n
  total_few w zero z h = rw z (omega arith)
  total_few w (suc n) z h = rw (next n, mul-suc w n) (omega (arith, total_few w n z (λ o l. h o (omega arith)), h n (omega arith)))

-- so the numbers of a row before k, and k, are among its first n
pub sum_part : (f : ℕ → ℕ) (k n : ℕ) → k < n → sum_of f (up_from 0 k) + f k ≤ sum_of f (up_from 0 n)
sum_part f = total_le (λ n. sum_of f (up_from 0 n)) f (λ n. rw (add-one n) at (sum_next f n))
