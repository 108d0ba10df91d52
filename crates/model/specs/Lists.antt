-- What the definitions of the model use of lists, beside the library. Assumes nothing.
use Rattle.std.specs.Prelude.{Bool, false, ◌||◌, cond, ℕ, zero, suc, ◌+◌, ◌-◌, ◌<◌, max, length, get_or, set}
use mathlib.Core.List.{List, [], ◌∷◌, map, flat_map}
use Rattle.std.proofs.Math.Option.{Option, none, some}

-- a, a + 1, ..: k numbers
unfoldable pub up_from : ℕ → ℕ → List ℕ
up_from a zero = []
up_from a (suc k) = a ∷ up_from (suc a) k

-- the pairs (a, b) with a ≤ b < n, in dictionary order
unfoldable pub pairs : ℕ → List (ℕ × ℕ)
pairs n = flat_map (λ a. map (λ b. (a, b)) (up_from a (n - a))) (up_from 0 n)

-- every number of the list is below h
abbrev pub Below : ℕ → List ℕ → Type 0
Below h xs = (i : ℕ) → i < length xs → get_or xs i 0 < h

-- these numbers stored in the places of the list `old` from i on
unfoldable pub written : ℕ → List ℕ → List ℕ → List ℕ
written i [] old = old
written i (w ∷ ws) old = written (suc i) ws (set old i w)

module _ {A : Type 0} where
  -- whether some element passes
  unfoldable pub any_of : (A → Bool) → List A → Bool
  any_of p [] = false
  any_of p (x ∷ xs) = p x || any_of p xs

  -- the first element that passes
  unfoldable pub first : (A → Bool) → List A → Option A
  first p [] = none
  first p (x ∷ xs) = cond (p x) (some x) (first p xs)

  -- how many elements pass
  unfoldable pub count_if : (A → Bool) → List A → ℕ
  count_if p [] = 0
  count_if p (x ∷ xs) = cond (p x) 1 0 + count_if p xs

  -- the sum of f over the list
  unfoldable pub sum_of : (A → ℕ) → List A → ℕ
  sum_of f [] = 0
  sum_of f (x ∷ xs) = f x + sum_of f xs

  -- the largest f of the list, 0 where it is empty
  unfoldable pub max_of : (A → ℕ) → List A → ℕ
  max_of f [] = 0
  max_of f (x ∷ xs) = max (f x) (max_of f xs)
