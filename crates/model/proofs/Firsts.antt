-- The first element of a list that passes, by places. Assumes nothing.
use mathlib.Core.Path.{◌≡◌, refl, sym, ap, ◌∙◌}
use mathlib.Core.Bool.{Bool, true, false, cond, xor}
use mathlib.Core.List.{List, [], ◌∷◌, ◌++◌, map, flat_map}
use mathlib.Core.Option.{Option, none, some}
use Prim.Native.Nat.{ℕ, zero, suc, ◌+◌, ◌-◌, ◌<◌}
use native.Mathlib.Nat.{le_of_suc-le-suc, not-suc-le-zero}
use native.Mathlib.Decide.{dec_lt}
use native.Mathlib.Omega.{arith}
use lib.ListN.{length, get_or}
use Rattle.model.specs.Lists.{up_from, any_of, first}
use Rattle.model.proofs.Lists.{or_false_left, or_false_right, any_map, any_flat_map, any_at, at_any, any_row, row_any, row_around, first_none, none_first, first_later, flat_map_append}

-- y stands in the list, passes, and none before it does; d stands past the list's end
pub record IsFirst {A : Type 0} (p : A → Bool) (xs : List A) (d y : A) : Type 0 where
  pub at : ℕ
  pub inside : at < length xs
  pub is : get_or xs at d ≡ y
  pub passes : p y ≡ true
  pub earlier : (j : ℕ) → j < at → p (get_or xs j d) ≡ false

module _ {A : Type 0} where
  -- what stands within a list, whatever stands past its end
  pub get_or_within : (xs : List A) (i : ℕ) (d e : A) → i < length xs → get_or xs i d ≡ get_or xs i e
  get_or_within [] i d e l = absurd (not-suc-le-zero l)
  get_or_within (x ∷ xs) zero d e l = refl
  get_or_within (x ∷ xs) (suc i) d e l = get_or_within xs i d e (le_of_suc-le-suc l)

  -- none before place i passes, and that one does
  pub first_at : (p : A → Bool) (xs : List A) (d : A) (i : ℕ) → i < length xs → ((j : ℕ) → j < i → p (get_or xs j d) ≡ false) → p (get_or xs i d) ≡ true
      → first p xs ≡ some (get_or xs i d)
  unfolding first
  first_at p [] d i l h e = absurd (not-suc-le-zero l)
  first_at p (x ∷ xs) d zero l h e = rw e
  first_at p (x ∷ xs) d (suc i) l h e = rw (h 0 (omega arith)) (first_at p xs d i (le_of_suc-le-suc l) (λ j m. h (suc j) (omega arith)) e)

  -- what is first passes, and none before it does
  pub first_is : (p : A → Bool) (xs : List A) (d y : A) → first p xs ≡ some y → IsFirst p xs d y
  unfolding first
  first_is p [] d y e = let z : ◌≡◌ {A = ℕ} 0 1 = cc in absurd (omega arith)
  first_is p (x ∷ xs) d y e = pick (p x) refl e (first_is p xs d y)
    where
      before : p x ≡ false → (at j : ℕ) → j < suc at → ((j : ℕ) → j < at → p (get_or xs j d) ≡ false) → p (get_or (x ∷ xs) j d) ≡ false
      before f at zero l h = f
      before f at (suc j) l h = h j (le_of_suc-le-suc l)

      pick : (b : Bool) → p x ≡ b → cond b (some x) (first p xs) ≡ some y → (first p xs ≡ some y → IsFirst p xs d y) → IsFirst p (x ∷ xs) d y
      pick true f q ih =
          let g : x ≡ y = cc in
          record { at = 0; inside = omega arith; is = g; passes = ap p (sym g) ∙ f; earlier = λ j l. absurd (not-suc-le-zero l) }
      pick false f q ih =
          let r = ih q in
          record { at = suc r.at; inside = omega (arith, r.inside); is = r.is; passes = r.passes; earlier = λ j l. before f r.at j l r.earlier }

  -- none passes
  pub first_not : (p : A → Bool) (xs : List A) (d : A) → ((i : ℕ) → i < length xs → p (get_or xs i d) ≡ false) → first p xs ≡ none
  first_not p xs d h = first_none p xs (at_any p xs d h)

  -- of two lists, one after the other: found in the first
  pub first_early : (p : A → Bool) (xs ys : List A) (y : A) → first p xs ≡ some y → first p (xs ++ ys) ≡ some y
  unfolding first
  first_early p [] ys y e = let z : ◌≡◌ {A = ℕ} 0 1 = cc in absurd (omega arith)
  first_early p (x ∷ xs) ys y e = pick (p x) e (first_early p xs ys y)
    where
      pick : (b : Bool) → cond b (some x) (first p xs) ≡ some y → (first p xs ≡ some y → first p (xs ++ ys) ≡ some y)
          → cond b (some x) (first p (xs ++ ys)) ≡ some y
      pick true q ih = q
      pick false q ih = ih q

  -- of a list put through f
  pub first_map : {B : Type 0} (p : B → Bool) (f : A → B) (xs : List A) (y : A) → first (λ x. p (f x)) xs ≡ some y → first p (map f xs) ≡ some (f y)
  unfolding first
  first_map p f [] y e = let z : ◌≡◌ {A = ℕ} 0 1 = cc in absurd (omega arith)
  first_map p f (x ∷ xs) y e = pick (p (f x)) e (first_map p f xs y)
    where
      pick : (b : Bool) → cond b (some x) (first (λ v. p (f v)) xs) ≡ some y → (first (λ v. p (f v)) xs ≡ some y → first p (map f xs) ≡ some (f y))
          → cond b (some (f x)) (first p (map f xs)) ≡ some (f y)
      pick true q ih = let g : x ≡ y = cc in rw g
      pick false q ih = ih q

-- two tests that differ nowhere find the same
first_same : {A : Type 0} (p q : A → Bool) (xs : List A) → any_of (λ x. xor (p x) (q x)) xs ≡ false → first p xs ≡ first q xs
unfolding any_of first xor
first_same p q [] e = refl
first_same p q (x ∷ xs) e = rw (agree (p x) (q x) (or_false_left (xor (p x) (q x)) _ e), first_same p q xs (or_false_right (xor (p x) (q x)) _ e))
  where
    agree : (a b : Bool) → xor a b ≡ false → a ≡ b
    agree true true h = refl
    agree true false h = h
    agree false true h = sym h
    agree false false h = refl

-- none of the numbers below n passes
pub row_not : (p : ℕ → Bool) (n : ℕ) → ((k : ℕ) → k < n → p k ≡ false) → first p (up_from 0 n) ≡ none
row_not p n h = first_none p (up_from 0 n) (row_any p 0 n (λ k l m. h k (omega arith)))

-- what is found first in a row is of the row
pub row_within : (p : ℕ → Bool) (a n k : ℕ) → first p (up_from a n) ≡ some k → k < a + n
unfolding first up_from
row_within p a zero k e = let z : ◌≡◌ {A = ℕ} 0 1 = cc in absurd (omega arith)
row_within p a (suc n) k e = pick (p a) e (row_within p (suc a) n k)
  where
    pick : (b : Bool) → cond b (some a) (first p (up_from (suc a) n)) ≡ some k → (first p (up_from (suc a) n) ≡ some k → k < suc a + n) → k < a + suc n
    pick true q ih = let z : a ≡ k = cc in omega arith
    pick false q ih = omega (arith, ih q)

-- the elements of a list, paired with each number below n in turn
module _ {A : Type 0} (q : ℕ → A → Bool) (xs : List A) where
  abbrev paired : ℕ → List (ℕ × A)
  paired k = map (λ x. (k, x)) xs

  abbrev passes : ℕ × A → Bool
  passes p = q p.0 p.1

  -- none passes with any of the numbers
  pub grid_not : (n : ℕ) → ((k : ℕ) → k < n → first (q k) xs ≡ none) → first passes (flat_map paired (up_from 0 n)) ≡ none
  grid_not n h =
      first_none passes (flat_map paired (up_from 0 n))
      (any_flat_map passes paired (up_from 0 n)
      ∙ row_any _ 0 n (λ k l m. any_map passes (λ x. (k, x)) xs ∙ none_first (q k) xs (h k (omega arith))))

  -- none with a number below k, and x is the first with k
  pub grid_at : (n k : ℕ) (x : A) → k < n → ((j : ℕ) → j < k → first (q j) xs ≡ none) → first (q k) xs ≡ some x
      → first passes (flat_map paired (up_from 0 n)) ≡ some (k, x)
  unfolding flat_map
  grid_at n k x l h e =
      let rest = up_from (suc k) (0 + n - suc k) in
      ap (λ (ks : List ℕ). first passes (flat_map paired ks)) (row_around 0 n k (omega arith) (omega arith))
      ∙ ap (first passes) (flat_map_append paired (up_from 0 (k - 0)) (k ∷ rest))
      ∙ first_later passes (flat_map paired (up_from 0 (k - 0))) (flat_map paired (k ∷ rest)) (none_first passes (flat_map paired (up_from 0 (k - 0))) (grid_not (k - 0) (λ j m. h j (omega arith))))
      ∙ first_early passes (paired k) (flat_map paired rest) (k, x) (first_map passes (λ y. (k, y)) xs x e)

-- x is the first of the list that passes with k, a number below n, and none passes with a smaller one
pub record GridFirst {A : Type 0} (q : ℕ → A → Bool) (xs : List A) (d : A) (n k : ℕ) (x : A) : Type 0 where
  pub below : k < n
  pub here : IsFirst (q k) xs d x
  pub smaller : (c j : ℕ) → c < k → j < length xs → q c (get_or xs j d) ≡ false

module _ {A : Type 0} (q : ℕ → A → Bool) (xs : List A) (d : A) (n : ℕ) where
  -- where nothing is found, no number passes with an element
  pub none_grid : first (passes q xs) (flat_map (paired q xs) (up_from 0 n)) ≡ none → (k j : ℕ) → k < n → j < length xs → q k (get_or xs j d) ≡ false
  none_grid e k j l m =
      let all : any_of (λ c. any_of (passes q xs) (paired q xs c)) (up_from 0 n) ≡ false = sym (any_flat_map (passes q xs) (paired q xs) (up_from 0 n)) ∙ none_first (passes q xs) _ e in
      any_at (q k) xs j d (sym (any_map (passes q xs) (λ x. (k, x)) xs) ∙ any_row _ 0 n k all (omega arith) (omega arith)) m

  -- where (k, x) is found from number a on, and nothing passes with a smaller one
  grid_from : (k : ℕ) (x : A) (a m : ℕ) → first (passes q xs) (flat_map (paired q xs) (up_from a m)) ≡ some (k, x) → ((c : ℕ) → c < a → first (q c) xs ≡ none) → GridFirst q xs d (a + m) k x
  unfolding up_from flat_map first
  grid_from k x a zero e h = let z : ◌≡◌ {A = ℕ} 0 1 = cc in absurd (omega arith)
  grid_from k x a (suc m) e h = pick (first (q a) xs) refl (grid_from k x (suc a) m)
    where
      rest : List (ℕ × A)
      rest = flat_map (paired q xs) (up_from (suc a) m)

      found : (y : A) → first (q a) xs ≡ some y → ◌≡◌ {A = Option (ℕ × A)} (some (a, y)) (some (k, x))
      found y f = sym (first_early (passes q xs) (paired q xs a) rest (a, y) (first_map (passes q xs) (λ v. (a, v)) xs y f)) ∙ e

      later : first (q a) xs ≡ none → first (passes q xs) rest ≡ some (k, x)
      later f = sym (first_later (passes q xs) (paired q xs a) rest (any_map (passes q xs) (λ v. (a, v)) xs ∙ none_first (q a) xs f)) ∙ e

      more : first (q a) xs ≡ none → (c : ℕ) → c < suc a → Dec (c < a) → first (q c) xs ≡ none
      more f c l (yes m) = h c m
      more f c l (no m) = let z : c ≡ a = omega arith in rw z f

      pick : (o : Option A) → first (q a) xs ≡ o
          → (first (passes q xs) rest ≡ some (k, x) → ((c : ℕ) → c < suc a → first (q c) xs ≡ none) → GridFirst q xs d (suc a + m) k x)
          → GridFirst q xs d (a + suc m) k x
      pick (some y) f ih =
          let g = found y f in
          let same : ◌≡◌ {A = ℕ × A} (a, y) (k, x) = cc in
          let i : a ≡ k = ap (λ (p : ℕ × A). p.0) same in
          let s : y ≡ x = ap (λ (p : ℕ × A). p.1) same in
          record {
            below = omega arith;
            here = first_is (q k) xs d x (rw (← i, ← s) f);
            smaller = λ c j l m. any_at (q c) xs j d (none_first (q c) xs (h c (omega arith))) m;
          }
      pick none f ih =
          let r = ih (later f) (λ c l. more f c l (dec_lt c a)) in
          record { below = omega (arith, r.below); here = r.here; smaller = r.smaller }

  -- where (k, x) is found, x is the first that passes with k, and none passes with a smaller number
  pub grid_is : (k : ℕ) (x : A) → first (passes q xs) (flat_map (paired q xs) (up_from 0 n)) ≡ some (k, x) → GridFirst q xs d n k x
  grid_is k x e = let r = grid_from k x 0 n e (λ c l. absurd (not-suc-le-zero l)) in record { below = omega (arith, r.below); here = r.here; smaller = r.smaller }

  -- and two tests that agree on all of them find the same
  pub grid_same : (r : ℕ → A → Bool) → ((k j : ℕ) → k < n → j < length xs → q k (get_or xs j d) ≡ r k (get_or xs j d))
      → first (passes q xs) (flat_map (paired q xs) (up_from 0 n)) ≡ first (passes r xs) (flat_map (paired r xs) (up_from 0 n))
  unfolding xor
  grid_same r h =
      first_same (passes q xs) (passes r xs) (flat_map (paired q xs) (up_from 0 n))
      (any_flat_map _ (paired q xs) (up_from 0 n)
      ∙ row_any _ 0 n (λ k l m. any_map _ (λ x. (k, x)) xs ∙ at_any _ xs d (λ j o. rw (h k j (omega arith) o) (same (r k (get_or xs j d))))))
    where
      same : (b : Bool) → xor b b ≡ false
      same true = refl
      same false = refl
