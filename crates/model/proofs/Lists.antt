-- Laws of the model's list functions. Assumes nothing.
use mathlib.Core.Path.{◌≡◌, refl, sym, ap, ap₂, ◌∙◌}
use mathlib.Core.Bool.{Bool, true, false, not, cond, ◌&&◌, ◌||◌, or_assoc, or-false, or-true}
use mathlib.Core.List.{List, [], ◌∷◌, ◌++◌, map, flat_map, append-nil, append_assoc}
use mathlib.Core.Option.{none, some}
use Prim.Native.Nat.{ℕ, zero, suc, ◌+◌, ◌-◌, ◌≤◌, ◌<◌}
use native.Mathlib.Nat.{add-zero, zero-add, suc-add, le_of_suc-le-suc, not-suc-le-zero}
use native.Mathlib.Numerals.{add-one}
use native.Mathlib.Decide.{ℕ_discrete}
use native.Mathlib.Omega.{arith}
use borrow.Author.Tests.{leb-false, le-leb}
use lib.Dec.{leb}
use lib.ListN.{length, get_or, set, take, drop, replicate, take-append-drop, length-set}
use Rattle.model.specs.Lists.{up_from, pairs, written, any_of, first, count_if, sum_of}

-- ---- tests

-- true is not false
pub true_false : {X : Type 0} → true ≡ false → X
true_false e = let z : ◌≡◌ {A = ℕ} 0 1 = cc in absurd (omega arith)

-- a test that fails, negated
pub false_not : (b : Bool) → b ≡ false → not b ≡ true
false_not b e = rw e

-- both of two tests succeed exactly where each does
pub and_left : (a b : Bool) → (a && b) ≡ true → a ≡ true
and_left true b e = refl
and_left false b e = e

pub and_right : (a b : Bool) → (a && b) ≡ true → b ≡ true
and_right true b e = e
and_right false b e = let z : ◌≡◌ {A = ℕ} 0 1 = cc in absurd (omega arith)

pub and_both : (a b : Bool) → a ≡ true → b ≡ true → (a && b) ≡ true
and_both a b p q = rw (p, q)

-- neither of two tests succeeds exactly where each fails
pub or_false_left : (a b : Bool) → (a || b) ≡ false → a ≡ false
or_false_left false b e = refl
or_false_left true b e = e

pub or_false_right : (a b : Bool) → (a || b) ≡ false → b ≡ false
or_false_right false b e = e
or_false_right true b e = let z : ◌≡◌ {A = ℕ} 0 1 = cc in absurd (omega arith)

pub or_both : (a b : Bool) → a ≡ false → b ≡ false → (a || b) ≡ false
or_both a b p q = rw (p, q)

-- two tests that succeed together, or fail together, are one
pub same_true : (a b : Bool) → (a ≡ true → b ≡ true) → (b ≡ true → a ≡ true) → a ≡ b
same_true true b f g = sym (f refl)
same_true false true f g = g refl
same_true false false f g = refl

pub same_test : (a b : Bool) → (a ≡ false → b ≡ false) → (b ≡ false → a ≡ false) → a ≡ b
same_test false b f g = sym (f refl)
same_test true false f g = g refl
same_test true true f g = refl

-- ---- numbers in a row

pub length_up_from : (a n : ℕ) → length (up_from a n) ≡ n
unfolding up_from
length_up_from a zero = refl
length_up_from a (suc n) = ap suc (length_up_from (suc a) n)

pub get_or_up_from : (a n i d : ℕ) → i < n → get_or (up_from a n) i d ≡ a + i
unfolding up_from
get_or_up_from a zero i d l = absurd (not-suc-le-zero l)
get_or_up_from a (suc n) zero d l = sym (add-zero a)
get_or_up_from a (suc n) (suc i) d l = get_or_up_from (suc a) n i d (le_of_suc-le-suc l) ∙ omega arith

pub up_from_split : (a m n : ℕ) → up_from a (m + n) ≡ up_from a m ++ up_from (a + m) n
unfolding up_from
up_from_split a zero n = rw (zero-add n, add-zero a)
up_from_split a (suc m) n = rw (suc-add m n) (ap (λ (l : List ℕ). a ∷ l) (up_from_split (suc a) m n ∙ ap (λ (x : ℕ). up_from (suc a) m ++ up_from x n) (omega arith)))

pub up_from_cons : (a n : ℕ) → up_from a (suc n) ≡ a ∷ up_from (suc a) n
unfolding up_from
up_from_cons a n = refl

pub up_from_snoc : (a n : ℕ) → up_from a (suc n) ≡ up_from a n ++ ((a + n) ∷ [])
unfolding up_from
up_from_snoc a n = let e : suc n ≡ n + 1 = omega arith in ap (up_from a) e ∙ up_from_split a n 1

-- a row apart from one of its numbers
pub row_around : (a n k : ℕ) → a ≤ k → k < a + n → up_from a n ≡ up_from a (k - a) ++ (k ∷ up_from (suc k) (a + n - suc k))
row_around a n k l m =
    let e : n ≡ k - a + suc (a + n - suc k) = omega arith in
    let g : a + (k - a) ≡ k = omega arith in
    ap (up_from a) e ∙ up_from_split a (k - a) (suc (a + n - suc k)) ∙ ap (λ (x : ℕ). up_from a (k - a) ++ up_from x (suc (a + n - suc k))) g
    ∙ ap (λ (r : List ℕ). up_from a (k - a) ++ r) (up_from_cons k (a + n - suc k))

module _ {B : Type 0} where
  pub length_tabulate : (f : ℕ → B) (a n : ℕ) → length (map f (up_from a n)) ≡ n
  unfolding up_from
  length_tabulate f a zero = refl
  length_tabulate f a (suc n) = ap suc (length_tabulate f (suc a) n)

  pub get_or_tabulate : (f : ℕ → B) (a n i : ℕ) (d : B) → i < n → get_or (map f (up_from a n)) i d ≡ f (a + i)
  unfolding up_from
  get_or_tabulate f a zero i d l = absurd (not-suc-le-zero l)
  get_or_tabulate f a (suc n) zero d l = ap f (sym (add-zero a))
  get_or_tabulate f a (suc n) (suc i) d l = get_or_tabulate f (suc a) n i d (le_of_suc-le-suc l) ∙ ap f (omega arith)

  pub map_append : {A : Type 0} (f : A → B) (xs ys : List A) → map f (xs ++ ys) ≡ map f xs ++ map f ys
  map_append f [] ys = refl
  map_append f (x ∷ xs) ys = ap (λ (r : List B). f x ∷ r) (map_append f xs ys)

-- a list of one value has it everywhere, past its end too
pub get_or_filled : {A : Type 0} (n i : ℕ) (a : A) → get_or (replicate n a) i a ≡ a
get_or_filled zero i a = refl
get_or_filled (suc n) zero a = refl
get_or_filled (suc n) (suc i) a = get_or_filled n i a

-- ---- parts and places

-- two lists that agree in their first n places and after those are one
pub take_drop_same : {A : Type 0} (n : ℕ) (xs ys : List A) → take n xs ≡ take n ys → drop n xs ≡ drop n ys → xs ≡ ys
take_drop_same {A} n xs ys p q = sym (take-append-drop n xs) ∙ ap₂ (λ (a b : List A). a ++ b) p q ∙ take-append-drop n ys

-- a map over a part
pub map_take : {A B : Type 0} (f : A → B) (n : ℕ) (l : List A) → map f (take n l) ≡ take n (map f l)
map_take f zero l = refl
map_take f (suc n) [] = refl
map_take f (suc n) (x ∷ l) = ap (λ t. f x ∷ t) (map_take f n l)

-- a place of a map, whatever stands past the ends
pub get_or_map_lt : {A B : Type 0} (f : A → B) (l : List A) (n : ℕ) (d : A) (e : B) → n < length l → get_or (map f l) n e ≡ f (get_or l n d)
get_or_map_lt f [] n d e h = absurd (not-suc-le-zero h)
get_or_map_lt f (x ∷ l) zero d e h = refl
get_or_map_lt f (x ∷ l) (suc n) d e h = get_or_map_lt f l n d e (le_of_suc-le-suc h)

-- ---- any

module _ {A : Type 0} where
  pub any_append : (p : A → Bool) (xs ys : List A) → any_of p (xs ++ ys) ≡ (any_of p xs || any_of p ys)
  unfolding any_of
  any_append p [] ys = refl
  any_append p (x ∷ xs) ys = ap (λ (b : Bool). p x || b) (any_append p xs ys) ∙ sym (or_assoc (p x) (any_of p xs) (any_of p ys))

  -- one of two tests
  pub any_or : (p q : A → Bool) (xs : List A) → any_of (λ x. p x || q x) xs ≡ (any_of p xs || any_of q xs)
  unfolding any_of
  any_or p q [] = refl
  any_or p q (x ∷ xs) = rw (any_or p q xs) (swap (p x) (q x) (any_of p xs) (any_of q xs))
    where
      swap : (a b c d : Bool) → (a || b || (c || d)) ≡ (a || c || (b || d))
      swap true b c d = refl
      swap false true c d = sym (or-true c)
      swap false false c d = refl

  -- no element passes, said of each place
  pub any_at : (p : A → Bool) (xs : List A) (i : ℕ) (d : A) → any_of p xs ≡ false → i < length xs → p (get_or xs i d) ≡ false
  unfolding any_of
  any_at p [] i d e l = absurd (not-suc-le-zero l)
  any_at p (x ∷ xs) zero d e l = or_false_left (p x) (any_of p xs) e
  any_at p (x ∷ xs) (suc i) d e l = any_at p xs i d (or_false_right (p x) (any_of p xs) e) (le_of_suc-le-suc l)

  pub at_any : (p : A → Bool) (xs : List A) (d : A) → ((i : ℕ) → i < length xs → p (get_or xs i d) ≡ false) → any_of p xs ≡ false
  unfolding any_of
  at_any p [] d h = refl
  at_any p (x ∷ xs) d h = or_both (p x) (any_of p xs) (h 0 (omega arith)) (at_any p xs d (λ i l. h (suc i) (omega arith)))

  -- no element passes, nor does what stands past the end
  pub any_each : (p : A → Bool) (xs : List A) (d : A) → any_of p xs ≡ false → p d ≡ false → (i : ℕ) → p (get_or xs i d) ≡ false
  unfolding any_of
  any_each p [] d e h i = h
  any_each p (x ∷ xs) d e h zero = or_false_left (p x) (any_of p xs) e
  any_each p (x ∷ xs) d e h (suc i) = any_each p xs d (or_false_right (p x) (any_of p xs) e) h i

  pub any_map : {B : Type 0} (p : A → Bool) (f : B → A) (xs : List B) → any_of p (map f xs) ≡ any_of (λ x. p (f x)) xs
  unfolding any_of
  any_map p f [] = refl
  any_map p f (x ∷ xs) = ap (λ (b : Bool). p (f x) || b) (any_map p f xs)

  pub any_flat_map : {B : Type 0} (p : A → Bool) (f : B → List A) (xs : List B) → any_of p (flat_map f xs) ≡ any_of (λ x. any_of p (f x)) xs
  unfolding any_of flat_map
  any_flat_map p f [] = refl
  any_flat_map p f (x ∷ xs) = any_append p (f x) (flat_map f xs) ∙ ap (λ (b : Bool). any_of p (f x) || b) (any_flat_map p f xs)

  -- some element passes, said of a place
  pub any_some : (p : A → Bool) (xs : List A) (d : A) → any_of p xs ≡ true → (i : ℕ) × (i < length xs) × (p (get_or xs i d) ≡ true)
  unfolding any_of
  any_some p [] d e = let z : ◌≡◌ {A = ℕ} 0 1 = cc in absurd (omega arith)
  any_some p (x ∷ xs) d e = pick (p x) refl e (any_some p xs d)
    where
      pick : (b : Bool) → p x ≡ b → (b || any_of p xs) ≡ true → (any_of p xs ≡ true → (i : ℕ) × (i < length xs) × (p (get_or xs i d) ≡ true))
          → (i : ℕ) × (i < suc (length xs)) × (p (get_or (x ∷ xs) i d) ≡ true)
      pick true q h ih = (0, omega arith, q)
      pick false q h ih = let w = ih h in (suc w.0, omega (arith, w.1), w.2)

  pub some_any : (p : A → Bool) (xs : List A) (d : A) (i : ℕ) → i < length xs → p (get_or xs i d) ≡ true → any_of p xs ≡ true
  some_any p xs d i l e = pick (any_of p xs) refl
    where
      pick : (b : Bool) → any_of p xs ≡ b → b ≡ true
      pick true q = refl
      pick false q = let f : p (get_or xs i d) ≡ false = any_at p xs i d q l in let z : ◌≡◌ {A = ℕ} 0 1 = cc in absurd (omega arith)

  -- the first of two lists, one after the other
  pub first_later : (p : A → Bool) (xs ys : List A) → any_of p xs ≡ false → first p (xs ++ ys) ≡ first p ys
  unfolding any_of first
  first_later p [] ys e = refl
  first_later p (x ∷ xs) ys e = rw (or_false_left (p x) (any_of p xs) e) (first_later p xs ys (or_false_right (p x) (any_of p xs) e))

  pub first_found : (p : A → Bool) (xs : List A) (x : A) (ys : List A) → any_of p xs ≡ false → p x ≡ true → first p (xs ++ (x ∷ ys)) ≡ some x
  unfolding first
  first_found p xs x ys e h = first_later p xs (x ∷ ys) e ∙ ap (λ (b : Bool). cond b (some x) (first p ys)) h

  -- the first that passes is there exactly where one does
  pub first_none : (p : A → Bool) (xs : List A) → any_of p xs ≡ false → first p xs ≡ none
  unfolding any_of first
  first_none p [] e = refl
  first_none p (x ∷ xs) e = rw (or_false_left (p x) (any_of p xs) e) (first_none p xs (or_false_right (p x) (any_of p xs) e))

  pub none_first : (p : A → Bool) (xs : List A) → first p xs ≡ none → any_of p xs ≡ false
  unfolding any_of first
  none_first p [] e = refl
  none_first p (x ∷ xs) e = pick (p x) e (none_first p xs)
    where
      pick : (b : Bool) → cond b (some x) (first p xs) ≡ none → (first p xs ≡ none → any_of p xs ≡ false) → (b || any_of p xs) ≡ false
      pick true q ih = let z : ◌≡◌ {A = ℕ} 0 1 = cc in absurd (omega arith)
      pick false q ih = ih q

-- no number of a row passes
pub any_row : (p : ℕ → Bool) (a n k : ℕ) → any_of p (up_from a n) ≡ false → a ≤ k → k < a + n → p k ≡ false
any_row p a n k e l m =
    let j : k - a < n = omega arith in
    ap p (sym (get_or_up_from a n (k - a) 0 j ∙ omega arith)) ∙ any_at p (up_from a n) (k - a) 0 e (rw length_up_from j)

pub row_any : (p : ℕ → Bool) (a n : ℕ) → ((k : ℕ) → a ≤ k → k < a + n → p k ≡ false) → any_of p (up_from a n) ≡ false
row_any p a n h =
    at_any p (up_from a n) 0 (λ i l. let j : i < n = rw length_up_from at l in ap p (get_or_up_from a n i 0 j) ∙ h (a + i) (omega arith) (omega arith))

-- whether an element of a list passes, by its places
pub any_places : {A : Type 0} (p : A → Bool) (xs : List A) (d : A) → any_of p xs ≡ any_of (λ i. p (get_or xs i d)) (up_from 0 (length xs))
any_places p xs d =
    same_test (any_of p xs) (any_of (λ i. p (get_or xs i d)) (up_from 0 (length xs)))
    (λ e. row_any (λ i. p (get_or xs i d)) 0 (length xs) (λ i l m. any_at p xs i d e (omega arith)))
    (λ e. at_any p xs d (λ i l. any_row (λ i. p (get_or xs i d)) 0 (length xs) i e (omega arith) (omega arith)))

-- some number of a row passes
pub row_some : (p : ℕ → Bool) (n k : ℕ) → k < n → p k ≡ true → any_of p (up_from 0 n) ≡ true
row_some p n k l e = some_any p (up_from 0 n) 0 k (rw length_up_from l) (ap p (get_or_up_from 0 n k 0 l ∙ zero-add k) ∙ e)

-- whether some number of a row passes, with one number more
pub any_next : (p : ℕ → Bool) (n : ℕ) → any_of p (up_from 0 (n + 1)) ≡ (any_of p (up_from 0 n) || p n)
unfolding any_of up_from
any_next p n =
    ap (any_of p) (up_from_split 0 n 1) ∙ any_append p (up_from 0 n) ((0 + n) ∷ [])
    ∙ ap (λ (b : Bool). any_of p (up_from 0 n) || b) (or-false (p (0 + n)) ∙ ap p (zero-add n))

-- no pair passes
pub any_pairs : (p : ℕ × ℕ → Bool) (n a b : ℕ) → any_of p (pairs n) ≡ false → a ≤ b → b < n → p (a, b) ≡ false
unfolding pairs
any_pairs p n a b e l m =
    let outer : any_of p (map (λ c. (a, c)) (up_from a (n - a))) ≡ false =
    any_row (λ c. any_of p (map (λ d. (c, d)) (up_from c (n - c)))) 0 n a (sym (any_flat_map p (λ c. map (λ d. (c, d)) (up_from c (n - c))) (up_from 0 n)) ∙ e) (omega arith) (omega arith) in
    any_row (λ c. p (a, c)) a (n - a) b (sym (any_map p (λ c. (a, c)) (up_from a (n - a))) ∙ outer) l (omega arith)

pub pairs_any : (p : ℕ × ℕ → Bool) (n : ℕ) → ((a b : ℕ) → a ≤ b → b < n → p (a, b) ≡ false) → any_of p (pairs n) ≡ false
unfolding pairs
pairs_any p n h =
    any_flat_map p (λ c. map (λ d. (c, d)) (up_from c (n - c))) (up_from 0 n)
    ∙ row_any (λ c. any_of p (map (λ d. (c, d)) (up_from c (n - c)))) 0 n
    (λ a l m. any_map p (λ c. (a, c)) (up_from a (n - a)) ∙ row_any (λ c. p (a, c)) a (n - a) (λ b q r. h a b q (omega arith)))

-- what fails below n, and at n, fails below n + 1
pub below_next : (p : ℕ → Bool) (n : ℕ) → ((k : ℕ) → k < n → p k ≡ false) → p n ≡ false → (k : ℕ) → k < n + 1 → p k ≡ false
below_next p n h e k l = pick (ℕ_discrete k n)
  where
    pick : Dec (k ≡ n) → p k ≡ false
    pick (yes q) = ap p q ∙ e
    pick (no q) = h k (omega arith)

-- the first number of a row that passes
pub row_first : (p : ℕ → Bool) (n k : ℕ) → k < n → ((j : ℕ) → j < k → p j ≡ false) → p k ≡ true → first p (up_from 0 n) ≡ some k
row_first p n k l h e =
    let g : k - 0 ≡ k = omega arith in
    ap (first p) (row_around 0 n k (omega arith) (omega arith))
    ∙ first_found p (up_from 0 (k - 0)) k (up_from (suc k) (0 + n - suc k)) (row_any p 0 (k - 0) (λ j a b. h j (omega arith))) e

-- ---- flat_map

module _ {A B : Type 0} where
  pub flat_map_append : (f : A → List B) (xs ys : List A) → flat_map f (xs ++ ys) ≡ flat_map f xs ++ flat_map f ys
  unfolding flat_map
  flat_map_append f [] ys = refl
  flat_map_append f (x ∷ xs) ys = ap (λ (r : List B). f x ++ r) (flat_map_append f xs ys) ∙ sym (append_assoc (f x) (flat_map f xs) (flat_map f ys))

-- a row with one number more
pub flat_next : {B : Type 0} (f : ℕ → List B) (n : ℕ) → flat_map f (up_from 0 (n + 1)) ≡ flat_map f (up_from 0 n) ++ f n
unfolding flat_map up_from
flat_next f n =
    ap (flat_map f) (up_from_split 0 n 1) ∙ flat_map_append f (up_from 0 n) ((0 + n) ∷ [])
    ∙ ap (λ r. flat_map f (up_from 0 n) ++ r) (append-nil (f (0 + n)) ∙ ap f (zero-add n))

-- the first pair that passes: none with a smaller first number does, and none with that one and a smaller second
pub pairs_first : (p : ℕ × ℕ → Bool) (n a b : ℕ) → a ≤ b → b < n → ((c d : ℕ) → c < a → c ≤ d → d < n → p (c, d) ≡ false) → ((d : ℕ) → a ≤ d → d < b → p (a, d) ≡ false)
    → p (a, b) ≡ true → first p (pairs n) ≡ some (a, b)
unfolding pairs flat_map
pairs_first p n a b l m before beside e =
    ap (λ (xs : List ℕ). first p (flat_map row xs)) (row_around 0 n a (omega arith) (omega arith))
    ∙ ap (first p) (flat_map_append row (up_from 0 (a - 0)) (a ∷ up_from (suc a) (0 + n - suc a)))
    ∙ first_later p (flat_map row (up_from 0 (a - 0))) (row a ++ flat_map row (up_from (suc a) (0 + n - suc a)))
    (any_flat_map p row (up_from 0 (a - 0)) ∙ row_any (λ c. any_of p (row c)) 0 (a - 0) (λ c q r. any_map p (λ d. (c, d)) (up_from c (n - c)) ∙ row_any (λ d. p (c, d)) c (n - c) (λ d s t. before c d (omega arith) s (omega arith))))
    ∙ ap (λ (xs : List (ℕ × ℕ)). first p (xs ++ flat_map row (up_from (suc a) (0 + n - suc a)))) (ap (map (λ d. (a, d))) (row_around a (n - a) b l (omega arith)) ∙ map_append (λ d. (a, d)) (up_from a (b - a)) (b ∷ up_from (suc b) (a + (n - a) - suc b)))
    ∙ ap (first p) (append_assoc (map (λ d. (a, d)) (up_from a (b - a))) ((a, b) ∷ map (λ d. (a, d)) (up_from (suc b) (a + (n - a) - suc b))) (flat_map row (up_from (suc a) (0 + n - suc a))))
    ∙ first_found p (map (λ d. (a, d)) (up_from a (b - a))) (a, b) _ (any_map p (λ d. (a, d)) (up_from a (b - a)) ∙ row_any (λ d. p (a, d)) a (b - a) (λ d q r. beside d q (omega arith))) e
  where
    row : ℕ → List (ℕ × ℕ)
    row c = map (λ d. (c, d)) (up_from c (n - c))

-- ---- counts and sums

module _ {A : Type 0} where
  pub count_append : (p : A → Bool) (xs ys : List A) → count_if p (xs ++ ys) ≡ count_if p xs + count_if p ys
  unfolding count_if
  count_append p [] ys = sym (zero-add (count_if p ys))
  count_append p (x ∷ xs) ys = rw (count_append p xs ys) (omega arith)

  pub count_flat_map : {B : Type 0} (p : A → Bool) (f : B → List A) (xs : List B) → count_if p (flat_map f xs) ≡ sum_of (λ x. count_if p (f x)) xs
  unfolding count_if sum_of flat_map
  count_flat_map p f [] = refl
  count_flat_map p f (x ∷ xs) = count_append p (f x) (flat_map f xs) ∙ ap (λ (n : ℕ). count_if p (f x) + n) (count_flat_map p f xs)

  pub sum_append : (f : A → ℕ) (xs ys : List A) → sum_of f (xs ++ ys) ≡ sum_of f xs + sum_of f ys
  unfolding sum_of
  sum_append f [] ys = sym (zero-add (sum_of f ys))
  sum_append f (x ∷ xs) ys = rw (sum_append f xs ys) (omega arith)

  pub sum_add : (f g : A → ℕ) (xs : List A) → sum_of (λ x. f x + g x) xs ≡ sum_of f xs + sum_of g xs
  unfolding sum_of
  sum_add f g [] = refl
  sum_add f g (x ∷ xs) = rw (sum_add f g xs) (omega arith)

  -- some element passes exactly where the count is not 0
  pub any_count : (p : A → Bool) (xs : List A) → any_of p xs ≡ leb 1 (count_if p xs)
  unfolding any_of count_if
  any_count p [] = refl
  any_count p (x ∷ xs) = pick (p x) (any_count p xs)
    where
      pick : (b : Bool) → any_of p xs ≡ leb 1 (count_if p xs) → (b || any_of p xs) ≡ leb 1 (cond b 1 0 + count_if p xs)
      pick true ih = sym (le-leb 1 (1 + count_if p xs) (omega arith))
      pick false ih = ih ∙ ap (leb 1) (sym (zero-add (count_if p xs)))

  pub count_none : (p : A → Bool) (xs : List A) → any_of p xs ≡ false → count_if p xs ≡ 0
  count_none p xs e = omega (arith, leb-false 1 (count_if p xs) (sym (any_count p xs) ∙ e))

  pub none_count : (p : A → Bool) (xs : List A) → count_if p xs ≡ 0 → any_of p xs ≡ false
  none_count p xs e = any_count p xs ∙ ap (leb 1) e

-- the count of a list put through f
pub count_map : {A B : Type 0} (p : B → Bool) (f : A → B) (xs : List A) → count_if p (map f xs) ≡ count_if (λ x. p (f x)) xs
unfolding count_if
count_map p f [] = refl
count_map p f (x ∷ xs) = ap (λ (n : ℕ). cond (p (f x)) 1 0 + n) (count_map p f xs)

-- a test that nothing passes
pub count_never : {A : Type 0} (p : A → Bool) (xs : List A) → ((x : A) → p x ≡ false) → count_if p xs ≡ 0
unfolding count_if
count_never p [] h = refl
count_never p (x ∷ xs) h = rw (h x, count_never p xs h)

-- the count of a row with one number more
pub count_next : (p : ℕ → Bool) (n : ℕ) → count_if p (up_from 0 (n + 1)) ≡ count_if p (up_from 0 n) + cond (p n) 1 0
unfolding count_if up_from
count_next p n =
    let e : 0 + n ≡ n = omega arith in
    ap (count_if p) (up_from_split 0 n 1) ∙ count_append p (up_from 0 n) ((0 + n) ∷ []) ∙ rw e (omega arith)

-- which passes, or does not
pub count_yes : (p : ℕ → Bool) (n : ℕ) → p n ≡ true → count_if p (up_from 0 (n + 1)) ≡ count_if p (up_from 0 n) + 1
count_yes p n e = count_next p n ∙ rw e

pub count_no : (p : ℕ → Bool) (n : ℕ) → p n ≡ false → count_if p (up_from 0 (n + 1)) ≡ count_if p (up_from 0 n)
count_no p n e = count_next p n ∙ rw e (omega arith)

-- before a number that passes there are fewer
pub count_before : (p : ℕ → Bool) (k n : ℕ) → k < n → p k ≡ true → count_if p (up_from 0 k) + 1 ≤ count_if p (up_from 0 n)
unfolding count_if
count_before p k n l e =
    let z : k - 0 ≡ k = omega arith in
    omega (arith, rw (z, e) at (ap (count_if p) (row_around 0 n k (omega arith) (omega arith)) ∙ count_append p (up_from 0 (k - 0)) (k ∷ up_from (suc k) (0 + n - suc k))))

-- and before the last that does, one fewer
pub count_last : (p : ℕ → Bool) (n : ℕ) → 1 ≤ count_if p (up_from 0 n) → (k : ℕ) × (k < n) × (p k ≡ true) × (count_if p (up_from 0 n) ≡ count_if p (up_from 0 k) + 1)
unfolding count_if up_from
count_last p zero h = absurd (omega arith)
count_last p (suc n) h = pick (p n) refl (count_last p n)
  where
    pick : (b : Bool) → p n ≡ b → (1 ≤ count_if p (up_from 0 n) → (k : ℕ) × (k < n) × (p k ≡ true) × (count_if p (up_from 0 n) ≡ count_if p (up_from 0 k) + 1))
        → (k : ℕ) × (k < suc n) × (p k ≡ true) × (count_if p (up_from 0 (suc n)) ≡ count_if p (up_from 0 k) + 1)
    pick true q ih = (n, omega arith, q, rw (add-one n) at (count_yes p n q))
    pick false q ih = let e = rw (add-one n) at (count_no p n q) in let w = ih (omega arith) in (w.0, omega (arith, w.1), w.2, e ∙ w.3)

-- two sums over a row that agree term by term
pub sum_same : (f g : ℕ → ℕ) (a n : ℕ) → ((k : ℕ) → a ≤ k → k < a + n → f k ≡ g k) → sum_of f (up_from a n) ≡ sum_of g (up_from a n)
unfolding sum_of up_from
sum_same f g a zero h = refl
sum_same f g a (suc n) h = rw (h a (omega arith) (omega arith), sum_same f g (suc a) n (λ k l m. h k (omega arith) (omega arith)))

pub sum_none : (f : ℕ → ℕ) (a n : ℕ) → ((k : ℕ) → a ≤ k → k < a + n → f k ≡ 0) → sum_of f (up_from a n) ≡ 0
unfolding sum_of up_from
sum_none f a zero h = refl
sum_none f a (suc n) h = rw (h a (omega arith) (omega arith), sum_none f (suc a) n (λ k l m. h k (omega arith) (omega arith)))

-- a sum over a row is one of its terms and the rest, which depends on the other terms alone
pub sum_around : (f : ℕ → ℕ) (a n k : ℕ) → a ≤ k → k < a + n
    → sum_of f (up_from a n) ≡ f k + (sum_of f (up_from a (k - a)) + sum_of f (up_from (suc k) (a + n - suc k)))
unfolding sum_of
sum_around f a n k l m =
    ap (sum_of f) (row_around a n k l m) ∙ sum_append f (up_from a (k - a)) (k ∷ up_from (suc k) (a + n - suc k)) ∙ omega arith

-- no term is above the sum
pub one_sum : (g : ℕ → ℕ) (n k : ℕ) → k < n → g k ≤ sum_of g (up_from 0 n)
one_sum g n k l = omega (arith, sum_around g 0 n k (omega arith) (omega arith))

-- nor two of its terms together
pub two_sum : (g : ℕ → ℕ) (n j k : ℕ) → j < k → k < n → g j + g k ≤ sum_of g (up_from 0 n)
two_sum g n j k l m =
    omega (arith, sum_around g 0 n j (omega arith) (omega arith), sum_around g (suc j) (0 + n - suc j) k l (omega arith))

-- a sum that begins one later
sum_shift : (g : ℕ → ℕ) (a n : ℕ) → sum_of g (up_from (suc a) n) ≡ sum_of (λ j. g (suc j)) (up_from a n)
unfolding sum_of up_from
sum_shift g a zero = refl
sum_shift g a (suc n) = rw (sum_shift g (suc a) n)

-- a sum over a list, by its places
pub sum_places : {A : Type 0} (h : A → ℕ) (xs : List A) (d : A) → sum_of h xs ≡ sum_of (λ j. h (get_or xs j d)) (up_from 0 (length xs))
unfolding sum_of up_from
sum_places h [] d = refl
sum_places h (x ∷ xs) d =
    ap (λ (n : ℕ). h x + n) (sum_places h xs d ∙ sym (sum_shift (λ j. h (get_or (x ∷ xs) j d)) 0 (length xs)))

-- ---- numbers written one after the other

pub length_written : (i : ℕ) (ws old : List ℕ) → length (written i ws old) ≡ length old
unfolding written
length_written i [] old = refl
length_written i (w ∷ ws) old = length_written (suc i) ws (set old i w) ∙ length-set old i w

-- some, and then more
pub written_more : (i : ℕ) (ws us old : List ℕ) → written i (ws ++ us) old ≡ written (i + length ws) us (written i ws old)
unfolding written
written_more i [] us old = ap (λ (k : ℕ). written k us old) (omega arith)
written_more i (w ∷ ws) us old =
    written_more (suc i) ws us (set old i w) ∙ ap (λ (k : ℕ). written k us (written (suc i) ws (set old i w))) (omega arith)
