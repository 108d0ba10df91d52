-- Rows of values, tabulated over numbers one after the other, and lists that are joined from parts. Assumes nothing.
use mathlib.Core.Path.{◌≡◌, refl, sym, ap, ap₂, ◌∙◌}
use mathlib.Core.List.{List, [], ◌∷◌, ◌++◌, map, flat_map, append-nil, append_assoc}
use Prim.Native.Nat.{ℕ, zero, suc, ◌+◌, ◌≤◌, ◌<◌}
use native.Mathlib.Nat.{zero-add, add-zero}
use native.Mathlib.Omega.{arith}
use lib.ListN.{length, get_or}
use lib.Seq.{ext_get_or}
use Rattle.model.specs.Lists.{up_from}
use Rattle.model.proofs.Lists.{up_from_split, length_tabulate, get_or_tabulate, map_append, flat_map_append}

-- ---- rows

module _ {B : Type 0} where
  -- a row that goes on where another ends: the two are one
  pub row_join : (f : ℕ → B) (a m b n c : ℕ) → b ≡ a + m → c ≡ m + n → map f (up_from a m) ++ map f (up_from b n) ≡ map f (up_from a c)
  row_join f a m b n c p q = rw (p, q) (sym (ap (map f) (up_from_split a m n) ∙ map_append f (up_from a m) (up_from (a + m) n)))

  -- two rows that agree value by value
  pub map_same : (f g : ℕ → B) (a n : ℕ) → ((k : ℕ) → a ≤ k → k < a + n → f k ≡ g k) → map f (up_from a n) ≡ map g (up_from a n)
  unfolding up_from
  map_same f g a zero h = refl
  map_same f g a (suc n) h = ap₂ ◌∷◌ (h a (omega arith) (omega arith)) (map_same f g (suc a) n (λ k l m. h k (omega arith) (omega arith)))

  -- a row of values is the list that has them
  pub tabulate_is : (f : ℕ → B) (a n : ℕ) (xs : List B) (d : B) → n ≡ length xs → ((i : ℕ) → i < n → f (a + i) ≡ get_or xs i d) → map f (up_from a n) ≡ xs
  tabulate_is f a n xs d e h =
      ext_get_or d (map f (up_from a n)) xs (length_tabulate f a n ∙ e)
      (λ i l. let k : i < n = rw length_tabulate at l in get_or_tabulate f a n i d k ∙ h i k)

  -- a list is the row of its elements
  pub row_is : (xs : List B) (d : B) → map (λ i. get_or xs i d) (up_from 0 (length xs)) ≡ xs
  row_is xs d = tabulate_is (λ i. get_or xs i d) 0 (length xs) xs d refl (λ i l. ap (λ (k : ℕ). get_or xs k d) (zero-add i))

-- ---- lists joined from parts

module _ {A B : Type 0} where
  -- lists joined over a list that was put through a function
  pub flat_map_lem : {C : Type 0} (g : C → List B) (f : A → C) (xs : List A) → flat_map g (map f xs) ≡ flat_map (λ x. g (f x)) xs
  unfolding flat_map
  flat_map_lem g f [] = refl
  flat_map_lem g f (x ∷ xs) = ap (λ (r : List B). g (f x) ++ r) (flat_map_lem g f xs)

  -- joined lists that are put through a function
  pub map_flat : {C : Type 0} (h : C → B) (g : A → List C) (xs : List A) → map h (flat_map g xs) ≡ flat_map (λ x. map h (g x)) xs
  unfolding flat_map
  map_flat h g [] = refl
  map_flat h g (x ∷ xs) = map_append h (g x) (flat_map g xs) ∙ ap (λ (r : List B). map h (g x) ++ r) (map_flat h g xs)

-- lists joined over a list that is itself joined
pub flat_flat : {A B C : Type 0} (g : C → List B) (f : A → List C) (xs : List A) → flat_map g (flat_map f xs) ≡ flat_map (λ x. flat_map g (f x)) xs
unfolding flat_map
flat_flat g f [] = refl
flat_flat {B = B} g f (x ∷ xs) = flat_map_append g (f x) (flat_map f xs) ∙ ap (λ (r : List B). flat_map g (f x) ++ r) (flat_flat g f xs)

-- lists P 0, P 1, .. of which each is the one before and g k after it, as a body grows by its records
pub flat_grows : {B : Type 0} (P g : ℕ → List B) (a n : ℕ) → ((k : ℕ) → a ≤ k → k < a + n → P k ++ g k ≡ P (suc k)) → P a ++ flat_map g (up_from a n) ≡ P (a + n)
unfolding flat_map up_from
flat_grows P g a zero h = append-nil (P a) ∙ ap P (sym (add-zero a))
flat_grows {B} P g a (suc n) h =
    sym (append_assoc (P a) (g a) (flat_map g (up_from (suc a) n)))
    ∙ ap (λ (r : List B). r ++ flat_map g (up_from (suc a) n)) (h a (omega arith) (omega arith))
    ∙ flat_grows P g (suc a) n (λ k l m. h k (omega arith) (omega arith))
    ∙ ap P (omega arith)
