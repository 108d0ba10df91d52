-- Which operations a list of starts places, and where. Assumes nothing.
use mathlib.Core.Path.{◌≡◌, refl, ap, ◌∙◌, fun_ext}
use mathlib.Core.List.{List, [], ◌∷◌, ◌++◌}
use mathlib.Core.Option.{Option, none, some}
use Prim.Native.Nat.{ℕ, zero, suc, ◌≤◌, ◌<◌}
use native.Mathlib.Nat.{le_refl, not-suc-le-zero, le_of_suc-le-suc}
use native.Mathlib.Decide.{ℕ_discrete}
use lib.ListN.{length, get_or, set, take}
use lib.Seq.{get_or-take, length-take-le, get_or-set_same, get_or-set_other}
use borrow.Author.Tests.{eq-eqb, ne_eqb}
use Rattle.model.specs.Legality.{Placing, placed, place_at}

-- an operation of the list is placed
pub placed_in_lem : (xs : List ℕ) (o : ℕ) → o < length xs → placed xs o ≡ some (get_or xs o 0)
placed_in_lem [] o h = absurd (not-suc-le-zero h)
placed_in_lem (x ∷ xs) zero h = refl
placed_in_lem (x ∷ xs) (suc o) h = placed_in_lem xs o (le_of_suc-le-suc h)

-- one after it is not
pub placed_after : (xs : List ℕ) (o : ℕ) → length xs ≤ o → placed xs o ≡ none
placed_after [] o h = refl
placed_after (x ∷ xs) zero h = absurd (not-suc-le-zero h)
placed_after (x ∷ xs) (suc o) h = placed_after xs o (le_of_suc-le-suc h)

-- the next operation, for one
pub placed_past : (xs : List ℕ) → placed xs (length xs) ≡ none
placed_past xs = placed_after xs (length xs) (le_refl (length xs))

-- ---- the first n starts of a longer list

pub placed_take : (n : ℕ) (xs : List ℕ) (o : ℕ) → n ≤ length xs → o < n → placed (take n xs) o ≡ some (get_or xs o 0)
placed_take n xs o l h = placed_in_lem (take n xs) o (rw (length-take-le n xs l) h) ∙ ap some (get_or-take n xs o 0 h)

-- ---- one start more

-- it places the next operation
pub placed_last : (xs : List ℕ) (s : ℕ) → placed (xs ++ (s ∷ [])) (length xs) ≡ some s
placed_last [] s = refl
placed_last (x ∷ xs) s = placed_last xs s

-- and no other
pub placed_others : (xs : List ℕ) (s o : ℕ) → (o ≡ length xs → ⊥) → placed (xs ++ (s ∷ [])) o ≡ placed xs o
placed_others [] s zero n = absurd (n refl)
placed_others [] s (suc o) n = refl
placed_others (x ∷ xs) s zero n = refl
placed_others (x ∷ xs) s (suc o) n = placed_others xs s o (λ e. n (ap suc e))

-- so it is the placing with that operation placed
pub placed_snoc : (xs : List ℕ) (s : ℕ) → placed (xs ++ (s ∷ [])) ≡ place_at (placed xs) (length xs) s
placed_snoc xs s = fun_ext (λ o. go o (ℕ_discrete o (length xs)))
  where
    go : (o : ℕ) → Dec (o ≡ length xs) → placed (xs ++ (s ∷ [])) o ≡ place_at (placed xs) (length xs) s o
    go o (yes e) = rw (e, placed_last xs s, eq-eqb (length xs) (length xs) refl)
    go o (no n) = rw (placed_others xs s o n, ne_eqb o (length xs) n)

-- a list that is read as starts by h, with a start put in place o, says its placing with o there
pub set_places : {A : Type 0} (h : A → Option ℕ) (d : A) (xs : List A) (o : ℕ) (x : A) (t : ℕ) → o < length xs → h x ≡ some t
    → ◌≡◌ {A = Placing} (λ p. h (get_or (set xs o x) p d)) (place_at (λ p. h (get_or xs p d)) o t)
set_places h d xs o x t l e = fun_ext (λ p. go p (ℕ_discrete p o))
  where
    go : (p : ℕ) → Dec (p ≡ o) → h (get_or (set xs o x) p d) ≡ place_at (λ p. h (get_or xs p d)) o t p
    go p (yes q) = rw (q, get_or-set_same xs o x d l, eq-eqb o o refl) e
    go p (no n) = rw (get_or-set_other xs o p x d n, ne_eqb p o n)
