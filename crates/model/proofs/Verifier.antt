-- The verdict is legal exactly for the legal lists, and a list is legal exactly where its dependences hold and no cell occurs twice. Assumes nothing.
use mathlib.Core.Path.{◌≡◌, refl, ap, ap₂, ◌∙◌}
use mathlib.Core.Bool.{Bool, true, not}
use mathlib.Core.List.{List}
use mathlib.Core.Option.{Option, none, some}
use Prim.Native.Nat.{ℕ, ◌≤◌}
use native.Mathlib.Omega.{arith}
use lib.ListN.{length}
use Rattle.model.specs.Lists.{up_from, pairs, any_of}
use Rattle.model.specs.Loop.{Loop, size, dep_at, LoopOk}
use Rattle.model.specs.Legality.{placed, broken, meets, pair_conflict, apart, legal_at, legal}
use Rattle.model.specs.Table.{count_of, cells_of}
use Rattle.model.specs.Verifier.{is_legal, breach, clash_at, judge, first_broken, first_pair, pair_place, verdict}
use Rattle.model.specs.Counts.{number_of}
use Rattle.model.proofs.Lists.{false_not, and_left, and_right, and_both, any_row, row_any, first_none, none_first}
use Rattle.model.proofs.Legality.{meets_each, each_meets}
use Rattle.model.proofs.Conflicts.{apart_once, once_apart}
use borrow.Author.Tests.{not-true}

-- a verdict is legal only where neither a dependence nor a pair is found
none_found : (d : Option ℕ) (p : Option (ℕ × ℕ)) (at : ℕ × ℕ → Option ℕ) → judge d p at ≡ is_legal → (d ≡ none) × (p ≡ none)
none_found none none at e = (refl, refl)
none_found none (some p) at e = absurd (never_legal (at p) e)
  where
    never_legal : (o : Option ℕ) → clash_at p o ≡ is_legal → ⊥
    never_legal none e = let z : ◌≡◌ {A = ℕ} 0 1 = cc in omega arith
    never_legal (some n) e = let z : ◌≡◌ {A = ℕ} 0 1 = cc in omega arith
none_found (some x) none at e = let z : ◌≡◌ {A = ℕ} 0 1 = cc in absurd (omega arith)
none_found (some x) (some p) at e = let z : ◌≡◌ {A = ℕ} 0 1 = cc in absurd (omega arith)

-- a broken dependence is said whatever pair conflicts
breach_judged : (e : ℕ) (p : Option (ℕ × ℕ)) (at : ℕ × ℕ → Option ℕ) → judge (some e) p at ≡ breach e
breach_judged e none at = refl
breach_judged e (some p) at = refl

module _ (l : Loop) (ii : ℕ) (xs : List ℕ) where
  -- the test of dependence e
  abbrev dep_test : ℕ → Bool
  dep_test e = broken ii (placed xs) (dep_at l e)

  -- the number of a pair's place
  abbrev number : ℕ × ℕ → Option ℕ
  number p = number_of (pair_place l ii xs p)

  -- dependences come before conflicts
  pub breach_first : (e : ℕ) → first_broken l ii xs ≡ some e → verdict l ii xs ≡ breach e
  unfolding verdict
  breach_first e h = ap (λ (d : Option ℕ). judge d (first_pair l ii xs) number) h ∙ breach_judged e (first_pair l ii xs) number

  -- what is judged legal is legal
  pub verdict_legal : verdict l ii xs ≡ is_legal → legal l ii xs ≡ true
  unfolding verdict first_broken first_pair legal_at apart
  verdict_legal e =
      let f = none_found (first_broken l ii xs) (first_pair l ii xs) number e in
      and_both (meets l ii (placed xs)) (not (any_of (pair_conflict l ii (placed xs)) (pairs (size l))))
      (each_meets l ii (placed xs) (λ k m. any_row dep_test 0 (length l.deps) k (none_first dep_test (up_from 0 (length l.deps)) f.0) (omega arith) (omega arith)))
      (false_not (any_of (pair_conflict l ii (placed xs)) (pairs (size l))) (none_first (pair_conflict l ii (placed xs)) (pairs (size l)) f.1))

  -- and the other way round
  pub legal_verdict : legal l ii xs ≡ true → verdict l ii xs ≡ is_legal
  unfolding verdict first_broken first_pair legal_at apart
  legal_verdict h =
      let m : meets l ii (placed xs) ≡ true = and_left (meets l ii (placed xs)) (not (any_of (pair_conflict l ii (placed xs)) (pairs (size l)))) h in
      let a : not (any_of (pair_conflict l ii (placed xs)) (pairs (size l))) ≡ true = and_right (meets l ii (placed xs)) (not (any_of (pair_conflict l ii (placed xs)) (pairs (size l)))) h in
      ap₂ (λ (d : Option ℕ) (p : Option (ℕ × ℕ)). judge d p number)
      (first_none dep_test (up_from 0 (length l.deps)) (row_any dep_test 0 (length l.deps) (λ k p q. meets_each l ii (placed xs) m k (omega arith))))
      (first_none (pair_conflict l ii (placed xs)) (pairs (size l)) (not-true (any_of (pair_conflict l ii (placed xs)) (pairs (size l))) a))

  -- a legal list meets its dependences, and no cell of its table occurs twice
  pub legal_once : LoopOk l → legal l ii xs ≡ true → (meets l ii (placed xs) ≡ true) × ((s r : ℕ) → count_of s r (cells_of l ii (placed xs)) ≤ 1)
  unfolding legal_at
  legal_once ok h =
      (and_left (meets l ii (placed xs)) (apart l ii (placed xs)) h, apart_once l ii (placed xs) ok (and_right (meets l ii (placed xs)) (apart l ii (placed xs)) h))

  -- and the other way round
  pub once_legal : LoopOk l → 1 ≤ ii → meets l ii (placed xs) ≡ true → ((s r : ℕ) → count_of s r (cells_of l ii (placed xs)) ≤ 1) → legal l ii xs ≡ true
  unfolding legal_at
  once_legal ok pos m o = and_both (meets l ii (placed xs)) (apart l ii (placed xs)) m (once_apart l ii (placed xs) ok pos o)
