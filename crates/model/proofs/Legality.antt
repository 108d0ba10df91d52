-- Laws of legality: by its parts, and of dependences for fewer operations, for one operation more, and for a longer interval. Assumes nothing.
use mathlib.Core.Path.{◌≡◌, refl, sym, ap, ap₂, ◌∙◌, fun_ext}
use mathlib.Core.Bool.{Bool, true, false, not, ◌&&◌, ◌||◌, or-false}
use mathlib.Core.List.{List, [], ◌∷◌, ◌++◌}
use mathlib.Core.Option.{Option, none, some}
use Prim.Native.Nat.{ℕ, zero, suc, ◌+◌, ◌*◌, ◌≤◌, ◌<◌}
use native.Mathlib.Nat.{mul-le-mul_right}
use native.Mathlib.Decide.{ℕ_discrete}
use native.Mathlib.Omega.{arith}
use lib.Dec.{eqb}
use lib.ListN.{length}
use borrow.Author.Tests.{eq-eqb, ne_eqb, leb-true, le-leb, not-true, not-false}
use Rattle.model.specs.Lists.{up_from, pairs, any_of}
use Rattle.model.specs.Integers.{plus, minus}
use Rattle.model.specs.Loop.{Dep, Loop, size, dep_at, no_dep}
use Rattle.model.specs.Legality.{Placing, placed, holds, broken_at, broken, meets, pair_conflict, apart, place_at, touches, breaks, conflicts, fits_at}
use Rattle.model.proofs.Lists.{false_not, and_right, any_at, at_any, any_or, any_places, any_pairs, pairs_any}
use Rattle.model.proofs.Signed.{holds_parts}

-- ---- the parts of legality

-- no dependence is broken
pub meets_each : (l : Loop) (ii : ℕ) (f : Placing) → meets l ii f ≡ true → (e : ℕ) → e < length l.deps → broken ii f (dep_at l e) ≡ false
unfolding meets
meets_each l ii f h e m = any_at (broken ii f) l.deps e no_dep (not-true (any_of (broken ii f) l.deps) h) m

pub each_meets : (l : Loop) (ii : ℕ) (f : Placing) → ((e : ℕ) → e < length l.deps → broken ii f (dep_at l e) ≡ false) → meets l ii f ≡ true
unfolding meets
each_meets l ii f h = false_not (any_of (broken ii f) l.deps) (at_any (broken ii f) l.deps no_dep h)

-- no pair conflicts
pub apart_each : (l : Loop) (ii : ℕ) (f : Placing) → apart l ii f ≡ true → (a b : ℕ) → a ≤ b → b < size l → pair_conflict l ii f (a, b) ≡ false
unfolding apart
apart_each l ii f h a b o m = any_pairs (pair_conflict l ii f) (size l) a b (not-true (any_of (pair_conflict l ii f) (pairs (size l))) h) o m

pub each_apart : (l : Loop) (ii : ℕ) (f : Placing) → ((a b : ℕ) → a ≤ b → b < size l → pair_conflict l ii f (a, b) ≡ false) → apart l ii f ≡ true
unfolding apart
each_apart l ii f h = false_not (any_of (pair_conflict l ii f) (pairs (size l))) (pairs_any (pair_conflict l ii f) (size l) h)

module _ (l : Loop) (ii : ℕ) (f : Placing) (o t : ℕ) where
  -- an operation fits exactly where it breaks no dependence, one number after the other, and does not conflict
  pub fits_tests : fits_at l ii f o t ≡ (not (any_of (λ e. breaks ii f o t (dep_at l e)) (up_from 0 (length l.deps))) && not (conflicts l ii f o t))
  unfolding fits_at
  fits_tests = ap (λ (b : Bool). not b && not (conflicts l ii f o t)) (any_places (breaks ii f o t) l.deps no_dep)

  -- so one that fits does not conflict
  pub fits_conflict : fits_at l ii f o t ≡ true → conflicts l ii f o t ≡ false
  unfolding fits_at
  fits_conflict h = not-true (conflicts l ii f o t) (and_right (not (any_of (breaks ii f o t) l.deps)) (not (conflicts l ii f o t)) h)

-- ---- fewer operations

-- f places some of the operations of g, at the same starts
pub record SubPlacing (f g : Placing) : Type 0 where
  pub same : (o t : ℕ) → f o ≡ some t → g o ≡ some t

broken_part : (ii : ℕ) (d : Dep) (a b x y : Option ℕ) → ((t : ℕ) → a ≡ some t → x ≡ some t) → ((t : ℕ) → b ≡ some t → y ≡ some t)
    → broken_at ii d x y ≡ false → broken_at ii d a b ≡ false
broken_part ii d none b x y p q h = refl
broken_part ii d (some s) none x y p q h = refl
broken_part ii d (some s) (some t) x y p q h = ap₂ (broken_at ii d) (sym (p s refl)) (sym (q t refl)) ∙ h

-- what meets all dependences for all does so for some
pub meets_part : (l : Loop) (ii : ℕ) (f g : Placing) → SubPlacing f g → meets l ii g ≡ true → meets l ii f ≡ true
meets_part l ii f g p h =
    each_meets l ii f (λ e m. broken_part ii (dep_at l e) (f (dep_at l e).src) (f (dep_at l e).dst) (g (dep_at l e).src) (g (dep_at l e).dst)
    (p.same (dep_at l e).src) (p.same (dep_at l e).dst) (meets_each l ii g h e m))

-- the starts of a list begin with those of its beginning
pub placed_part : (xs ys : List ℕ) → SubPlacing (placed xs) (placed (xs ++ ys))
placed_part xs ys = record { same = go xs }
  where
    go : (xs : List ℕ) (o t : ℕ) → placed xs o ≡ some t → placed (xs ++ ys) o ≡ some t
    go [] o t e = let z : ◌≡◌ {A = ℕ} 0 1 = cc in absurd (omega arith)
    go (x ∷ xs) zero t e = e
    go (x ∷ xs) (suc o) t e = go xs o t e

-- ---- one operation more

-- a placing with one operation more breaks what it broke, and what the operation breaks
broken_place : (ii : ℕ) (f : Placing) (o t : ℕ) → f o ≡ none → (d : Dep) → broken ii (place_at f o t) d ≡ (broken ii f d || breaks ii f o t d)
broken_place ii f o t open_yet d = pick (ℕ_discrete d.src o) (ℕ_discrete d.dst o)
  where
    no_end : (x : Option ℕ) → broken_at ii d x none ≡ false
    no_end none = refl
    no_end (some s) = refl

    pick : Dec (d.src ≡ o) → Dec (d.dst ≡ o) → broken ii (place_at f o t) d ≡ (broken ii f d || breaks ii f o t d)
    pick (yes a) b = let e : f d.src ≡ none = ap f a ∙ open_yet in rw (eq-eqb d.src o a, e)
    pick (no a) (yes b) = let e : f d.dst ≡ none = ap f b ∙ open_yet in rw (ne_eqb d.src o a, eq-eqb d.dst o b, e, no_end)
    pick (no a) (no b) = rw (ne_eqb d.src o a, ne_eqb d.dst o b) (sym (or-false (broken ii f d)))

-- so it meets the dependences exactly where it did and the operation breaks none
pub meets_place : (l : Loop) (ii : ℕ) (f : Placing) (o t : ℕ) → f o ≡ none → meets l ii (place_at f o t) ≡ (meets l ii f && not (any_of (breaks ii f o t) l.deps))
unfolding meets
meets_place l ii f o t open_yet =
    ap (λ (q : Dep → Bool). not (any_of q l.deps)) (fun_ext (broken_place ii f o t open_yet))
    ∙ ap not (any_or (broken ii f) (breaks ii f o t) l.deps) ∙ neither (any_of (broken ii f) l.deps) (any_of (breaks ii f o t) l.deps)
  where
    neither : (a b : Bool) → not (a || b) ≡ (not a && not b)
    neither true b = refl
    neither false b = refl

-- of a dependence between p and o only the start of p counts
pub breaks_same : (ii : ℕ) (g k : Placing) (o t p : ℕ) → g p ≡ k p → (p ≡ o → ⊥) → (d : Dep) → (touches p d && breaks ii g o t d) ≡ (touches p d && breaks ii k o t d)
breaks_same ii g k o t p same other d = pick (ℕ_discrete d.src p) (ℕ_discrete d.dst p) (ℕ_discrete d.src o) (ℕ_discrete d.dst o)
  where
    at : (x : ℕ) → x ≡ p → (g x ≡ k x) × (eqb x o ≡ false)
    at x e = (ap g e ∙ same ∙ ap k (sym e), ne_eqb x o (λ q. other (sym e ∙ q)))

    pick : Dec (d.src ≡ p) → Dec (d.dst ≡ p) → Dec (d.src ≡ o) → Dec (d.dst ≡ o) → (touches p d && breaks ii g o t d) ≡ (touches p d && breaks ii k o t d)
    pick (yes a) b c (yes e) = rw ((at d.src a).1, (at d.src a).0, eq-eqb d.dst o e)
    pick (yes a) b c (no e) = rw ((at d.src a).1, ne_eqb d.dst o e)
    pick (no a) (yes b) (yes c) e = rw ((at d.dst b).1, (at d.dst b).0, eq-eqb d.src o c)
    pick (no a) (yes b) (no c) e = rw ((at d.dst b).1, ne_eqb d.src o c)
    pick (no a) (no b) c e = rw (ne_eqb d.src p a, ne_eqb d.dst p b)

-- ---- a longer interval

pub holds_more : (ii jj : ℕ) (d : Dep) (s t : ℕ) → ii ≤ jj → holds ii d s t ≡ true → holds jj d s t ≡ true
holds_more ii jj d s t h e =
    holds_parts jj d s t ∙ le-leb (s + plus d.delay) (t + jj * d.distance + minus d.delay)
    (omega (arith, leb-true (s + plus d.delay) (t + ii * d.distance + minus d.delay) (sym (holds_parts ii d s t) ∙ e), mul-le-mul_right d.distance h))

-- starts that meet all dependences at an interval meet them at every longer one (of conflicts that is false: case 3)
pub meets_more : (l : Loop) (ii jj : ℕ) (f : Placing) → ii ≤ jj → meets l ii f ≡ true → meets l jj f ≡ true
meets_more l ii jj f h e = each_meets l jj f (λ k m. go (dep_at l k) (f (dep_at l k).src) (f (dep_at l k).dst) (meets_each l ii f e k m))
  where
    go : (d : Dep) (a b : Option ℕ) → broken_at ii d a b ≡ false → broken_at jj d a b ≡ false
    go d none b q = refl
    go d (some s) none q = refl
    go d (some s) (some t) q = rw (holds_more ii jj d s t h (not-false (holds ii d s t) q))
