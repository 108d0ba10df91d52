-- The rounds' values in the code's array of signed numbers. Assumes nothing.
use mathlib.Core.Path.{◌≡◌, refl, sym, ap, ◌∙◌}
use mathlib.Core.Bool.{Bool, true, false, not, ◌&&◌, ◌||◌}
use mathlib.Core.List.{List, [], ◌∷◌, map}
use Prim.Native.Nat.{ℕ, zero, suc, ◌+◌, ◌*◌, ◌≤◌, ◌<◌, max}
use native.Mathlib.Decide.{ℕ_discrete}
use native.Mathlib.Numerals.{add-one}
use native.Mathlib.Omega.{arith}
use lib.Dec.{leb, ltb, ltb→lt, nltb→le}
use lib.IntN.{ℤ, pos}
use lib.ListN.{length, get_or, set, get_or-map}
use lib.Seq.{get_or-take, take-set-lt}
use lib.Signed.{lt_z, mag}
use borrow.Author.Tests.{lt-ltb, le-ltb, le-leb, lt-leb, leb-true}
use Rattle.model.specs.Integers.{plus, minus, maxℤ}
use Rattle.model.specs.Loop.{Dep, Loop, size, dep_at, DepOk, LoopOk}
use Rattle.model.proofs.Lists.{and_left, and_right}
use Rattle.model.proofs.Signed.{by_test, is_pos, is_add, is_subtract, lt_as, parts}
use Rattle.model.proofs.Bounds.{Met}
use Rattle.model.proofs.File.{accepted_ok}
use Rattle.lower_bounds.specs.Rounds.{needed, relax, relax_to, metb, met_to, Holds, nats, neededℤ, Relaxed, SmallIn}
use Rattle.lower_bounds.proofs.Rounds.{relax_int, relax_to_met, relax_to_next}
use Rattle.lower_bounds.proofs.Values.{to_below}

plus_pos : (xs : List ℕ) → map plus (map pos xs) ≡ xs
plus_pos [] = refl
plus_pos (x ∷ xs) = ap {B = List ℕ} (λ r. x ∷ r) (plus_pos xs)

pub holds_nats : {n : ℕ} {x : List ℤ} {xs : List ℕ} → Holds n x xs → nats n x ≡ xs
holds_nats {n} {x} {xs} h = ap (λ (l : List ℤ). map plus l) h.same ∙ plus_pos xs

pub holds_read : {n : ℕ} {x : List ℤ} {xs : List ℕ} → Holds n x xs → (i : ℕ) → i < n → get_or x i (pos 0) ≡ pos (get_or xs i 0)
holds_read {n} {x} {xs} h i l = sym (get_or-take n x i (pos 0) l) ∙ ap (λ (r : List ℤ). get_or r i (pos 0)) h.same ∙ get_or-map pos xs i 0

map_set : (xs : List ℕ) (i v : ℕ) → set (map pos xs) i (pos v) ≡ map pos (set xs i v)
map_set [] i v = refl
map_set (x ∷ xs) zero v = refl
map_set (x ∷ xs) (suc i) v = ap {B = List ℤ} (λ r. pos x ∷ r) (map_set xs i v)

pub holds_set : {n : ℕ} {x : List ℤ} {xs : List ℕ} → Holds n x xs → (i v : ℕ) → i < n → Holds n (set x i (pos v)) (set xs i v)
holds_set {n} {x} {xs} h i v l = record { same = take-set-lt n x i (pos v) l ∙ ap (λ (r : List ℤ). set r i (pos v)) h.same ∙ map_set xs i v }

-- a step of the array is one of the values
pub holds_relax : {n : ℕ} {x : List ℤ} {xs : List ℕ} → Holds n x xs → (ii : ℕ) (d : Dep) → DepOk n d
    → Holds n (set x d.dst (maxℤ (get_or x d.dst (pos 0)) (neededℤ ii x d))) (relax ii d xs)
unfolding relax
holds_relax {n} {x} {xs} h ii d w =
    rw (holds_read h d.dst w.target, holds_read h d.src w.source, relax_int (get_or xs d.dst 0) (get_or xs d.src 0) (ii * d.distance) d.delay)
    (holds_set h d.dst (max (get_or xs d.dst 0) (needed ii xs d)) w.target)

-- ---- the tests

ltb_leb : (a b : ℕ) → ltb a b ≡ not (leb b a)
ltb_leb a b = by_test (ltb a b)
    (λ t. let h : a < b = ltb→lt a b t in lt-ltb a b h ∙ sym (ap not (lt-leb b a h)))
    (λ t. let h : b ≤ a = nltb→le a b t in le-ltb a b h ∙ sym (ap not (le-leb b a h)))

-- whether the array's step changed a value
pub holds_test : {n : ℕ} {x : List ℤ} {xs : List ℕ} → Holds n x xs → (ii : ℕ) (d : Dep) → DepOk n d
    → lt_z (get_or x d.dst (pos 0)) (neededℤ ii x d) ≡ not (metb ii xs d)
holds_test {n} {x} {xs} h ii d w =
    let a : ℕ = get_or xs d.dst 0 in
    let b : ℕ = get_or xs d.src 0 in
    let p : ℕ = ii * d.distance in
    rw (holds_read h d.dst w.target, holds_read h d.src w.source)
    (lt_as (a + p + minus d.delay) (b + plus d.delay) (is_pos a) (is_subtract (is_add (is_pos b) (parts d.delay)) (is_pos p)) (omega arith)
    ∙ ltb_leb (a + p + minus d.delay) (b + plus d.delay))

module _ (L : Loop) (ii : ℕ) where
  pub met_to_meets : (k : ℕ) (xs : List ℕ) → met_to L ii k xs ≡ true → (j : ℕ) → j < k → Met ii xs (dep_at L j)
  unfolding met_to
  met_to_meets zero xs e j l = absurd (omega arith)
  met_to_meets (suc k) xs e j l = go (ℕ_discrete j k) (and_left (met_to L ii k xs) (metb ii xs (dep_at L k)) e, and_right (met_to L ii k xs) (metb ii xs (dep_at L k)) e) (met_to_meets k xs)
    where
      go : Dec (j ≡ k) → (met_to L ii k xs ≡ true) × (metb ii xs (dep_at L k) ≡ true) → (met_to L ii k xs ≡ true → (i : ℕ) → i < k → Met ii xs (dep_at L i)) → Met ii xs (dep_at L j)
      go (yes o) b f = rw o ((record { met = leb-true (get_or xs (dep_at L k).src 0 + plus (dep_at L k).delay) (get_or xs (dep_at L k).dst 0 + ii * (dep_at L k).distance + minus (dep_at L k).delay) b.1 }))
      go (no o) b f = f b.0 j (omega arith)

  pub meets_met_to : (k : ℕ) (xs : List ℕ) → ((j : ℕ) → j < k → Met ii xs (dep_at L j)) → met_to L ii k xs ≡ true
  unfolding met_to
  meets_met_to zero xs f = refl
  meets_met_to (suc k) xs f =
      rw (meets_met_to k xs (λ j l. f j (omega arith)))
      (le-leb (get_or xs (dep_at L k).src 0 + plus (dep_at L k).delay) (get_or xs (dep_at L k).dst 0 + ii * (dep_at L k).distance + minus (dep_at L k).delay) (f k (omega arith)).met)

  -- one more turn of a loop that keeps whether a value changed
  pub changed_next : (k : ℕ) (xs : List ℕ) (changed rose : Bool) → changed ≡ not (met_to L ii k xs) → rose ≡ not (metb ii (relax_to L ii k xs) (dep_at L k)) → (changed || rose) ≡ not (met_to L ii (suc k) xs)
  unfolding met_to
  changed_next k xs changed rose p q = go (met_to L ii k xs) refl
    where
      go : (m : Bool) → met_to L ii k xs ≡ m → (changed || rose) ≡ not (met_to L ii k xs && metb ii xs (dep_at L k))
      go true e =
          let s : relax_to L ii k xs ≡ xs = relax_to_met L ii k xs (met_to_meets k xs e) in
          rw (p, e, q, s)
      go false e = rw (p, e)

-- ---- one turn of a round

module _ (L : Loop) (ok : LoopOk L) (ii : ℕ) (e : ℕ) (known : e < length L.deps) where
  -- what is read is small
  pub turn_small : (x₀ x : List ℤ) → SmallIn (size L) 1048576 x₀ → Holds (size L) x (relax_to L ii e (nats (size L) x₀)) → mag (get_or x (dep_at L e).src (pos 0)) < 16777216
  turn_small x₀ x s h =
      rw (holds_read h (dep_at L e).src (ok.dep_ok e known).source)
      (omega (arith, ok.sparse, to_below L ii (size L) ok.dep_ok e (omega arith) (nats (size L) x₀) 1048576 s.count s.low (dep_at L e).src))

  -- the values are those of one dependence more, and whether one changed is kept
  pub turn : (xs : List ℕ) (x x' : List ℤ) (changed rose : Bool)
      → Holds (size L) x (relax_to L ii e xs) → changed ≡ not (met_to L ii e xs)
      → Relaxed L ii e x x' rose
      → Holds (size L) x' (relax_to L ii (e + 1) xs) × ((changed || rose) ≡ not (met_to L ii (e + 1) xs))
  turn xs x x' changed rose h p r =
      rw (add-one e) (
        rw (relax_to_next L ii e xs, r.raised.after) (holds_relax h ii (dep_at L e) (ok.dep_ok e known)),
        changed_next L ii e xs changed rose p (r.raised.test ∙ holds_test h ii (dep_at L e) (ok.dep_ok e known)),
      )

-- what a turn needs
pub ruleset turns = (accepted_ok, turn_small)
