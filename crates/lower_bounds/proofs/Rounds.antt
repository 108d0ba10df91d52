-- Starts raised, one dependence after another, until they meet all of them. Assumes nothing.
use mathlib.Core.Path.{◌≡◌, refl, sym, ap, ◌∙◌}
use mathlib.Core.List.{List}
use Prim.Native.Nat.{ℕ, zero, suc, ◌+◌, ◌-◌, ◌≤◌, ◌<◌, max}
use native.Mathlib.Nat.{le_trans, le_antisymm, le_refl}
use native.Mathlib.Decide.{ℕ_discrete, le_ind}
use native.Mathlib.Omega.{arith}
use lib.Dec.{ltb, ltb→lt, nltb→le}
use lib.IntN.{ℤ, pos, ◌+ℤ◌, ◌-ℤ◌}
use lib.ListN.{length, get_or, set, length-set, length-replicate}
use lib.Seq.{get_or-set_same, get_or-set_other, set-get_or, ext_get_or}
use lib.Signed.{lt_z}
use borrow.Author.Tests.{lt-ltb, le-ltb}
use Rattle.model.specs.Loop.{Dep, Loop, dep_at, DepOk}
use Rattle.model.specs.Integers.{plus, minus, maxℤ}
use Rattle.model.proofs.Signed.{Is, by_test, is_pos, is_add, is_subtract, is_eq, lt_as, parts, max_left, max_right}
use Rattle.model.proofs.Bounds.{Met}
use Rattle.lower_bounds.specs.Rounds.{needed, relax, relax_to, round, rounds}

-- the starts xs meet every dependence at ii
abbrev pub MeetsAll : Loop → ℕ → List ℕ → Type 0
MeetsAll L ii xs = (k : ℕ) → k < length L.deps → Met ii xs (dep_at L k)

-- each dependence is between the first n operations
abbrev pub AllWithin : ℕ → Loop → Type 0
AllWithin n L = (k : ℕ) → k < length L.deps → DepOk n (dep_at L k)

-- what is stored, as the larger of two integers
pub relax_int : (a b p : ℕ) (d : ℤ) → maxℤ (pos a) (pos b +ℤ d -ℤ pos p) ≡ pos (max a (b + plus d - (minus d + p)))
relax_int a b p d =
    let k : Is (pos b +ℤ d -ℤ pos p) (b + plus d + 0) (0 + minus d + p) = is_subtract (is_add (is_pos b) (parts d)) (is_pos p) in
    let e : lt_z (pos a) (pos b +ℤ d -ℤ pos p) ≡ ltb (a + (minus d + p)) (b + plus d) = lt_as (a + (minus d + p)) (b + plus d) (is_pos a) k (omega arith) in
    by_test (ltb (a + (minus d + p)) (b + plus d))
    (λ t. let o : a + (minus d + p) < b + plus d = ltb→lt (a + (minus d + p)) (b + plus d) t in
    max_right (pos a) (pos b +ℤ d -ℤ pos p) (e ∙ lt-ltb (a + (minus d + p)) (b + plus d) o) ∙ is_eq k (is_pos (max a (b + plus d - (minus d + p)))) (omega arith))
    (λ t. let o : b + plus d ≤ a + (minus d + p) = nltb→le (a + (minus d + p)) (b + plus d) t in
    max_left (pos a) (pos b +ℤ d -ℤ pos p) (e ∙ le-ltb (a + (minus d + p)) (b + plus d) o) ∙ ap pos (omega arith))

module _ (ii : ℕ) (d : Dep) (xs : List ℕ) where
  pub relax_length : length (relax ii d xs) ≡ length xs
  unfolding relax
  relax_length = length-set xs d.dst (max (get_or xs d.dst 0) (needed ii xs d))

  -- a dependence that is met changes nothing
  pub relax_met : Met ii xs d → relax ii d xs ≡ xs
  unfolding relax
  relax_met h =
      let e : max (get_or xs d.dst 0) (needed ii xs d) ≡ get_or xs d.dst 0 = omega arith in
      ap (λ (v : ℕ). set xs d.dst v) e ∙ set-get_or xs d.dst 0

  -- one that is not raises its target
  pub relax_unmet : get_or xs d.dst 0 < needed ii xs d → relax ii d xs ≡ set xs d.dst (needed ii xs d)
  unfolding relax
  relax_unmet h =
      let e : max (get_or xs d.dst 0) (needed ii xs d) ≡ needed ii xs d = omega arith in
      ap (λ (v : ℕ). set xs d.dst v) e

-- a value that is raised leaves no value lower
pub set_up : (xs : List ℕ) (v b i : ℕ) → get_or xs v 0 ≤ b → v < length xs → get_or xs i 0 ≤ get_or (set xs v b) i 0
set_up xs v b i h l = go (ℕ_discrete i v)
  where
    go : Dec (i ≡ v) → get_or xs i 0 ≤ get_or (set xs v b) i 0
    go (yes e) = rw (e, get_or-set_same xs v b 0 l) h
    go (no o) = rw (get_or-set_other xs v i b 0 o) (le_refl (get_or xs i 0))

pub relax_up : (ii : ℕ) (d : Dep) (xs : List ℕ) (i : ℕ) → d.dst < length xs → get_or xs i 0 ≤ get_or (relax ii d xs) i 0
unfolding relax
relax_up ii d xs i l = set_up xs d.dst (max (get_or xs d.dst 0) (needed ii xs d)) i (omega arith) l

-- where nothing changed, the dependence was met
pub relax_still : (ii : ℕ) (d : Dep) (xs : List ℕ) → d.dst < length xs → relax ii d xs ≡ xs → Met ii xs d
unfolding relax
relax_still ii d xs l e =
    let v : ℕ = max (get_or xs d.dst 0) (needed ii xs d) in
    let q : v ≡ get_or xs d.dst 0 = sym (get_or-set_same xs d.dst v 0 l) ∙ ap (λ (s : List ℕ). get_or s d.dst 0) e in
    omega arith

module _ (L : Loop) (ii : ℕ) where
  pub relax_to_none : (xs : List ℕ) → relax_to L ii 0 xs ≡ xs
  unfolding relax_to
  relax_to_none xs = refl

  pub relax_to_next : (k : ℕ) (xs : List ℕ) → relax_to L ii (suc k) xs ≡ relax ii (dep_at L k) (relax_to L ii k xs)
  unfolding relax_to
  relax_to_next k xs = refl

  pub relax_to_length : (k : ℕ) (xs : List ℕ) → length (relax_to L ii k xs) ≡ length xs
  unfolding relax_to
  relax_to_length zero xs = refl
  relax_to_length (suc k) xs = relax_length ii (dep_at L k) (relax_to L ii k xs) ∙ relax_to_length k xs

  pub rounds_length : (n r : ℕ) → length (rounds L ii n r) ≡ n
  unfolding rounds round
  rounds_length n zero = length-replicate n 0
  rounds_length n (suc r) = relax_to_length (length L.deps) (rounds L ii n r) ∙ rounds_length n r

  -- ---- 2. Starts that a round leaves as they are meet every dependence
  pub relax_to_met : (k : ℕ) (xs : List ℕ) → ((j : ℕ) → j < k → Met ii xs (dep_at L j)) → relax_to L ii k xs ≡ xs
  unfolding relax_to
  relax_to_met zero xs h = refl
  relax_to_met (suc k) xs h =
      ap (λ (s : List ℕ). relax ii (dep_at L k) s) (relax_to_met k xs (λ j l. h j (omega arith))) ∙ relax_met ii (dep_at L k) xs (h k (omega arith))

  module _ (xs : List ℕ) (within : AllWithin (length xs) L) where
    -- values only rise
    up_next : (k i : ℕ) → k < length L.deps → get_or (relax_to L ii k xs) i 0 ≤ get_or (relax_to L ii (suc k) xs) i 0
    unfolding relax_to
    up_next k i l = relax_up ii (dep_at L k) (relax_to L ii k xs) i (omega (arith, (within k l).target, relax_to_length k xs))

    pub up : (k m i : ℕ) → k ≤ m → m ≤ length L.deps → get_or (relax_to L ii k xs) i 0 ≤ get_or (relax_to L ii m xs) i 0
    up k m i h = le_ind (λ (c : ℕ). c ≤ length L.deps → get_or (relax_to L ii k xs) i 0 ≤ get_or (relax_to L ii c xs) i 0) (λ l. le_refl (get_or (relax_to L ii k xs) i 0))
        (λ c p next l. le_trans (next (omega arith)) (up_next c i (omega arith))) m h

    still_each : round L ii xs ≡ xs → (k : ℕ) → k ≤ length L.deps → relax_to L ii k xs ≡ xs
    unfolding round
    still_each e k l = ext_get_or 0 (relax_to L ii k xs) xs (relax_to_length k xs) (λ i h.
        let a : get_or (relax_to L ii k xs) i 0 ≤ get_or xs i 0 = rw e at (up k (length L.deps) i l (le_refl (length L.deps))) in
        let b : get_or xs i 0 ≤ get_or (relax_to L ii k xs) i 0 = rw relax_to_none at (up 0 k i (omega arith) l) in
        le_antisymm a b)

    pub still_met : round L ii xs ≡ xs → MeetsAll L ii xs
    still_met e k l = (relax_still ii (dep_at L k) xs (within k l).target (ap (λ (s : List ℕ). relax ii (dep_at L k) s) (sym (still_each e k (omega arith))) ∙ sym (relax_to_next k xs) ∙ still_each e (suc k) l))
