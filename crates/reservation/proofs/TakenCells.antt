-- The two searches for a place: over the uses in one cycle, and over the cycles. Assumes nothing.
use mathlib.Core.Path.{◌≡◌, refl, sym, ap, subst, ◌∙◌}
use mathlib.Core.Bool.{Bool, true, false, and-false, or-true, or-false}
use mathlib.Core.List.{List, [], ◌∷◌}
use mathlib.Core.Option.{Option, none, some}
use Prim.Native.Nat.{ℕ, zero, suc, ◌+◌, ◌-◌, ◌/◌, ◌^◌, ◌≤◌, ◌<◌, max}
use native.Mathlib.Nat.{div-le_self, zero-mod}
use native.Mathlib.Decide.{dec_lt}
use native.Mathlib.Omega.{arith}
use lib.Dec.{eqb, leb}
use lib.ListN.{length, get_or, take}
use borrow.Author.Tests.{le-leb, lt-leb, lt-ltb, le-ltb, eq-eqb}
use Rattle.model.specs.Lists.{first, max_of}
use Rattle.model.specs.Loop.{Op, Use, no_use, OpOk, size, op_at}
use Rattle.model.specs.File.{loop_of, Accepted}
use Rattle.model.specs.Legality.{covers}
use Rattle.model.specs.Table.{digit_of}
use Rattle.model.specs.Counts.{Capacity, Usage, taken_at, first_taken}
use Rattle.reservation.specs.Place.{met_by, met_in, cycles_of, cycle_is, row_at, met_at, first_met, place_of, place_is, place_in_cycle, InRange}
use Rattle.reservation.specs.declared.Place.{Place}
use Rattle.std.specs.Prelude.{None, Some}
use Rattle.std.specs.Prelude as code
use Rattle.reservation.specs.declared.test.Cycle.TheVariants as cycle
use Rattle.model.proofs.File.{accepted_ok}
use Rattle.model.proofs.Lists.{at_any, first_none}
use Rattle.model.proofs.Firsts.{first_not, grid_not, grid_at, none_grid}
use Rattle.model.proofs.Room.{place_small}

-- what a use meets in cycle k, which falls into the row given
module _ (base ii row k : ℕ) (u : Use) where
  -- before its first cycle nothing
  pub use_early : k < u.offset → met_by base ii row k u ≡ false
  use_early h = rw (lt-leb u.offset k h)

  -- when it is over nothing
  pub use_over : u.offset + u.duration ≤ k → met_by base ii row k u ≡ false
  use_over h = rw (le-ltb k (u.offset + u.duration) h, and-false (leb u.offset k))

  -- while it lasts, itself from the interval on
  pub use_self : u.offset ≤ k → k < u.offset + u.duration → u.offset + ii ≤ k → met_by base ii row k u ≡ true
  use_self p q h = rw (le-leb u.offset k p, lt-ltb k (u.offset + u.duration) q, le-leb (u.offset + ii) k h) (or-true (eqb (digit_of base row u.slot) 1))

  -- and before that what the row's bit says
  pub use_bit : u.offset ≤ k → k < u.offset + u.duration → k < u.offset + ii → met_by base ii row k u ≡ eqb (digit_of base row u.slot) 1
  use_bit p q h = rw (le-leb u.offset k p, lt-ltb k (u.offset + u.duration) q, lt-leb (u.offset + ii) k h) (or-false _)

  -- the bit alone is enough
  pub use_met : u.offset ≤ k → k < u.offset + u.duration → digit_of base row u.slot ≡ 1 → met_by base ii row k u ≡ true
  use_met p q e = rw (le-leb u.offset k p, lt-ltb k (u.offset + u.duration) q, eq-eqb (digit_of base row u.slot) 1 e)

-- a row of 0 has no bit set
pub digit_none : (base s : ℕ) → digit_of base 0 s ≡ 0
digit_none base s = let z : 0 / base ^ (s - 1) ≡ 0 = omega (arith, div-le_self 0 (base ^ (s - 1))) in rw z (zero-mod base)

-- and so nothing is found in a cycle of such a row before the interval is over
pub before_itself : (base ii k : ℕ) (us : List Use) → k < ii → met_in base ii 0 k us ≡ none
unfolding met_in
before_itself base ii k us h =
    first_not (met_by base ii 0 k) us no_use (λ j l. let u = get_or us j no_use in rw (digit_none base u.slot, lt-leb (u.offset + ii) k (omega arith)) (and-false (covers k u)))

-- nor in a cycle past those that the uses cover
cycles_over : (base ii row k : ℕ) (us : List Use) → cycles_of us ≤ k → met_in base ii row k us ≡ none
unfolding met_in first max_of
cycles_over base ii row k [] h = refl
cycles_over base ii row k (u ∷ us) h = rw (use_over base ii row k u (omega arith)) (cycles_over base ii row k us (omega arith))

-- no use ends after cycle b, so they cover at most b cycles
cycles_most : (us : List Use) (b : ℕ) → ((j : ℕ) → j < length us → (get_or us j no_use).offset + (get_or us j no_use).duration ≤ b) → cycles_of us ≤ b
unfolding max_of
cycles_most [] b h = omega arith
cycles_most (u ∷ us) b h = omega (arith, h 0 (omega arith), cycles_most us b (λ j l. h (suc j) (omega arith)))

-- those of an operation cover at most 16
pub cycles_few : (f : List ℕ) (o : ℕ) → Accepted f → o < size (loop_of f) → cycles_of (op_at (loop_of f) o).uses ≤ 16
cycles_few f o a l = cycles_most (op_at (loop_of f) o).uses 16 (λ j m. (((accepted_ok f a).op_ok o l).each j m).ends)

-- the cycles that the uses to j cover, with use j
pub cycles_more : (us : List Use) (j : ℕ) → j < length us → cycles_of (take (suc j) us) ≡ max (cycles_of (take j us)) ((get_or us j no_use).offset + (get_or us j no_use).duration)
unfolding max_of
cycles_more [] j l = absurd (omega arith)
cycles_more (u ∷ us) zero l = omega arith
cycles_more (u ∷ us) (suc j) l = omega (arith, cycles_more us j (omega arith))

-- ---- what the test of one cycle says

-- it finds nothing: nothing is taken, and the number said is m
pub cycle_free : (n m : ℕ) (o : Option Use) → cycle.Free n ≡ cycle_is o m → (o ≡ none) × (n ≡ m)
cycle_free n m none e = (refl, cc)
cycle_free n m (some u) e = cc

module _ (base ii : ℕ) (rows : List ℕ) (s : ℕ) (us : List Use) where
  -- nothing is met, said of each cycle and each use
  pub met_each : first_met base ii rows s us ≡ none → (k j : ℕ) → k < 16 → j < length us → met_at base ii rows s k (get_or us j no_use) ≡ false
  unfolding first_met
  met_each e = none_grid (met_at base ii rows s) us no_use 16 e

  -- and the other way round
  pub each_met : ((k j : ℕ) → k < 16 → j < length us → met_at base ii rows s k (get_or us j no_use) ≡ false) → first_met base ii rows s us ≡ none
  unfolding first_met
  each_met h = grid_not (met_at base ii rows s) us 16 (λ k l. first_none (met_at base ii rows s k) us (at_any (met_at base ii rows s k) us no_use (λ j m. h k j l m)))

  -- nothing in those below k, and the uses cover no others
  pub place_free : (k : ℕ) → ((j : ℕ) → j < k → met_in base ii (row_at ii rows s j) j us ≡ none) → cycles_of us ≤ k → none ≡ place_is (first_met base ii rows s us)
  unfolding met_in first_met
  place_free k h m = sym (ap place_is (grid_not (met_at base ii rows s) us 16 (λ j l. pick j (dec_lt j k))))
    where
      pick : (j : ℕ) → Dec (j < k) → met_in base ii (row_at ii rows s j) j us ≡ none
      pick j (yes l) = h j l
      pick j (no n) = cycles_over base ii (row_at ii rows s j) j us (omega arith)

  -- nothing in those below k, and in k something in slot t
  pub place_taken : (k t m : ℕ) → k < 16 → ((j : ℕ) → j < k → met_in base ii (row_at ii rows s j) j us ≡ none)
      → cycle.Taken t ≡ cycle_is (met_in base ii (row_at ii rows s k) k us) m → some (k, t) ≡ place_is (first_met base ii rows s us)
  unfolding met_in first_met
  place_taken k t m l h e = pick (first (met_at base ii rows s k) us) refl e
    where
      pick : (o : Option Use) → first (met_at base ii rows s k) us ≡ o → cycle.Taken t ≡ cycle_is o m → some (k, t) ≡ place_is (first_met base ii rows s us)
      pick none q g = cc
      pick (some u) q g = let v : t ≡ u.slot = cc in ap (λ (x : ℕ). some (k, x)) v ∙ sym (ap place_is (grid_at (met_at base ii rows s) us 16 k u l h q))

-- ---- what is said of the cycles of a place of the model

module _ (cap : Capacity) (u : Usage) (own : Bool) (ii : ℕ) (p : Op) (t : ℕ) where
  -- what is taken first in cycle k
  abbrev pub taken_in : ℕ → Option Use
  taken_in k = first (taken_at cap u own ii t k) p.uses

  -- nothing in any cycle
  pub cycles_none : ((k : ℕ) → k < 16 → taken_in k ≡ none) → none ≡ place_is (first_taken cap u own ii p t)
  unfolding first_taken
  cycles_none h = sym (ap place_is (grid_not (taken_at cap u own ii t) p.uses 16 h))

  -- nothing in those below k, and in k the place x
  pub cycles_found : (k : ℕ) (x : ℕ × ℕ) → k < 16 → ((j : ℕ) → j < k → taken_in j ≡ none) → some x ≡ place_in_cycle k (taken_in k) → some x ≡ place_is (first_taken cap u own ii p t)
  unfolding first_taken
  cycles_found k x l h e = pick (taken_in k) refl e
    where
      pick : (o : Option Use) → taken_in k ≡ o → some x ≡ place_in_cycle k o → some x ≡ place_is (first_taken cap u own ii p t)
      pick none f g = cc
      pick (some v) f g = g ∙ sym (ap place_is (grid_at (taken_at cap u own ii t) p.uses 16 k v l h f))

  -- what is said of a place that is found is in range
  pub found_range : OpOk p → (r : code.Option Place) → place_of r ≡ place_is (first_taken cap u own ii p t) → InRange r
  found_range ok r e = record { small = λ k s q. go k s (first_taken cap u own ii p t) refl (sym e ∙ q) }
    where
      go : (k s : ℕ) (o : Option (ℕ × Use)) → first_taken cap u own ii p t ≡ o → place_is o ≡ some (k, s) → (k < 16) × (s ≤ 24)
      go k s none f g = cc
      go k s (some (c, v)) f g =
          let same : ◌≡◌ {A = ℕ × ℕ} (c, v.slot) (k, s) = cc in
          subst (λ (x : ℕ × ℕ). (x.0 < 16) × (x.1 ≤ 24)) same (place_small cap u own ii p t c v ok f)
