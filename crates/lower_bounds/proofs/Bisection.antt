-- What rounds at one interval show, and what halving the range of intervals comes to. Assumes nothing.
use mathlib.Core.Path.{◌≡◌, refl, sym, ap, ◌∙◌}
use mathlib.Core.Bool.{Bool, true, false, not}
use mathlib.Core.List.{List, ◌∷◌, map}
use mathlib.Core.Logic.{◌⊎◌, inl, inr}
use Prim.Native.Nat.{ℕ, zero, suc, ◌+◌, ◌≤◌, ◌<◌}
use native.Mathlib.Nat.{mul-le-mul, le_of_suc-le-suc}
use native.Mathlib.Numerals.{add-one}
use native.Mathlib.Decide.{dec_lt}
use native.Mathlib.Omega.{arith}
use lib.IntN.{ℤ, pos}
use lib.ListN.{length, take, replicate}
use Rattle.model.specs.Loop.{Loop, size, LoopOk}
use Rattle.model.specs.Bounds.{Feasible, Stuck}
use Rattle.model.proofs.File.{accepted_ok}
use Rattle.model.proofs.Bounds.{each_met, feasible_more, refutes}
use Rattle.lower_bounds.specs.Rounds.{rounds, met_to, Holds, SmallIn, Rounded}
use Rattle.lower_bounds.specs.Walks.{Refuted, Decides}
use Rattle.lower_bounds.proofs.Rounds.{MeetsAll, rounds_length, still_met}
use Rattle.lower_bounds.proofs.Trail.{last_round}
use Rattle.lower_bounds.proofs.Values.{rounds_below}
use Rattle.lower_bounds.proofs.Arrays.{holds_nats, met_to_meets, meets_met_to}
use Rattle.lower_bounds.proofs.Bound.{ever}

-- nothing follows from a test that both succeeds and fails
never : {X : Type 0} → ◌≡◌ {A = Bool} true false → X
never e = let z : ◌≡◌ {A = ℕ} 0 1 = cc in absurd (omega arith)

not_false : (b : Bool) → false ≡ not b → b ≡ true
not_false true e = refl
not_false false e = e

-- an array of zeros holds zeros
pub zeros_hold : (n m : ℕ) → n ≤ m → Holds n (replicate m (pos 0)) (replicate n 0)
zeros_hold n m h = record { same = go n m h }
  where
    go : (n m : ℕ) → n ≤ m → take n (replicate m (pos 0)) ≡ map pos (replicate n 0)
    go zero m h = refl
    go (suc n) zero h = absurd (omega arith)
    go (suc n) (suc m) h = ap {B = List ℤ} (λ r. pos 0 ∷ r) (go n m (le_of_suc-le-suc h))

-- ---- the rounds at one interval

module _ (l : Loop) (ok : LoopOk l) (ii : ℕ) where
  -- at the start of round r the values are small
  pub round_small : (r : ℕ) (x : List ℤ) → r < size l → Holds (size l) x (rounds l ii (size l) r) → SmallIn (size l) 1048576 x
  round_small r x m h = record {
    natural = rw (holds_nats h) h;
    count = rw (holds_nats h) (rounds_length l ii (size l) r);
    low = rw (holds_nats h) (λ i. omega (arith, rounds_below l ii (size l) ok.dep_ok r i, mul-le-mul {n₂ = 256} {m₂ = 64} ok.sparse few));
  }
    where
      few : r ≤ 64
      few = omega (arith, ok.few)

  -- a round that changed nothing
  pub round_calm : (r : ℕ) (x x' : List ℤ) (changed : Bool) → changed ≡ false → Holds (size l) x (rounds l ii (size l) r) → Rounded l ii x x' changed → Feasible l ii
  round_calm r x x' changed e h q =
      let xs : List ℕ = rounds l ii (size l) r in
      let m : met_to l ii (length l.deps) xs ≡ true = not_false (met_to l ii (length l.deps) xs) (sym e ∙ (rw (holds_nats h) at q.test)) in
      record { starts = xs; all_ops = rounds_length l ii (size l) r; all_met = each_met l ok.dep_ok ii xs (rounds_length l ii (size l) r) (met_to_meets l ii (length l.deps) xs m) }

  -- a round that changed a value: there are rounds left, or a closed walk is too heavy
  pub round_more : (r : ℕ) (x x' : List ℤ) (changed : Bool) → changed ≡ true → Holds (size l) x (rounds l ii (size l) r) → Rounded l ii x x' changed
      → Holds (size l) x' (rounds l ii (size l) (r + 1)) × ((r + 1 < size l) ⊎ Refuted l ii)
  unfolding rounds
  round_more r x x' changed e h q = (rw add-one (rw (holds_nats h) at q.after), go (dec_lt (r + 1) (size l)))
    where
      xs : List ℕ
      xs = rounds l ii (size l) r

      clash : (rounds l ii (size l) (suc r) ≡ xs) ⊎ Refuted l ii → Refuted l ii
      clash (inr w) = w
      clash (inl same) =
          let m : MeetsAll l ii xs = still_met l ii xs (rw (rounds_length l ii (size l) r) ok.dep_ok) same in
          let k : met_to l ii (length l.deps) xs ≡ true = meets_met_to l ii (length l.deps) xs m in
          let z : changed ≡ not (met_to l ii (length l.deps) xs) = rw (holds_nats h) at q.test in
          never (sym e ∙ z ∙ ap not k)

      go : Dec (r + 1 < size l) → (r + 1 < size l) ⊎ Refuted l ii
      go (yes m) = inl m
      go (no m) = inr (clash (last_round l ii ok.dep_ok r (omega arith)))

-- ---- halving

-- no interval below lo can be met, and hi can
pub record Between (l : Loop) (lo hi : ℕ) : Type 0 where
  pub above : 1 ≤ lo
  pub order : lo ≤ hi
  pub below : hi ≤ 4096
  pub low : (a : ℕ) → 1 ≤ a → a < lo → ¬ Feasible l a
  pub high : Feasible l hi

module _ (l : Loop) (ok : LoopOk l) where
  -- an interval that a walk rules out cannot be met, nor can a shorter one
  none_below : (mid : ℕ) → Refuted l mid → (a : ℕ) → a ≤ mid → ¬ Feasible l a
  none_below mid w a h f = refutes l ok.dep_ok mid w.walk w.closed w.heavy (feasible_more l a mid h f)

  -- the longest interval
  pub top_no : (r : Bool) → r ≡ false → Decides l 4096 r → Stuck l
  top_no r e q = go (ever l ok)
    where
      go : Feasible l 4096 ⊎ Stuck l → Stuck l
      go (inr s) = s
      go (inl f) = absurd (none_below 4096 (q.unmet e) 4096 (omega arith) f)

  -- the upper half
  pub half_no : (lo hi mid : ℕ) (r : Bool) → r ≡ false → lo ≤ mid → mid < hi → Between l lo hi → Decides l mid r → Between l (mid + 1) hi
  half_no lo hi mid r e m o b q = record { above = omega arith; order = omega arith; below = b.below; low = λ a p k. none_below mid (q.unmet e) a (omega arith); high = b.high }

-- what a round needs, and what it shows where it changed nothing
pub ruleset rounds_at = (accepted_ok, round_small, round_calm)
