-- Laws of the bounds: longer intervals, closed walks that rule an interval out, and that each answer is the only one. Assumes nothing.
use mathlib.Core.Path.{◌≡◌, sym, ap, ap₂, ◌∙◌}
use mathlib.Core.Bool.{true, not}
use mathlib.Core.List.{List, [], ◌∷◌}
use Prim.Native.Nat.{ℕ, ◌+◌, ◌*◌, ◌≤◌, ◌<◌}
use native.Mathlib.Nat.{mul-add, mul-zero}
use native.Mathlib.Decide.{dec_lt}
use native.Mathlib.Omega.{arith}
use lib.ListN.{length, get_or}
use borrow.Author.Tests.{leb-true, le-leb, not-false}
use Rattle.model.specs.Refusals.{Answer, answered}
use Rattle.model.specs.Integers.{plus, minus}
use Rattle.model.specs.Loop.{Dep, Loop, size, dep_at, DepOk}
use Rattle.model.specs.Legality.{placed, holds, broken_at, broken, meets}
use Rattle.model.specs.Bounds.{resource_bound, Feasible, RecurrenceBound, Goes, Closed, delay_of, distance_of, Heavy, Stuck, Lower, LowerIs, cyclic, beyond, within}
use Rattle.model.proofs.Legality.{meets_each, each_meets, meets_more}
use Rattle.model.proofs.StartLists.{placed_in_lem}
use Rattle.model.proofs.Signed.{Is, is_pos, is_add, lt_of, parts, holds_parts}

-- ---- starts that meet the dependences, in naturals

-- each dependence is between operations of the loop
abbrev pub Inside : Loop → Type 0
Inside l = (e : ℕ) → e < length l.deps → DepOk (size l) (dep_at l e)

-- starts xs of all operations meet dependence d at ii
pub record Met (ii : ℕ) (xs : List ℕ) (d : Dep) : Type 0 where
  pub met : get_or xs d.src 0 + plus d.delay ≤ get_or xs d.dst 0 + ii * d.distance + minus d.delay

module _ (l : Loop) (inside : Inside l) (ii : ℕ) (xs : List ℕ) (all_ops : length xs ≡ size l) where
  broken_holds : (e : ℕ) → e < length l.deps → broken ii (placed xs) (dep_at l e) ≡ not (holds ii (dep_at l e) (get_or xs (dep_at l e).src 0) (get_or xs (dep_at l e).dst 0))
  broken_holds e m =
      ap₂ (broken_at ii (dep_at l e))
      (placed_in_lem xs (dep_at l e).src (rw all_ops (inside e m).source))
      (placed_in_lem xs (dep_at l e).dst (rw all_ops (inside e m).target))

  -- the two statements of "all dependences are met" are one
  pub met_each : meets l ii (placed xs) ≡ true → (e : ℕ) → e < length l.deps → Met ii xs (dep_at l e)
  met_each h e m =
      let d : Dep = dep_at l e in
      record {
        met = leb-true (get_or xs d.src 0 + plus d.delay) (get_or xs d.dst 0 + ii * d.distance + minus d.delay)
            (sym (holds_parts ii d (get_or xs d.src 0) (get_or xs d.dst 0))
            ∙ not-false (holds ii d (get_or xs d.src 0) (get_or xs d.dst 0)) (sym (broken_holds e m) ∙ meets_each l ii (placed xs) h e m));
      }

  pub each_met : ((e : ℕ) → e < length l.deps → Met ii xs (dep_at l e)) → meets l ii (placed xs) ≡ true
  each_met h =
      each_meets l ii (placed xs) (λ e m.
      broken_holds e m
      ∙ ap not (holds_parts ii (dep_at l e) (get_or xs (dep_at l e).src 0) (get_or xs (dep_at l e).dst 0)
      ∙ le-leb (get_or xs (dep_at l e).src 0 + plus (dep_at l e).delay) (get_or xs (dep_at l e).dst 0 + ii * (dep_at l e).distance + minus (dep_at l e).delay) (h e m).met))

-- ---- a longer interval

-- what can be met at an interval can be met at every longer one
pub feasible_more : (l : Loop) (ii jj : ℕ) → ii ≤ jj → Feasible l ii → Feasible l jj
feasible_more l ii jj h f = record { starts = f.starts; all_ops = f.all_ops; all_met = meets_more l ii jj (placed f.starts) h f.all_met }

-- starts that meet all dependences at II meet them at II + 1
pub feasible_next : (l : Loop) (ii : ℕ) → Feasible l ii → Feasible l (ii + 1)
feasible_next l ii = feasible_more l ii (ii + 1) (omega arith)

-- ---- closed walks

-- the parts of a walk's delay above and below 0
unfoldable pub plus_of : Loop → List ℕ → ℕ
plus_of l [] = 0
plus_of l (k ∷ ks) = plus (dep_at l k).delay + plus_of l ks

unfoldable pub minus_of : Loop → List ℕ → ℕ
minus_of l [] = 0
minus_of l (k ∷ ks) = minus (dep_at l k).delay + minus_of l ks

pub delay_parts : (l : Loop) (w : List ℕ) → Is (delay_of l w) (plus_of l w) (minus_of l w)
unfolding delay_of plus_of minus_of
delay_parts l [] = is_pos 0
delay_parts l (k ∷ ks) = is_add (parts (dep_at l k).delay) (delay_parts l ks)

module _ (l : Loop) (inside : Inside l) (ii : ℕ) (f : Feasible l ii) where
  -- along a walk the starts rise by its delay, less ii times its distance
  along : (u : ℕ) (w : List ℕ) (v : ℕ) → Goes l u w v → get_or f.starts u 0 + plus_of l w ≤ get_or f.starts v 0 + ii * distance_of l w + minus_of l w
  unfolding distance_of plus_of minus_of
  along u [] v e = rw e (omega arith)
  along u (k ∷ ks) v g =
      omega (
        arith,
        along (dep_at l k).dst ks v g.2,
        (met_each l inside ii f.starts f.all_ops f.all_met k g.0).met,
        ap (λ (a : ℕ). get_or f.starts a 0) g.1,
        mul-add ii (dep_at l k).distance (distance_of l ks),
      )

  -- so a closed walk is not heavy at an interval that can be met
  pub light : (w : List ℕ) → Closed l w → ¬ Heavy l ii w
  light w c h = omega (arith, along c.from w c.from c.goes, lt_of (is_pos (ii * distance_of l w)) (delay_parts l w) h)

-- a heavy closed walk rules the interval out
pub refutes : (l : Loop) → Inside l → (ii : ℕ) (w : List ℕ) → Closed l w → Heavy l ii w → ¬ Feasible l ii
refutes l inside ii w c h f = light l inside ii f w c h

-- where a closed walk of distance 0 has delay above 0, no interval can be met
pub stuck_never : (l : Loop) → Inside l → Stuck l → (ii : ℕ) → ¬ Feasible l ii
stuck_never l inside s ii = refutes l inside ii s.walk s.closed (rw (s.still, mul-zero ii) s.late)

-- ---- one answer only

-- two recurrence bounds are equal
pub bound_unique : (l : Loop) (a b : ℕ) → RecurrenceBound l a → RecurrenceBound l b → a ≡ b
bound_unique l a b p q = go (dec_lt a b) (dec_lt b a)
  where
    go : Dec (a < b) → Dec (b < a) → a ≡ b
    go (yes h) t = absurd (q.least a p.positive h p.feasible)
    go (no h) (yes k) = absurd (p.least b q.positive k q.feasible)
    go (no h) (no k) = omega arith

-- the answer of a loop is determined
pub lower_unique : (l : Loop) → Inside l → (a b : Answer Lower) → LowerIs l a → LowerIs l b → a ≡ b
lower_unique l i a b (cyclic s e) (cyclic t d) = e ∙ sym d
lower_unique l i a b (cyclic s e) (beyond y q n d) = absurd (stuck_never l i s y q.feasible)
lower_unique l i a b (cyclic s e) (within y q n d) = absurd (stuck_never l i s y q.feasible)
lower_unique l i a b (beyond x p m e) (cyclic t d) = absurd (stuck_never l i t x p.feasible)
lower_unique l i a b (beyond x p m e) (beyond y q n d) = e ∙ sym d
lower_unique l i a b (beyond x p m e) (within y q n d) = absurd (omega (arith, bound_unique l x y p q))
lower_unique l i a b (within x p m e) (cyclic t d) = absurd (stuck_never l i t x p.feasible)
lower_unique l i a b (within x p m e) (beyond y q n d) = absurd (omega (arith, bound_unique l x y p q))
lower_unique l i a b (within x p m e) (within y q n d) =
    e ∙ ap (λ (z : ℕ). answered (record { resource = resource_bound l; recurrence = z })) (bound_unique l x y p q) ∙ sym d
