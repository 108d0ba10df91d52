-- Where the uses of an operation stand among all uses, and their ranges. Assumes nothing.
use mathlib.Core.Path.{◌≡◌, refl, ap, ◌∙◌}
use mathlib.Core.List.{List, [], ◌∷◌, flat_map}
use Prim.Native.Nat.{ℕ, zero, suc, ◌+◌, ◌-◌, ◌*◌, ◌≤◌, ◌<◌}
use native.Mathlib.Decide.{dec_lt}
use native.Mathlib.Nat.{zero-add, add-zero, add_assoc, le_of_suc-le-suc, not-suc-le-zero}
use native.Mathlib.Omega.{arith}
use lib.ListN.{length, get_or, take, length-append, get_or-append}
use lib.Seq.{get_or-append-add, take-suc, take-length}
use Rattle.model.specs.Lists.{sum_of}
use Rattle.model.specs.Loop.{Use, Op, Loop, no_use, no_op, size, op_at, use_at, all_uses, first_use_of, UseOk, OpOk, LoopOk}
use Rattle.model.proofs.Lists.{sum_append}

-- use j of operation o is use first_use_of l o + j of all
pub use_among : (l : Loop) (o j : ℕ) → o < size l → j < length (op_at l o).uses → get_or (all_uses l) (first_use_of l o + j) no_use ≡ use_at (op_at l o) j
unfolding all_uses first_use_of flat_map sum_of
use_among l o j = go l.ops o
  where
    go : (ps : List Op) (o : ℕ) → o < length ps → j < length (get_or ps o no_op).uses
        → get_or (flat_map (λ p. p.uses) ps) (sum_of (λ p. length p.uses) (take o ps) + j) no_use ≡ use_at (get_or ps o no_op) j
    go [] o h m = absurd (not-suc-le-zero h)
    go (p ∷ ps) zero h m = rw zero-add (get_or-append p.uses (flat_map (λ q. q.uses) ps) no_use j m)
    go (p ∷ ps) (suc o) h m =
        rw add_assoc (get_or-append-add p.uses (flat_map (λ q. q.uses) ps) _ no_use ∙ go ps o (le_of_suc-le-suc h) m)

-- the uses of an operation end before those of all do
pub use_within : (l : Loop) (o : ℕ) → o < size l → first_use_of l o + length (op_at l o).uses ≤ length (all_uses l)
unfolding all_uses first_use_of flat_map sum_of
use_within l o = go l.ops o
  where
    go : (ps : List Op) (o : ℕ) → o < length ps → sum_of (λ p. length p.uses) (take o ps) + length (get_or ps o no_op).uses ≤ length (flat_map (λ p. p.uses) ps)
    go [] o h = absurd (not-suc-le-zero h)
    go (p ∷ ps) zero h = rw length-append (omega arith)
    go (p ∷ ps) (suc o) h = rw length-append (omega (arith, go ps o (le_of_suc-le-suc h)))

-- where the uses of the next operation begin
pub first_next : (l : Loop) (o : ℕ) → o < size l → first_use_of l (suc o) ≡ first_use_of l o + length (op_at l o).uses
unfolding first_use_of sum_of
first_next l o h =
    ap (sum_of (λ p. length p.uses)) (take-suc l.ops o no_op h)
    ∙ sum_append (λ p. length p.uses) (take o l.ops) (op_at l o ∷ [])
    ∙ ap (λ (k : ℕ). first_use_of l o + k) (add-zero (length (op_at l o).uses))

-- and where those of the last end
pub first_last : (l : Loop) → first_use_of l (size l) ≡ length (all_uses l)
unfolding first_use_of all_uses flat_map sum_of
first_last l = ap (sum_of (λ p. length p.uses)) (take-length l.ops) ∙ go l.ops
  where
    go : (ps : List Op) → sum_of (λ p. length p.uses) ps ≡ length (flat_map (λ p. p.uses) ps)
    go [] = refl
    go (p ∷ ps) = rw length-append (ap (λ (k : ℕ). length p.uses + k) (go ps))

-- ---- the ranges of all uses

-- the uses of some operations, in their order
abbrev uses_of : List Op → List Use
uses_of ps = flat_map (λ p. p.uses) ps

-- each of the operations is in range
abbrev EachOk : List Op → Type 0
EachOk ps = (o : ℕ) → o < length ps → OpOk (get_or ps o no_op)

-- a use of the row is one of the first operation's, or of the others'
use_ok : (ps : List Op) → EachOk ps → (u : ℕ) → u < length (uses_of ps) → UseOk (get_or (uses_of ps) u no_use)
unfolding flat_map
use_ok [] each u h = absurd (not-suc-le-zero h)
use_ok (p ∷ ps) each u h = pick (dec_lt u (length p.uses)) (use_ok ps (λ o m. each (suc o) (omega arith)))
  where
    pick : Dec (u < length p.uses) → ((v : ℕ) → v < length (uses_of ps) → UseOk (get_or (uses_of ps) v no_use)) → UseOk (get_or (uses_of (p ∷ ps)) u no_use)
    pick (yes m) ih = rw (get_or-append p.uses (uses_of ps) no_use u m) ((each 0 (omega arith)).each u m)
    pick (no m) ih =
        let e : u ≡ length p.uses + (u - length p.uses) = omega arith in
        rw (e, get_or-append-add p.uses (uses_of ps)) (ih (u - length p.uses) (omega (arith, length-append p.uses (uses_of ps))))

-- each operation has at most four
uses_few : (ps : List Op) → EachOk ps → length (uses_of ps) ≤ 4 * length ps
unfolding flat_map
uses_few [] each = omega arith
uses_few (p ∷ ps) each =
    omega (arith, length-append p.uses (uses_of ps), (each 0 (omega arith)).few, uses_few ps (λ o m. each (suc o) (omega arith)))

-- each of all uses is in range
pub all_ok : (l : Loop) → LoopOk l → (u : ℕ) → u < length (all_uses l) → UseOk (get_or (all_uses l) u no_use)
unfolding all_uses
all_ok l ok = use_ok l.ops ok.op_ok

-- and there are at most 256
pub all_few : (l : Loop) → LoopOk l → length (all_uses l) ≤ 256
unfolding all_uses
all_few l ok = omega (arith, uses_few l.ops ok.op_ok, ok.few)
