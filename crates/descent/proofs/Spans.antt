-- The starts that a dependence leaves to an operation, from the numbers that bound them. Assumes nothing.
use mathlib.Core.Path.{◌≡◌, sym, ap, ◌∙◌}
use mathlib.Core.Bool.{Bool, false, not, ◌&&◌, and-true, and_assoc, not-not}
use mathlib.Core.List.{List}
use mathlib.Core.Option.{none, some}
use Prim.Native.Nat.{ℕ, ◌+◌, ◌-◌, ◌*◌, ◌≤◌, ◌<◌, min, max}
use native.Mathlib.Decide.{ℕ_discrete}
use native.Mathlib.Omega.{arith}
use lib.Dec.{leb, ltb}
use lib.ListN.{length, get_or, take}
use lib.Seq.{length-take-le}
use borrow.Author.Tests.{le-leb, eq-eqb, ne_eqb}
use Rattle.std.proofs.lemmas.Bool.Decides.{nat_tests}
use Rattle.model.specs.Integers.{plus, minus}
use Rattle.model.specs.Lists.{up_from, any_of}
use Rattle.model.specs.Loop.{Dep, Loop, dep_at}
use Rattle.model.specs.Legality.{placed, holds, breaks}
use Rattle.model.proofs.StartLists.{placed_after, placed_take}
use Rattle.model.proofs.Lists.{any_next}
use Rattle.model.proofs.Signed.{leb_same, holds_parts}
use Rattle.descent.specs.Span.{inside, breaks_at, allowed, EarliestIs, TooLateIs, NarrowedIs, WindowIs}

-- whether a dependence of an operation with itself holds does not depend on its start
holds_self : (ii : ℕ) (d : Dep) (s t : ℕ) → holds ii d s s ≡ holds ii d t t
holds_self ii d s t =
    holds_parts ii d s s
    ∙ leb_same (s + plus d.delay) (s + ii * d.distance + minus d.delay) (t + plus d.delay) (t + ii * d.distance + minus d.delay) (λ h. omega arith) (λ h. omega arith)
    ∙ sym (holds_parts ii d t t)

-- ---- one dependence

-- what is known of dependence e where it narrows the window from .. to - 1 of op: the operations before op have starts, and its ends are x and y
pub record Narrowing (l : Loop) (ii e op : ℕ) (starts : List ℕ) (from to x y : ℕ) : Type 0 where
  pub room : op ≤ length starts
  pub source : x ≡ (dep_at l e).src
  pub target : y ≡ (dep_at l e).dst

module _ {l : Loop} {ii e op : ℕ} {starts : List ℕ} {from to x y : ℕ} (k : Narrowing l ii e op starts from to x y) where
  -- dependence e
  abbrev d : Dep
  d = dep_at l e

  -- whether op at s breaks it
  abbrev broke : ℕ → Bool
  broke s = breaks_at l ii (take op starts) s e

  -- the window becomes that from a to b - 1
  abbrev Becomes : ℕ → ℕ → Type 0
  Becomes a b = NarrowedIs l ii (take op starts) e from to a b

  -- the operation that follows the starts is op
  at_op : (s : ℕ) → broke s ≡ breaks ii (placed (take op starts)) op s d
  at_op s = ap (λ (n : ℕ). breaks ii (placed (take op starts)) n s d) (length-take-le op starts k.room)

  -- an operation before op has its start
  before : (p : ℕ) → p < op → placed (take op starts) p ≡ some (get_or starts p 0)
  before p h = placed_take op starts p k.room h

  -- an operation from op on has none
  after : (p : ℕ) → op ≤ p → placed (take op starts) p ≡ none
  after p h = placed_after (take op starts) p (rw (length-take-le op starts k.room) h)

  -- where the dependence is never broken, the window stays
  same : ((s : ℕ) → broke s ≡ false) → Becomes from to
  same h s = rw (h s, and-true (inside from to s))

  -- where "broken" is "not b", "not broken" is b
  kept : (s : ℕ) {b : Bool} → broke s ≡ not b → not (broke s) ≡ b
  kept s {b} e = ap not e ∙ not-not b

  -- neither end is op
  apart : (x ≡ op → ⊥) → (y ≡ op → ⊥) → Becomes from to
  apart p q = same (λ s. at_op s ∙ rw (ne_eqb d.src op (λ z. p (k.source ∙ z)), ne_eqb d.dst op (λ z. q (k.target ∙ z))))

  -- op is the source, and the target has no start
  free_target : x ≡ op → (y ≡ op → ⊥) → op ≤ y → Becomes from to
  free_target p q h =
      same (λ s. at_op s ∙ rw (eq-eqb d.src op (sym k.source ∙ p), ne_eqb d.dst op (λ z. q (k.target ∙ z)), after d.dst (omega (arith, k.target))))

  -- op is the target, and the source has no start
  free_source : (x ≡ op → ⊥) → y ≡ op → op ≤ x → Becomes from to
  free_source p q h =
      same (λ s. at_op s ∙ rw (ne_eqb d.src op (λ z. p (k.source ∙ z)), eq-eqb d.dst op (sym k.target ∙ q), after d.src (omega (arith, k.source))))

  -- op is neither both ends nor the later one
  pub elsewhere : (x ≡ op → y ≡ op → ⊥) → (x ≡ op → op ≤ y) → (y ≡ op → op ≤ x) → Becomes from to
  elsewhere n f g = pick (ℕ_discrete x op) (ℕ_discrete y op)
    where
      pick : Dec (x ≡ op) → Dec (y ≡ op) → Becomes from to
      pick (yes p) (yes q) = absurd (n p q)
      pick (yes p) (no q) = free_target p q (f p)
      pick (no p) (yes q) = free_source p q (g q)
      pick (no p) (no q) = apart p q

  module _ (r : ℕ) where
    -- op is both ends: the dependence holds at every start or at none
    kept_self : x ≡ op → y ≡ op → TooLateIs l ii e 0 r → (s : ℕ) → not (broke s) ≡ ltb 0 r
    kept_self p q h s =
        kept s (at_op s ∙ rw (eq-eqb d.src op (sym k.source ∙ p), eq-eqb d.dst op (sym k.target ∙ q)) (ap not (holds_self ii d s 0 ∙ sym (h 0))))

    -- r is 0, so it holds at none: the window becomes empty
    pub self_broken : x ≡ op → y ≡ op → TooLateIs l ii e 0 r → r ≡ 0 → Becomes from 0
    self_broken p q h z s = rw (kept_self p q h s) (grind (arith, nat_tests))

    -- r is not 0, so it holds at every start: the window stays
    pub self_kept : x ≡ op → y ≡ op → TooLateIs l ii e 0 r → (r ≡ 0 → ⊥) → Becomes from to
    self_kept p q h z s = rw (kept_self p q h s) (grind (arith, nat_tests))

    -- op is the source, and the target an earlier operation: the starts below r are kept
    kept_source : x ≡ op → y < op → TooLateIs l ii e (get_or starts y 0) r → (s : ℕ) → not (broke s) ≡ ltb s r
    kept_source p q h s =
        kept s (at_op s ∙ rw (eq-eqb d.src op (sym k.source ∙ p), sym k.target, ne_eqb y op (λ z. omega arith), before y q) (ap not (sym (h s))))

    -- so the window ends at r, if not before
    pub source_late : x ≡ op → y < op → TooLateIs l ii e (get_or starts y 0) r → Becomes from (min to r)
    source_late p q h s = rw (kept_source p q h s) (grind (arith, nat_tests))

    -- op is the target, and the source an earlier operation: the starts from r on are kept
    kept_target : x < op → y ≡ op → EarliestIs l ii e (get_or starts x 0) r → (s : ℕ) → not (broke s) ≡ leb r s
    kept_target p q h s =
        kept s (at_op s ∙ rw (sym k.source, ne_eqb x op (λ z. omega arith), eq-eqb d.dst op (sym k.target ∙ q), before x p) (ap not (sym (h s))))

    -- so the window begins at r, if not after
    pub target_early : x < op → y ≡ op → EarliestIs l ii e (get_or starts x 0) r → Becomes (max from r) to
    target_early p q h s = rw (kept_target p q h s) (grind (arith, nat_tests))

-- ---- the dependences in turn

module _ (l : Loop) (ii : ℕ) (xs : List ℕ) (h : ℕ) where
  -- one dependence more
  allowed_next : (k s : ℕ) → allowed l ii xs (k + 1) s ≡ (allowed l ii xs k s && not (breaks_at l ii xs s k))
  unfolding allowed any_of up_from
  allowed_next k s = rw any_next (grind (arith, nat_tests))

  -- before any dependence, the window has the starts below the horizon
  pub window_first : WindowIs l ii xs h 0 0 h
  unfolding allowed any_of up_from
  window_first s = rw (le-leb 0 s (omega arith), and-true (ltb s h))

  -- narrowed by dependence k, it is the window of one more
  pub window_next : (k a b c d : ℕ) → WindowIs l ii xs h k a b → NarrowedIs l ii xs k a b c d → WindowIs l ii xs h (k + 1) c d
  window_next k a b c d w n s =
      n s
      ∙ ap (λ (t : Bool). t && not (breaks_at l ii xs s k)) (w s)
      ∙ and_assoc (ltb s h) (allowed l ii xs k s) (not (breaks_at l ii xs s k))
      ∙ ap (λ (t : Bool). ltb s h && t) (sym (allowed_next k s))

  -- a window that has a start ends at or before the horizon
  pub window_end : (k a b : ℕ) → WindowIs l ii xs h k a b → a < b → b ≤ h
  window_end k a b w e = let v = w (b - 1) in grind (arith, nat_tests, v)
