-- The marks of the operations that have a dependence with another one which that breaks: one dependence after the other. Assumes nothing.
use mathlib.Core.Path.{◌≡◌, refl, sym, ap, ap₂, ◌∙◌, fun_ext}
use mathlib.Core.Bool.{Bool, true, false, ◌&&◌, ◌||◌, or-false, or-true, and-true, and-false}
use mathlib.Core.List.{List}
use Prim.Native.Nat.{ℕ, ◌+◌, ◌≤◌, ◌<◌}
use native.Mathlib.Decide.{ℕ_discrete}
use native.Mathlib.Omega.{arith}
use borrow.Author.Tests.{eq-eqb, ne_eqb, eqb-true}
use lib.Dec.{eqb}
use lib.ListN.{get_or, set, replicate, length-set, length-replicate}
use lib.Seq.{get_or-set_same, get_or-set_other}
use Rattle.model.specs.Lists.{up_from, any_of}
use Rattle.model.specs.Loop.{Dep, DepOk, Loop, size, dep_at}
use Rattle.model.specs.Legality.{Placing, broken, place_at, touches, breaks}
use Rattle.model.proofs.Lists.{and_left, get_or_filled, any_next}
use Rattle.model.proofs.Legality.{breaks_same}
use Rattle.reservation.specs.Seats.{seats}
use Rattle.board.specs.Moves.{hit_by, HitsAre}

-- ---- whether an operation is hit

module _ (l : Loop) (ii : ℕ) (g : Placing) (o t : ℕ) where
  -- by no dependence
  hit_none : (p : ℕ) → hit_by l ii g o t 0 p ≡ false
  unfolding hit_by any_of up_from
  hit_none p = refl

  -- by one dependence more
  hit_next : (k p : ℕ) → hit_by l ii g o t (k + 1) p ≡ (hit_by l ii g o t k p || (touches p (dep_at l k) && breaks ii g o t (dep_at l k)))
  unfolding hit_by
  hit_next k p = any_next (λ e. touches p (dep_at l e) && breaks ii g o t (dep_at l e)) k

-- ---- the ends of a dependence

-- two numbers that are not one, the other way round
other_way : (x p o : ℕ) → x ≡ o → (p ≡ o → ⊥) → eqb x p ≡ false
other_way x p o e n = ne_eqb x p (λ q. n (sym q ∙ e))

-- one that comes from o has another operation p at an end exactly where it leads to p
touches_target : (d : Dep) (o p : ℕ) → d.src ≡ o → (p ≡ o → ⊥) → touches p d ≡ eqb d.dst p
touches_target d o p e n = rw (other_way d.src p o e n)

-- one of o that does not come from it has another operation p at an end exactly where it comes from p
touches_source : (d : Dep) (o p : ℕ) → touches o d ≡ true → (d.src ≡ o → ⊥) → (p ≡ o → ⊥) → touches p d ≡ eqb d.src p
touches_source d o p h m n = rw (other_way d.dst p o there n) (or-false (eqb d.src p))
  where
    there : d.dst ≡ o
    there = eqb-true d.dst o (rw (ne_eqb d.src o m) at h)

-- ---- one dependence after the other

-- at first
pub mark_begin : (l : Loop) (ii o t : ℕ) (xs : List ℕ) → HitsAre l ii o t 0 xs (replicate 64 false)
mark_begin l ii o t xs = record {
  whole = length-replicate {A = Bool} 64 false;
  at = λ p inside other. get_or_filled 64 p false ∙ sym (hit_none l ii (seats xs) o t p);
}

module _ {l : Loop} {ii o t k : ℕ} {xs : List ℕ} {hits : List Bool} (h : HitsAre l ii o t k xs hits) where
  -- dependence k is not broken
  pub mark_skip : breaks ii (seats xs) o t (dep_at l k) ≡ false → HitsAre l ii o t (k + 1) xs hits
  mark_skip e = record {
    whole = h.whole;
    at = λ p inside other.
        h.at p inside other
        ∙ sym (hit_next l ii (seats xs) o t k p
        ∙ ap (λ (b : Bool). hit_by l ii (seats xs) o t k p || b) (ap (λ (b : Bool). touches p (dep_at l k) && b) e ∙ and-false (touches p (dep_at l k)))
        ∙ or-false (hit_by l ii (seats xs) o t k p));
  }

  -- it is, and q is its other end
  mark_set : (q : ℕ) → q < 64 → breaks ii (seats xs) o t (dep_at l k) ≡ true → ((p : ℕ) → (p ≡ o → ⊥) → touches p (dep_at l k) ≡ eqb q p)
      → HitsAre l ii o t (k + 1) xs (set hits q true)
  mark_set q small e ends = record { whole = length-set hits q true ∙ h.whole; at = λ p inside other. go p inside other (ℕ_discrete p q) }
    where
      test : (p : ℕ) → (p ≡ o → ⊥) → (b : Bool) → eqb q p ≡ b → (touches p (dep_at l k) && breaks ii (seats xs) o t (dep_at l k)) ≡ b
      test p other b q = ap₂ ◌&&◌ (ends p other ∙ q) e ∙ and-true b

      go : (p : ℕ) → p < size l → (p ≡ o → ⊥) → Dec (p ≡ q) → get_or (set hits q true) p false ≡ hit_by l ii (seats xs) o t (k + 1) p
      go p inside other (yes s) =
          ap (λ (x : ℕ). get_or (set hits q true) x false) s
          ∙ get_or-set_same hits q true false (omega (arith, h.whole))
          ∙ sym (hit_next l ii (seats xs) o t k p
          ∙ ap (λ (b : Bool). hit_by l ii (seats xs) o t k p || b) (test p other true (eq-eqb q p (sym s)))
          ∙ or-true (hit_by l ii (seats xs) o t k p))
      go p inside other (no n) =
          get_or-set_other hits q p true false n
          ∙ h.at p inside other
          ∙ sym (hit_next l ii (seats xs) o t k p
          ∙ ap (λ (b : Bool). hit_by l ii (seats xs) o t k p || b) (test p other false (ne_eqb q p (λ s. n (sym s))))
          ∙ or-false (hit_by l ii (seats xs) o t k p))

  module _ (ok : DepOk (size l) (dep_at l k)) (few : size l ≤ 64) (e : breaks ii (seats xs) o t (dep_at l k) ≡ true) where
    -- it comes from o: the operation that it leads to is marked
    pub mark_target : (dep_at l k).src ≡ o → HitsAre l ii o t (k + 1) xs (set hits (dep_at l k).dst true)
    mark_target from = mark_set (dep_at l k).dst (omega (arith, ok.target)) e (λ p n. touches_target (dep_at l k) o p from n)

    -- it does not: the operation that it comes from is
    pub mark_source : ((dep_at l k).src ≡ o → ⊥) → HitsAre l ii o t (k + 1) xs (set hits (dep_at l k).src true)
    mark_source from =
        mark_set (dep_at l k).src (omega (arith, ok.source)) e
        (λ p n. touches_source (dep_at l k) o p (and_left (touches o (dep_at l k)) (broken ii (place_at (seats xs) o t) (dep_at l k)) e) from n)

-- ---- only its own start counts

-- p is hit in both of two placings that agree at p, or in neither
pub hit_same : (ii : ℕ) (g k : Placing) (o t p : ℕ) → g p ≡ k p → (p ≡ o → ⊥) → (l : Loop) (n : ℕ) → hit_by l ii g o t n p ≡ hit_by l ii k o t n p
unfolding hit_by
hit_same ii g k o t p same other l n = ap (λ (q : ℕ → Bool). any_of q (up_from 0 n)) (fun_ext (λ e. breaks_same ii g k o t p same other (dep_at l e)))
