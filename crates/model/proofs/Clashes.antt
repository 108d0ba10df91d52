-- Refusal 17 and the judge's clash are given exactly where there is a conflict; so the place is all that is new in them. Assumes nothing.
use mathlib.Core.Path.{◌≡◌, refl, sym, ap, ap₂, ◌∙◌}
use mathlib.Core.Bool.{Bool, true, false, not, ◌&&◌}
use mathlib.Core.List.{List}
use mathlib.Core.Option.{Option, none, some}
use Prim.Native.Nat.{ℕ, ◌≤◌, ◌<◌}
use native.Mathlib.Decide.{ℕ_discrete}
use native.Mathlib.Omega.{arith}
use borrow.Author.Tests.{eq-eqb, ne_eqb, le-leb, lt-ltb, leb-true, ltb-true, not-false}
use lib.Dec.{leb, ltb}
use lib.ListN.{length, get_or}
use Rattle.model.specs.Lists.{pairs}
use Rattle.model.specs.Loop.{Use, Op, Loop, size, op_at, OpOk, LoopOk}
use Rattle.model.specs.Legality.{Placing, placed, footprint, conflict, self_conflict, pair_conflict, conflicts}
use Rattle.model.specs.Counts.{place_number, number_of, place_clash, own_clash, pair_clash}
use Rattle.model.specs.Session.{clashed}
use Rattle.model.specs.Verifier.{clash, clash_at, judge, first_broken, first_pair, pair_place, verdict}
use Rattle.model.proofs.Lists.{true_false, and_left, and_right, any_at, pairs_any}
use Rattle.model.proofs.Firsts.{first_is}
use Rattle.model.proofs.StartLists.{placed_in_lem}
use Rattle.model.proofs.Room.{taken_conflicts, conflicts_taken, taken_self, self_taken, taken_share}

-- ---- refusal 17

-- it is given exactly where a test fails that fails where nothing is taken
clashed_where : (q : Option (ℕ × Use)) (b : Bool) → (q ≡ none → b ≡ false) → (b ≡ false → q ≡ none) → (clashed q).fails ≡ b
clashed_where none b g h = sym (g refl)
clashed_where (some q) true g h = refl
clashed_where (some q) false g h =
    let e : ◌≡◌ {A = Option (ℕ × Use)} (some q) none = h refl in
    let z : ◌≡◌ {A = ℕ} 0 1 = cc in absurd (omega arith)

-- placing is refused so exactly where the operation conflicts with itself or with a placed one
pub place_clashed : (l : Loop) (ii : ℕ) → LoopOk l → 1 ≤ ii → (f : Placing) (o t : ℕ) → o < size l → f o ≡ none → (clashed (place_clash l ii f o t)).fails ≡ conflicts l ii f o t
place_clashed l ii ok pos f o t inside open_yet =
    clashed_where (place_clash l ii f o t) (conflicts l ii f o t) (taken_conflicts l ii ok pos f o t inside open_yet) (conflicts_taken l ii ok pos f o t inside open_yet)

-- and forcing where it conflicts with itself
pub force_clashed : (ii : ℕ) (p : Op) (t : ℕ) → OpOk p → 1 ≤ ii → (clashed (own_clash ii p t)).fails ≡ self_conflict ii p
force_clashed ii p t ok pos = clashed_where (own_clash ii p t) (self_conflict ii p) (taken_self ii p t ok pos) (self_taken ii p t ok)

-- ---- the judge's clash

-- what is known of a pair that is found
pub record PairFound (l : Loop) (ii : ℕ) (xs : List ℕ) (a b : ℕ) : Type 0 where
  pub ordered : a ≤ b
  pub inside : b < size l
  pub conflicting : pair_conflict l ii (placed xs) (a, b) ≡ true

module _ (l : Loop) (ii : ℕ) (xs : List ℕ) (a b : ℕ) where
  pub pair_found : first_pair l ii xs ≡ some (a, b) → PairFound l ii xs a b
  unfolding first_pair
  pair_found e =
      let i = first_is (pair_conflict l ii (placed xs)) (pairs (size l)) (0, 0) (a, b) e in
      let all = pairs_any outside (size l) (λ c d m n. rw (le-leb c d m, lt-ltb d (size l) n)) in
      let w = not-false (range (a, b)) (ap outside (sym i.is) ∙ any_at outside (pairs (size l)) i.at (0, 0) all i.inside) in
      record {
        ordered = leb-true a b (and_left (leb a b) (ltb b (size l)) w);
        inside = ltb-true b (size l) (and_right (leb a b) (ltb b (size l)) w);
        conflicting = i.passes;
      }
    where
      range : ℕ × ℕ → Bool
      range p = leb p.0 p.1 && ltb p.1 (size l)

      outside : ℕ × ℕ → Bool
      outside p = not (range p)

  -- it has a place
  pub pair_place_lem : LoopOk l → 1 ≤ ii → size l ≤ length xs → PairFound l ii xs a b → pair_place l ii xs (a, b) ≡ none → ⊥
  unfolding pair_place conflict
  pair_place_lem ok pos whole f e = go (ℕ_discrete a b)
    where
      s : ℕ
      s = get_or xs a 0

      t : ℕ
      t = get_or xs b 0

      at_a : placed xs a ≡ some s
      at_a = placed_in_lem xs a (omega (arith, f.ordered, f.inside))

      at_b : placed xs b ≡ some t
      at_b = placed_in_lem xs b (omega (arith, f.inside))

      b_ok : OpOk (op_at l b)
      b_ok = ok.op_ok b f.inside

      go : Dec (a ≡ b) → ⊥
      go (yes q) =
          let own : own_clash ii (op_at l b) t ≡ none = rw (eq-eqb a b q) at e in
          let met : self_conflict ii (op_at l b) ≡ true = rw (eq-eqb a b q, at_a, q) at f.conflicting in
          true_false (sym met ∙ taken_self ii (op_at l b) t b_ok pos own)
      go (no n) =
          let other : pair_clash ii (op_at l a) s (op_at l b) t ≡ none = rw (ne_eqb a b n) at e in
          let met : conflict ii (op_at l a) s (op_at l b) t ≡ true = rw (ne_eqb a b n, at_a, at_b) at f.conflicting in
          true_false (sym met ∙ taken_share ii (op_at l b) t b_ok (footprint ii (op_at l a) s) other)

  -- where no dependence is broken, and this pair is the first that conflicts, the judge says so with the number of its place
  pub clash_said : LoopOk l → 1 ≤ ii → size l ≤ length xs → first_broken l ii xs ≡ none → first_pair l ii xs ≡ some (a, b)
      → (q : ℕ × Use) × (pair_place l ii xs (a, b) ≡ some q) × (verdict l ii xs ≡ clash a b (place_number q))
  unfolding verdict
  clash_said ok pos whole d e = go (pair_place l ii xs (a, b)) refl
    where
      said : verdict l ii xs ≡ clash_at (a, b) (number_of (pair_place l ii xs (a, b)))
      said = ap₂ (λ (x : Option ℕ) (y : Option (ℕ × ℕ)). judge x y (λ p. number_of (pair_place l ii xs p))) d e

      go : (o : Option (ℕ × Use)) → pair_place l ii xs (a, b) ≡ o → (q : ℕ × Use) × (pair_place l ii xs (a, b) ≡ some q) × (verdict l ii xs ≡ clash a b (place_number q))
      go none h = absurd (pair_place_lem ok pos whole (pair_found e) h)
      go (some q) h = (q, h, said ∙ ap (λ (o : Option (ℕ × Use)). clash_at (a, b) (number_of o)) h)

  -- and nowhere else
  pub clash_only : (n : ℕ) → verdict l ii xs ≡ clash a b n → (first_broken l ii xs ≡ none) × (first_pair l ii xs ≡ some (a, b))
  unfolding verdict
  clash_only n e = go (first_broken l ii xs) (first_pair l ii xs) e
    where
      number : ℕ × ℕ → Option ℕ
      number p = number_of (pair_place l ii xs p)

      pair : (p : ℕ × ℕ) (o : Option ℕ) → clash_at p o ≡ clash a b n → p ≡ (a, b)
      pair p none h =
          let x : p.0 ≡ a = cc in
          let y : p.1 ≡ b = cc in ap₂ {B = ℕ} {C = ℕ × ℕ} (λ (u : ℕ) (v : ℕ). (u, v)) x y
      pair p (some m) h =
          let x : p.0 ≡ a = cc in
          let y : p.1 ≡ b = cc in ap₂ {B = ℕ} {C = ℕ × ℕ} (λ (u : ℕ) (v : ℕ). (u, v)) x y

      go : (d : Option ℕ) (p : Option (ℕ × ℕ)) → judge d p number ≡ clash a b n → (d ≡ none) × (p ≡ some (a, b))
      go (some x) none h = let z : ◌≡◌ {A = ℕ} 0 1 = cc in absurd (omega arith)
      go (some x) (some p) h = let z : ◌≡◌ {A = ℕ} 0 1 = cc in absurd (omega arith)
      go none none h = let z : ◌≡◌ {A = ℕ} 0 1 = cc in absurd (omega arith)
      go none (some p) h = (refl, ap (λ (x : ℕ × ℕ). some x) (pair p (number p) h))
