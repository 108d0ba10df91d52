-- Conflicts of a pair by uses and cycles: what the walk over pairs tests. Assumes nothing.
use mathlib.Core.Path.{◌≡◌, refl, sym, ap, ◌∙◌}
use mathlib.Core.Bool.{Bool, true, false, cond}
use mathlib.Core.List.{List}
use mathlib.Core.Option.{Option, none, some}
use Prim.Native.Nat.{ℕ, ◌+◌, ◌*◌, ◌-◌, ◌≤◌, ◌<◌}
use native.Mathlib.Decide.{ℕ_discrete, dec_lt}
use native.Mathlib.Omega.{arith}
use lib.Dec.{leb, ltb}
use lib.ListN.{length, get_or, take}
use borrow.Author.Tests.{eq-eqb, ne_eqb, ltb-false, le-ltb, le-leb, lt-leb}
use Rattle.model.specs.Lists.{up_from, pairs, any_of}
use Rattle.model.specs.Loop.{Use, Op, Loop, no_use, size, op_at, use_at, all_uses, first_use_of, OpOk, LoopOk}
use Rattle.model.specs.File.{loop_of, Accepted}
use Rattle.model.specs.Legality.{Placing, placed, conflict, self_conflict, conflict_at, self_conflict_at, pair_conflict}
use Rattle.model.proofs.Lists.{same_test, any_at, at_any, any_row, row_any, row_some, first_none, pairs_any, pairs_first}
use Rattle.model.proofs.File.{accepted_ok}
use Rattle.model.proofs.StartLists.{placed_take}
use Rattle.reservation.specs.Overlaps.{use_meets}
use Rattle.reservation.proofs.Overlaps.{two_uses}
use lib.Seq.{get_or-take}
use Rattle.model.specs.Refusals.{answered}
use Rattle.model.specs.Counts.{single, unused, used_by, number_of, own_clash, pair_clash}
use Rattle.model.specs.Verifier.{clash_at, first_pair, pair_place}
use Rattle.model.specs.Verifier as model
use Rattle.std.specs.Prelude as code
use Rattle.reservation.specs.declared.Place.{Place}
use Rattle.reservation.specs.Place.{place_of, place_is, InRange, number_in}
use Rattle.reservation.proofs.TakenCells.{found_range}
use Rattle.reservation.proofs.UseNumbers.{OwnUses, own_uses, own_at}
use borrow.Author.Count.{below_more}
use Rattle.verifier.specs.Walk.{one_each, meets_at, Proposal}

-- ---- a pair

-- the tests of a pair: each cycle of each use of the first against the second
abbrev pub walk_pair : ℕ → (a b : ℕ) → Op → Op → ℕ → ℕ → Bool
walk_pair ii a b p q s t = any_of (λ j. any_of (λ k. meets_at ii a b q s t (use_at p j) k) (up_from 0 (use_at p j).duration)) (up_from 0 (length p.uses))

module _ (ii : ℕ) (pos : 1 ≤ ii) (p q : Op) (ok : OpOk p) (s t : ℕ) where
  -- two operations conflict exactly where a cycle of a use of the first meets the second
  pub walk_two : (a b : ℕ) → (a ≡ b → ⊥) → conflict ii p s q t ≡ walk_pair ii a b p q s t
  unfolding use_meets
  walk_two a b n = rw (ne_eqb a b n) (two_uses ii pos p q ok s t)

  -- an operation conflicts with itself exactly where a use comes to a cycle of the interval or later
  pub walk_self : (a : ℕ) → self_conflict ii p ≡ walk_pair ii a a p q s t
  unfolding self_conflict
  walk_self a = rw (eq-eqb a a refl) (same_test (any_of (λ u. ltb ii u.duration) p.uses) (any_of uses_test (up_from 0 (length p.uses))) away toward)
    where
      uses_test : ℕ → Bool
      uses_test j = any_of (λ k. leb ii k) (up_from 0 (use_at p j).duration)

      away : any_of (λ u. ltb ii u.duration) p.uses ≡ false → any_of uses_test (up_from 0 (length p.uses)) ≡ false
      away e =
          row_any uses_test 0 (length p.uses) (λ j x y. row_any (λ k. leb ii k) 0 (use_at p j).duration (λ k v w.
          lt-leb ii k (omega (arith, ltb-false ii (use_at p j).duration (any_at (λ u. ltb ii u.duration) p.uses j no_use e (omega arith))))))

      toward : any_of uses_test (up_from 0 (length p.uses)) ≡ false → any_of (λ u. ltb ii u.duration) p.uses ≡ false
      toward e = at_any (λ u. ltb ii u.duration) p.uses no_use (λ j l. le-ltb ii (use_at p j).duration (short j l (dec_lt ii (use_at p j).duration)))
        where
          short : (j : ℕ) → j < length p.uses → Dec (ii < (use_at p j).duration) → (use_at p j).duration ≤ ii
          short j l (no m) = omega arith
          short j l (yes m) =
              let u : any_of (λ k. leb ii k) (up_from 0 (use_at p j).duration) ≡ false = any_row uses_test 0 (length p.uses) j e (omega arith) (omega arith) in
              let f : leb ii ii ≡ false = any_row (λ k. leb ii k) 0 (use_at p j).duration ii u (omega arith) (omega arith) in
              let g : leb ii ii ≡ true = le-leb ii ii (omega arith) in
              cc

-- the same of a pair of placed operations
pub pair_walk : (l : Loop) (ii : ℕ) (f : Placing) (a b s t : ℕ) → 1 ≤ ii → OpOk (op_at l a) → f a ≡ some s → f b ≡ some t
    → pair_conflict l ii f (a, b) ≡ walk_pair ii a b (op_at l a) (op_at l b) s t
pair_walk l ii f a b s t pos ok x y = go (ℕ_discrete a b)
  where
    go : Dec (a ≡ b) → pair_conflict l ii f (a, b) ≡ walk_pair ii a b (op_at l a) (op_at l b) s t
    go (yes e) =
        ap (λ (c : Bool). cond c (self_conflict_at ii (op_at l a) (f a)) (conflict_at ii (op_at l a) (f a) (op_at l b) (f b))) (eq-eqb a b e)
        ∙ ap (self_conflict_at ii (op_at l a)) x ∙ walk_self ii pos (op_at l a) (op_at l b) ok s t a
        ∙ ap (λ (c : ℕ). walk_pair ii a c (op_at l a) (op_at l b) s t) e
    go (no n) =
        ap (λ (c : Bool). cond c (self_conflict_at ii (op_at l a) (f a)) (conflict_at ii (op_at l a) (f a) (op_at l b) (f b))) (ne_eqb a b n)
        ∙ ap (λ (c : Option ℕ). conflict_at ii (op_at l a) c (op_at l b) (f b)) x ∙ ap (λ (c : Option ℕ). conflict_at ii (op_at l a) (some s) (op_at l b) c) y
        ∙ walk_two ii pos (op_at l a) (op_at l b) ok s t a b n

-- ---- the pairs of the walk

-- whether a pair of the first starts conflicts
abbrev pub clash : Loop → ℕ → List ℕ → ℕ × ℕ → Bool
clash l ii xs = pair_conflict l ii (placed (take (size l) xs))

-- whether cycle k of use u of all, one of operation a, meets operation b
abbrev pub hit : Loop → ℕ → List ℕ → (a b u k : ℕ) → Bool
hit l ii xs a b u k = meets_at ii a b (op_at l b) (get_or xs a 0) (get_or xs b 0) (get_or (all_uses l) u no_use) k

-- no cycle of use u before k does
pub record CyclesPass (l : Loop) (ii : ℕ) (xs : List ℕ) (a b u k : ℕ) : Type 0 where
  pub each : (c : ℕ) → c < k → hit l ii xs a b u c ≡ false

-- no cycle of a use does, from number `first` on and before u
pub record UsesPass (l : Loop) (ii : ℕ) (xs : List ℕ) (a b first u : ℕ) : Type 0 where
  pub each : (v : ℕ) → v < u → first ≤ v → CyclesPass l ii xs a b v (get_or (all_uses l) v no_use).duration

-- operation a does not conflict with one from a on and before b
pub record Beside (l : Loop) (ii : ℕ) (xs : List ℕ) (a b : ℕ) : Type 0 where
  pub each : (d : ℕ) → d < b → a ≤ d → clash l ii xs (a, d) ≡ false

-- no operation before a does with one from it on
pub record Before (l : Loop) (ii : ℕ) (xs : List ℕ) (a : ℕ) : Type 0 where
  pub each : (c : ℕ) → c < a → Beside l ii xs c (size l)

module _ (f : List ℕ) {ii : ℕ} {xs : List ℕ} {a : ℕ} (file : Accepted f) (asked : Proposal (loop_of f) ii xs) where
  -- a pair conflicts exactly where the walk over its uses and cycles says so
  clash_walk : (b : ℕ) → a ≤ b → b < size (loop_of f)
      → clash (loop_of f) ii xs (a, b) ≡ walk_pair ii a b (op_at (loop_of f) a) (op_at (loop_of f) b) (get_or xs a 0) (get_or xs b 0)
  clash_walk b m h =
      let l = loop_of f in
      let g : a < size l = omega arith in
      pair_walk l ii (placed (take (size l) xs)) a b (get_or xs a 0) (get_or xs b 0) asked.some ((accepted_ok f file).op_ok a g)
      (placed_take (size l) xs a asked.all g) (placed_take (size l) xs b asked.all h)

  module _ {first n : ℕ} (at : first ≡ first_use_of (loop_of f) a) (of : n ≡ length (op_at (loop_of f) a).uses) {b : ℕ} (m : a ≤ b) (h : b < size (loop_of f)) where
    own : OwnUses f a first n
    own = own_uses f a first n file (omega arith) at of

    -- whether cycle k of use j of operation a does
    abbrev turn : ℕ → ℕ → Bool
    turn j k = meets_at ii a b (op_at (loop_of f) b) (get_or xs a 0) (get_or xs b 0) (use_at (op_at (loop_of f) a) j) k

    -- no cycle of any use does: one operation more that a does not conflict with
    pub beside_next : {u : ℕ} → first + n ≤ u → UsesPass (loop_of f) ii xs a b first u → Beside (loop_of f) ii xs a b → Beside (loop_of f) ii xs a (b + 1)
    beside_next all pass beside = record { each = below_more _ b beside.each (λ q. hits_none) }
      where
        hits_none : clash (loop_of f) ii xs (a, b) ≡ false
        hits_none =
            clash_walk b m h
            ∙ row_any (λ j. any_of (turn j) (up_from 0 (use_at (op_at (loop_of f) a) j).duration)) 0 (length (op_at (loop_of f) a).uses) (λ j x y.
            row_any (turn j) 0 (use_at (op_at (loop_of f) a) j).duration (λ k v w.
            let e : use_at (op_at (loop_of f) a) j ≡ get_or (all_uses (loop_of f)) (first + j) no_use = own.is j (omega (arith, own.count)) in
            rw e ((pass.each (first + j) (omega (arith, own.count)) (omega arith)).each k (omega (arith, ap (λ (u : Use). u.duration) e)))))

    -- some cycle of one does: it is the first pair that conflicts
    pub walk_found : (u k : ℕ) → first ≤ u → u < first + n → k < (get_or (all_uses (loop_of f)) u no_use).duration → true ≡ hit (loop_of f) ii xs a b u k
        → Before (loop_of f) ii xs a → Beside (loop_of f) ii xs a b → some (a, b) ≡ first_pair (loop_of f) ii (one_each (loop_of f) xs)
    unfolding first_pair
    walk_found u k low high lasts e before beside =
        sym (pairs_first (clash (loop_of f) ii xs) (size (loop_of f)) a b m h (λ c d x y z. (before.each c x).each d z y) (λ d x y. beside.each d y x) hit_some)
      where
        is_use : use_at (op_at (loop_of f) a) (u - first) ≡ get_or (all_uses (loop_of f)) u no_use
        is_use = own_at own u low high

        hit_some : clash (loop_of f) ii xs (a, b) ≡ true
        hit_some =
            clash_walk b m h
            ∙ row_some (λ j. any_of (turn j) (up_from 0 (use_at (op_at (loop_of f) a) j).duration)) (length (op_at (loop_of f) a).uses) (u - first) (omega (arith, own.count))
            (row_some (turn (u - first)) (use_at (op_at (loop_of f) a) (u - first)).duration k (omega (arith, ap (λ (v : Use). v.duration) is_use)) (rw is_use (sym e)))

-- there is none, where the walk passes all pairs
pub walk_none : (l : Loop) {ii : ℕ} {xs : List ℕ} {n : ℕ} → size l ≤ n → Before l ii xs n → none ≡ first_pair l ii (one_each l xs)
unfolding first_pair
walk_none l {ii} {xs} all before = sym (first_none (clash l ii xs) (pairs (size l)) (pairs_any (clash l ii xs) (size l) (λ a b x y. (before.each a (omega arith)).each b y x)))

-- ---- the place of a pair

-- of an operation with itself
pub pair_own : (l : Loop) (ii : ℕ) (xs : List ℕ) (a b : ℕ) → a ≤ b → b ≤ a → pair_place l ii xs (a, b) ≡ own_clash ii (op_at l b) (get_or xs b 0)
unfolding pair_place
pair_own l ii xs a b m n = let e : a ≡ b = omega arith in rw (eq-eqb a b e)

-- of two
pub pair_two : (l : Loop) (ii : ℕ) (xs : List ℕ) (a b : ℕ) → a < b → b < size l
    → pair_place l ii (one_each l xs) (a, b) ≡ pair_clash ii (op_at l a) (get_or xs a 0) (op_at l b) (get_or xs b 0)
unfolding pair_place
pair_two l ii xs a b m h =
    let n : a ≡ b → ⊥ = λ e. omega arith in
    let g : a < size l = omega arith in
    rw (ne_eqb a b n, get_or-take (size l) xs a 0 g, get_or-take (size l) xs b 0 h)

-- in range, of either
pub pair_range : (l : Loop) (ii : ℕ) (xs : List ℕ) (a b : ℕ) → LoopOk l → b < size l → (r : code.Option Place) → place_of r ≡ place_is (pair_place l ii xs (a, b)) → InRange r
unfolding pair_place
pair_range l ii xs a b ok h r e = go (ℕ_discrete a b)
  where
    go : Dec (a ≡ b) → InRange r
    go (yes q) = found_range single unused true ii (op_at l b) (get_or xs b 0) (ok.op_ok b h) r (rw (eq-eqb a b q) at e)
    go (no n) = found_range single (used_by ii (op_at l a) (get_or xs a 0)) false ii (op_at l b) (get_or xs b 0) (ok.op_ok b h) r (rw (ne_eqb a b n) at e)

-- said as a verdict with its number
pub conflict_says : (a b : ℕ) (r : code.Option Place) (q : Option (ℕ × Use)) → place_of r ≡ place_is q → answered (model.clash a b (number_in r)) ≡ answered (clash_at (a, b) (number_of q))
conflict_says a b code.None none e = refl
conflict_says a b code.None (some q) e = cc
conflict_says a b (code.Some p) none e = cc
conflict_says a b (code.Some p) (some q) e =
    let same : ◌≡◌ {A = ℕ × ℕ} (p.cycle, p.slot) (q.0, q.1.slot) = cc in
    ap (λ (x : ℕ × ℕ). answered (model.clash a b (32 * x.0 + x.1))) same
