-- Laws of tables of checks: the first refusal of tables one after the other, and of a table over a row of numbers; what makes a table passed; numbers out
-- of range. Assumes nothing.
use mathlib.Core.Path.{◌≡◌, refl, sym, ap, ◌∙◌}
use mathlib.Core.Bool.{Bool, true, false, not, cond}
use mathlib.Core.List.{List, [], ◌∷◌, ◌++◌, map, flat_map}
use mathlib.Core.Logic.{◌⊎◌, inl, inr}
use mathlib.Core.Option.{Option, none, some}
use Prim.Native.Nat.{ℕ, zero, suc, ◌+◌, ◌-◌, ◌≤◌, ◌<◌}
use native.Mathlib.Nat.{eq-or-lt_of_le}
use native.Mathlib.Omega.{arith}
use borrow.Author.Tests.{ltb-false, lt-ltb, le-ltb, lt-leb, eq-eqb}
use lib.Dec.{eqb, ltb}
use Rattle.model.specs.Lists.{up_from}
use Rattle.model.specs.Refusals.{Refusal, Check, if_found, outside, first_refusal, answered, settled}
use Rattle.model.proofs.Lists.{or_false_left, or_false_right, or_both, up_from_split, flat_map_append, flat_next}

-- ---- tables of checks

-- the first refusal of two tables, one after the other
pub refusal_append : (cs ds : List Check) → first_refusal cs ≡ none → first_refusal (cs ++ ds) ≡ first_refusal ds
unfolding first_refusal
refusal_append [] ds e = refl
refusal_append (c ∷ cs) ds e = pick c.fails e (refusal_append cs ds)
  where
    pick : (b : Bool) → cond b (some c.gives) (first_refusal cs) ≡ none → (first_refusal cs ≡ none → first_refusal (cs ++ ds) ≡ first_refusal ds)
        → cond b (some c.gives) (first_refusal (cs ++ ds)) ≡ first_refusal ds
    pick true q ih = let z : ◌≡◌ {A = ℕ} 0 1 = cc in absurd (omega arith)
    pick false q ih = ih q

pub refusal_early : (cs ds : List Check) (r : Refusal) → first_refusal cs ≡ some r → first_refusal (cs ++ ds) ≡ some r
unfolding first_refusal
refusal_early [] ds r e = let z : ◌≡◌ {A = ℕ} 0 1 = cc in absurd (omega arith)
refusal_early (c ∷ cs) ds r e = pick c.fails e (refusal_early cs ds r)
  where
    pick : (b : Bool) → cond b (some c.gives) (first_refusal cs) ≡ some r → (first_refusal cs ≡ some r → first_refusal (cs ++ ds) ≡ some r)
        → cond b (some c.gives) (first_refusal (cs ++ ds)) ≡ some r
    pick true q ih = q
    pick false q ih = ih q

-- what passes two tables passes each
pub passes_left : (cs ds : List Check) → first_refusal (cs ++ ds) ≡ none → first_refusal cs ≡ none
unfolding first_refusal
passes_left [] ds e = refl
passes_left (c ∷ cs) ds e = pick c.fails e (passes_left cs ds)
  where
    pick : (b : Bool) → cond b (some c.gives) (first_refusal (cs ++ ds)) ≡ none → (first_refusal (cs ++ ds) ≡ none → first_refusal cs ≡ none)
        → cond b (some c.gives) (first_refusal cs) ≡ none
    pick true q ih = q
    pick false q ih = ih q

pub passes_right : (cs ds : List Check) → first_refusal (cs ++ ds) ≡ none → first_refusal ds ≡ none
passes_right cs ds e = sym (refusal_append cs ds (passes_left cs ds e)) ∙ e

-- the first check of a table that is passed, and the others
pub passes_head : (c : Check) (cs : List Check) → first_refusal (c ∷ cs) ≡ none → c.fails ≡ false
unfolding first_refusal
passes_head c cs e = pick c.fails e
  where
    pick : (b : Bool) → cond b (some c.gives) (first_refusal cs) ≡ none → b ≡ false
    pick true q = let z : ◌≡◌ {A = ℕ} 0 1 = cc in absurd (omega arith)
    pick false q = refl

pub passes_tail : (c : Check) (cs : List Check) → first_refusal (c ∷ cs) ≡ none → first_refusal cs ≡ none
passes_tail c cs e = passes_right (c ∷ []) cs e

-- what passes the tables of a row passes each of them
pub passes_each : (t : ℕ → List Check) (a n k : ℕ) → first_refusal (flat_map t (up_from a n)) ≡ none → a ≤ k → k < a + n → first_refusal (t k) ≡ none
unfolding flat_map up_from
passes_each t a zero k e l m = absurd (omega arith)
passes_each t a (suc n) k e l m = pick (eq-or-lt_of_le l) (passes_each t (suc a) n k (passes_right (t a) (flat_map t (up_from (suc a) n)) e))
  where
    pick : (a ≡ k) ⊎ (a < k) → (suc a ≤ k → k < suc a + n → first_refusal (t k) ≡ none) → first_refusal (t k) ≡ none
    pick (inl q) ih = ap (λ (x : ℕ). first_refusal (t x)) (sym q) ∙ passes_left (t a) (flat_map t (up_from (suc a) n)) e
    pick (inr q) ih = ih q (omega arith)

-- ---- tables that are passed, from their checks

-- the empty table is passed
pub pass_none : first_refusal [] ≡ none
unfolding first_refusal
pass_none = refl

-- a check that passes, before a table that is passed
pub pass_cons : (c : Check) (cs : List Check) → c.fails ≡ false → first_refusal cs ≡ none → first_refusal (c ∷ cs) ≡ none
unfolding first_refusal
pass_cons c cs e p = rw e p

-- two tables, each passed
pub pass_append : (cs ds : List Check) → first_refusal cs ≡ none → first_refusal ds ≡ none → first_refusal (cs ++ ds) ≡ none
pass_append cs ds p q = refusal_append cs ds p ∙ q

-- the tables of a row, each passed
pub pass_each : (t : ℕ → List Check) (a n : ℕ) → ((k : ℕ) → a ≤ k → k < a + n → first_refusal (t k) ≡ none) → first_refusal (flat_map t (up_from a n)) ≡ none
unfolding flat_map up_from
pass_each t a zero h = pass_none
pass_each t a (suc n) h = pass_append (t a) (flat_map t (up_from (suc a) n)) (h a (omega arith) (omega arith)) (pass_each t (suc a) n (λ k l m. h k (omega arith) (omega arith)))

-- passing depends on the tests alone: the refusals that two tables would give, and so their details, may differ
pub same_tests : (cs ds : List Check) → map (λ c. c.fails) cs ≡ map (λ c. c.fails) ds → first_refusal cs ≡ none → first_refusal ds ≡ none
same_tests [] [] e p = p
same_tests [] (d ∷ ds) e p = let z : ◌≡◌ {A = ℕ} 0 1 = cc in absurd (omega arith)
same_tests (c ∷ cs) [] e p = let z : ◌≡◌ {A = ℕ} 0 1 = cc in absurd (omega arith)
same_tests (c ∷ cs) (d ∷ ds) e p =
    let h : d.fails ≡ c.fails = cc in
    let t : map (λ c. c.fails) cs ≡ map (λ c. c.fails) ds = cc in
    pass_cons d ds (h ∙ passes_head c cs p) (same_tests cs ds t (passes_tail c cs p))

-- a test whether two numbers differ fails where they are equal
pub same_passes : (a b : ℕ) → a ≡ b → not (eqb a b) ≡ false
same_passes a b e = rw (eq-eqb a b e)

-- from what the checks of a table ask for to the table that is passed
pub ruleset to_pass = (pass_none, pass_cons, pass_append, same_passes, or_both, le-ltb, lt-leb)

-- ---- tables of checks over a row, one number after the other

-- no table, no refusal
pub row_start : (t : ℕ → List Check) → first_refusal (flat_map t (up_from 0 0)) ≡ none
unfolding up_from flat_map
row_start t = pass_none

-- what passes the tables of a row and the next table passes the row with that one
pub row_next : (t : ℕ → List Check) (n : ℕ) → first_refusal (flat_map t (up_from 0 n)) ≡ none → first_refusal (t n) ≡ none → first_refusal (flat_map t (up_from 0 (n + 1))) ≡ none
row_next t n p q = rw (flat_next t n, refusal_append (flat_map t (up_from 0 n)) (t n) p) q

-- the first refusal of a row is that of the first table that is not passed
pub row_refused : (t : ℕ → List Check) (k n : ℕ) (r : Refusal) → k < n → first_refusal (flat_map t (up_from 0 k)) ≡ none → first_refusal (t k) ≡ some r
    → first_refusal (flat_map t (up_from 0 n)) ≡ some r
row_refused t k n r l p q =
    let e : n ≡ k + 1 + (n - (k + 1)) = omega arith in
    ap (λ (m : ℕ). first_refusal (flat_map t (up_from 0 m))) e
    ∙ ap (λ (xs : List ℕ). first_refusal (flat_map t xs)) (up_from_split 0 (k + 1) (n - (k + 1)))
    ∙ ap first_refusal (flat_map_append t (up_from 0 (k + 1)) (up_from (0 + (k + 1)) (n - (k + 1))))
    ∙ refusal_early (flat_map t (up_from 0 (k + 1))) (flat_map t (up_from (0 + (k + 1)) (n - (k + 1)))) r
    (rw (flat_next t k, refusal_append (flat_map t (up_from 0 k)) (t k) p) q)

-- ---- what a table settles

-- an answer that is no refusal: nothing refuses, and it is the answer that was to be given
pub settled_answer : {A : Type 0} (o : Option Refusal) (a b : A) → settled o a ≡ answered b → (o ≡ none) × (a ≡ b)
settled_answer none a b e = (refl, cc)
settled_answer (some r) a b e = let z : ◌≡◌ {A = ℕ} 0 1 = cc in absurd (omega arith)

-- ---- a check that fails where something is found

-- it passes only where nothing is
pub not_found : (n : ℕ) (x : Option ℕ) → (if_found n x).fails ≡ false → x ≡ none
not_found n none e = refl
not_found n (some d) e = let z : ◌≡◌ {A = ℕ} 0 1 = cc in absurd (omega arith)

-- what is found is the detail
pub found_refused : (n : ℕ) (x : Option ℕ) (d : ℕ) (rest : List Check) → x ≡ some d → first_refusal (if_found n x ∷ rest) ≡ some (record { number = n; detail = d })
unfolding first_refusal
found_refused n x d rest e = rw e

pub found_passed : (n : ℕ) (x : Option ℕ) (rest : List Check) → x ≡ none → first_refusal (if_found n x ∷ rest) ≡ first_refusal rest
unfolding first_refusal
found_passed n x rest e = rw e

-- ---- a number out of range

module _ (most x : ℕ) where
  -- 0 is outside
  pub too_small : x < 1 → outside most x ≡ true
  too_small h = rw (lt-ltb x 1 h)

  -- and so is a number above the most
  pub too_large : 1 ≤ x → most < x → outside most x ≡ true
  too_large a h = rw (le-ltb x 1 a, lt-ltb most x h)

  -- no other is
  pub in_range : 1 ≤ x → x ≤ most → outside most x ≡ false
  in_range a b = rw (le-ltb x 1 a, le-ltb most x b)

  -- a number that is not outside is at most the most, and at least 1
  pub at_most : outside most x ≡ false → x ≤ most
  at_most e = ltb-false most x (or_false_right (ltb x 1) (ltb most x) e)

  pub at_least : outside most x ≡ false → 1 ≤ x
  at_least e = ltb-false x 1 (or_false_left (ltb x 1) (ltb most x) e)
