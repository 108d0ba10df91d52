-- A table of checks of which a function answers the first ones: a refusal is that of the whole table, and where there is none the rest decides; the same for a loop over a row of tables. Assumes nothing.
use mathlib.Core.Path.{◌≡◌, sym, ap, ◌∙◌}
use mathlib.Core.List.{List, [], ◌∷◌, ◌++◌, flat_map}
use mathlib.Core.Option.{none, some}
use Prim.Native.Nat.{ℕ, ◌≤◌, ◌<◌}
use mathlib.Core.Bool.{true≢false}
use Rattle.std.specs.Prelude.{Result, Ok, Err, IsErr, IsErrAnd, IfErr}
use borrow.Author.Tests.{ltb-false}
use Rattle.model.specs.Lists.{up_from}
use Rattle.model.specs.Refusals.{Check, lent, first_refusal, refused}
use Rattle.model.proofs.Checks.{refusal_append, refusal_early, passes_head, row_refused}
use Rattle.refusals.specs.Told.{told, refusal_of, answer_of}
use Rattle.refusals.specs.declared.Refusal.{Refusal}

-- a check that is fine: its table is passed
pub fine_passes : {A : Type 0} (cs : List Check) {c : Result A Refusal} {a : A} → c ≡ Ok a → refusal_of c ≡ first_refusal cs → first_refusal cs ≡ none
fine_passes cs e h = sym h ∙ ap refusal_of e

-- the function `passed_on` keeps the refusal
pub refusal_kept : {A B : Type 0} (c : Result A Refusal) (r : Result B Refusal) → IsErr c → IsErrAnd r (λ y. IfErr c (λ x. y ≡ x)) → refusal_of r ≡ refusal_of c
refusal_kept (Ok a) r e h = absurd (true≢false (sym e))
refusal_kept (Err x) (Ok b) e h = absurd h
refusal_kept (Err x) (Err y) e h = ap (λ z. some (told z)) h

-- so it does for an answer, however its values are seen
pub answer_kept : {A B C : Type 0} (f : B → C) (c : Result A Refusal) (r : Result B Refusal) {x : Refusal} → c ≡ Err x → IsErrAnd r (λ y. IfErr c (λ z. y ≡ z)) → answer_of f r ≡ refused (told x)
answer_kept f c (Ok b) e h = absurd h
answer_kept f c (Err y) e h = ap (λ z. refused (told z)) (rw e at h)

module _ {A : Type 0} {c : Result A Refusal} (first rest : List Check) (is : refusal_of c ≡ first_refusal first) where
  -- it is refused
  pub refused_first : {r : Refusal} → c ≡ Err r → refusal_of c ≡ first_refusal (first ++ rest)
  refused_first e = ap refusal_of e ∙ sym (refusal_early first rest _ (sym is ∙ ap refusal_of e))

  -- it is refused, and `?` passes that on
  pub passed_on : {B : Type 0} (r : Result B Refusal) {e : Refusal} → c ≡ Err e → IsErrAnd r (λ y. y ≡ e) → refusal_of r ≡ first_refusal (first ++ rest)
  passed_on (Ok b) e h = absurd h
  passed_on (Err y) e h = ap (λ z. some (told z)) h ∙ sym (ap refusal_of e) ∙ refused_first e

  -- the same where the function `passed_on` passes it on
  pub kept_first : {B : Type 0} (r : Result B Refusal) {e : Refusal} → c ≡ Err e → IsErrAnd r (λ y. IfErr c (λ x. y ≡ x)) → refusal_of r ≡ first_refusal (first ++ rest)
  kept_first r e h = refusal_kept c r (rw e) h ∙ refused_first e

  -- nothing is against it
  pub rest_decides : {a : A} → c ≡ Ok a → first_refusal (first ++ rest) ≡ first_refusal rest
  rest_decides e = refusal_append first rest (fine_passes first e is)

-- what lent memory has where nothing is against it
pub lent_fine : {A : Type 0} {c : Result A Refusal} {a : A} (needs has : ℕ) → refusal_of c ≡ first_refusal (lent needs has ∷ []) → c ≡ Ok a → needs ≤ has
lent_fine needs has is e = ltb-false has needs (passes_head _ _ (fine_passes (lent needs has ∷ []) e is))

-- ---- a row of tables, which a loop goes through one number after the other, with a check that answers for one table

-- a check that is refused after tables that are passed: it is what the row comes to
pub row_refused_as : {A : Type 0} (t : ℕ → List Check) (k n : ℕ) {c : Result A Refusal} {r : Refusal} → k < n → first_refusal (flat_map t (up_from 0 k)) ≡ none
    → c ≡ Err r → refusal_of c ≡ first_refusal (t k) → refusal_of c ≡ first_refusal (flat_map t (up_from 0 n))
row_refused_as t k n l p e h = ap refusal_of e ∙ sym (row_refused t k n _ l p (sym h ∙ ap refusal_of e))

-- the same where `?` passes it on
pub row_passed_on : {A B : Type 0} (t : ℕ → List Check) (k n : ℕ) {c : Result A Refusal} (r : Result B Refusal) {e : Refusal} → k < n → first_refusal (flat_map t (up_from 0 k)) ≡ none
    → c ≡ Err e → IsErrAnd r (λ y. y ≡ e) → refusal_of c ≡ first_refusal (t k) → refusal_of r ≡ first_refusal (flat_map t (up_from 0 n))
row_passed_on t k n (Ok b) l p e h is = absurd h
row_passed_on t k n (Err y) l p e h is = ap (λ z. some (told z)) h ∙ sym (ap refusal_of e) ∙ row_refused_as t k n l p e is

-- a row whose tables are all passed
pub row_passed : (t : ℕ → List Check) (k n : ℕ) → k ≡ n → first_refusal (flat_map t (up_from 0 k)) ≡ none → none ≡ first_refusal (flat_map t (up_from 0 n))
row_passed t k n e p = sym (rw e at p)
