-- The release sheet: totals with one file more, that answers and sheet are determined, and that a legal schedule covers as many cells of a slot as its operations hold it for. Assumes nothing.
use mathlib.Core.Path.{◌≡◌, refl, sym, ap, ◌∙◌}
use mathlib.Core.Bool.{true}
use mathlib.Core.List.{List, [], ◌∷◌, ◌++◌}
use mathlib.Core.Option.{none, some}
use Prim.Native.Nat.{ℕ, suc, ◌+◌, ◌≤◌}
use native.Mathlib.Omega.{arith}
use lib.ListN.{length}
use Rattle.model.specs.Lists.{up_from, sum_of}
use Rattle.model.specs.Refusals.{Answer, answered}
use Rattle.model.specs.Loop.{Loop, size, LoopOk}
use Rattle.model.specs.Legality.{placed, meets, apart, legal_at, legal}
use Rattle.model.specs.Table.{count_of, cells_of, covered_at}
use Rattle.model.specs.Bounds.{total_on}
use Rattle.model.specs.Search.{Schedule, Outcome, SearchIs, rows_after}
use Rattle.model.specs.Sheet.{sheet_request, Item, Answers, no_more, one_more, Measure, measured, total_of, covered_on, SheetIs, by_check, by_files, rows_through}
use Rattle.model.proofs.Lists.{and_right, sum_append, sum_same}
use Rattle.model.proofs.Sums.{count_sum}
use Rattle.model.proofs.Table.{count_covered}
use Rattle.model.proofs.Conflicts.{apart_once}
use Rattle.model.proofs.Free.{rows_held, held_all}
use Rattle.model.proofs.Answers.{search_unique}

-- ---- totals

pub total_none : (m : Measure) → total_of m [] ≡ 0
unfolding total_of sum_of
total_none m = refl

-- one file more adds its measure
pub total_more : (m : Measure) (items : List Item) (x : Item) → total_of m (items ++ (x ∷ [])) ≡ total_of m items + measured m x
unfolding total_of sum_of
total_more m items x = sum_append (measured m) items (x ∷ []) ∙ omega arith

-- ---- answers

pub answers_length : {rows : ℕ} {fs : List (List ℕ)} {items : List Item} → Answers rows fs items → length items ≡ length fs
answers_length no_more = refl
answers_length (one_more is rest) = ap suc (answers_length rest)

pub answers_more : {rows : ℕ} {fs : List (List ℕ)} {items : List Item} {f : List ℕ} {a : Answer Outcome}
    → Answers rows fs items → SearchIs f sheet_request 64 rows a → Answers rows (fs ++ (f ∷ [])) (items ++ ((f, a) ∷ []))
answers_more no_more new = one_more new no_more
answers_more (one_more is rest) new = one_more is (answers_more rest new)

-- files have one list of answers
pub answers_unique : {rows : ℕ} {fs : List (List ℕ)} {xs ys : List Item} → Answers rows fs xs → Answers rows fs ys → xs ≡ ys
answers_unique no_more no_more = refl
answers_unique {rows} (one_more {f} {items = xs} {a} p ps) (one_more {f = g} {a = b} q qs) =
    ap (λ (c : Answer Outcome). (f, c) ∷ xs) (search_unique f sheet_request 64 rows a b p q) ∙ ap (λ (zs : List Item). (f, b) ∷ zs) (answers_unique ps qs)

-- and a bundle one sheet
pub sheet_unique : (b : List ℕ) (rows : ℕ) (x y : Answer (List Item)) → SheetIs b rows x → SheetIs b rows y → x ≡ y
sheet_unique b rows x y (by_check r p d) (by_check s q e) = cc
sheet_unique b rows x y (by_check r p d) (by_files ys q bs e) = let z : none ≡ some r = sym q ∙ p in let o : ◌≡◌ {A = ℕ} 0 1 = cc in absurd (omega arith)
sheet_unique b rows x y (by_files xs p ps d) (by_check s q e) = let z : none ≡ some s = sym p ∙ q in let o : ◌≡◌ {A = ℕ} 0 1 = cc in absurd (omega arith)
sheet_unique b rows x y (by_files xs p ps d) (by_files ys q bs e) = d ∙ ap answered (answers_unique ps bs) ∙ sym e

-- the searches of the files before, then one more
pub through_more : (items : List Item) (f : List ℕ) (a : Answer Outcome) (old : List ℕ) → rows_through (items ++ ((f, a) ∷ [])) old ≡ rows_after a (rows_through items old)
through_more [] f a old = refl
through_more ((g, b) ∷ items) f a old = through_more items f a (rows_after b old)

-- ---- covered cells

-- in a legal schedule of all operations a slot has as many covered cells as the durations on it come to
pub covered_total : (l : Loop) (s : Schedule) (k : ℕ) → LoopOk l → 1 ≤ s.ii → length s.starts ≡ size l → legal l s.ii s.starts ≡ true → covered_on k l s ≡ total_on l k
unfolding covered_on legal_at
covered_total l s k ok pos all fine =
    count_sum (covered_at l s.ii (placed s.starts) k) (up_from 0 s.ii)
    ∙ sum_same _ (λ r. count_of k r (cells_of l s.ii (placed s.starts))) 0 s.ii (λ r a b. sym (count_covered l s.ii (placed s.starts) k r (once k r)))
    ∙ rows_held s.ii k l (placed s.starts) ok pos
    ∙ held_all l s.starts k all
  where
    once : (k r : ℕ) → count_of k r (cells_of l s.ii (placed s.starts)) ≤ 1
    once = apart_once l s.ii (placed s.starts) ok (and_right (meets l s.ii (placed s.starts)) (apart l s.ii (placed s.starts)) fine)
