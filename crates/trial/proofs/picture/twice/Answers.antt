-- A cell that is painted twice is one of the first 24, which are all. Assumes nothing.
use Rattle.std.proofs.Common.{◌≡◌, ◌≤◌, ◌∙◌, ◌||◌, ℕ, zero, suc, List, Bool, ap, sym, refl, arith, rules, tests, length, take, get_or, nat_lt, add-one, take_all}
use Rattle.std.specs.List.{list_any}
use Rattle.std.proofs.lemmas.List.Folds.{list_any_more}
use Rattle.std.proofs.lemmas.Iterator.{YieldsList-from_slice}
use Rattle.std.proofs.lemmas.Iterator.Search.{any_from_yields_List}
use Rattle.trial.specs.Picture.{twice_in}
use Rattle.trial.proofs.picture.twice.Goals as goal

-- `twice_in` says it of the first n cells
any_twice : (cells : List ℕ) (n : ℕ) → n ≤ length cells → list_any (λ x. nat_lt 1 x) (take n cells) ≡ twice_in cells n
unfolding twice_in
any_twice cells zero h = refl
any_twice cells (suc n) h =
    ap (λ (k : ℕ). list_any (λ x. nat_lt 1 x) (take k cells)) (sym (add-one n))
    ∙ list_any_more (λ x. nat_lt 1 x) cells n 0 h
    ∙ ap (λ (b : Bool). b || nat_lt 1 (get_or cells n 0)) (any_twice cells n (omega arith))

pub returns : goal.returns
returns c =
    let cells = c.args.picture.now in
    any_from_yields_List (λ x. nat_lt 1 x) _ _ _ c.any.ensures.ran (YieldsList-from_slice cells c.iter.ensures.rest) (λ x b q k. search (rules, tests))
    ∙ ap (list_any (λ x. nat_lt 1 x)) (sym (take_all 24 cells (omega arith)))
    ∙ any_twice cells 24 (omega arith)
