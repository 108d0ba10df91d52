-- The lines are the parts that `split` gives (`YieldsList-from_slice_split`), and `for_each` calls at each. Assumes nothing.
use Rattle.std.proofs.Common.{rules, ◌==◌, subst}
use Rattle.std.specs.Fn.{CalledAt}
use Rattle.std.specs.List.{FoldsTo}
use Rattle.std.proofs.lemmas.Iterator.{items_from_drains}
use Rattle.std.proofs.lemmas.Iterator.Splits.{YieldsList-from_slice_split}
use Rattle.console.proofs.Calls.{calls_at}
use Rattle.console.proofs.scan.each_line.Goals as goal

pub returns : goal.returns
returns g c =
    let (xs, last, (u, (t, yields, ends)), called) = c.for_each.ensures.ran in
    let is = items_from_drains xs (t, yields, λ _. (u, ends)) (YieldsList-from_slice_split _ (λ b. b == 10) c.args.text.now c.split.ensures.rest c.split.ensures.done c.split.ensures.closure (λ x b q k. search rules)) in
    (last, subst (λ lines. FoldsTo (λ p line q. CalledAt g.F.FnMut p line tt q) c.args.f lines last) is (calls_at g.F.FnMut c.args.f last xs called))
