-- What `find` says of the starts.
use Rattle.std.proofs.Common.{◌≡◌, ℕ, true, rules, arith, tests}
use Rattle.std.proofs.lemmas.Iterator.{first_from_Range}
use Rattle.iterative.specs.Timing.{on_grid}
use Rattle.iterative.proofs.timing.to_grid.Goals as goal

pub returns : goal.returns
returns c =
    let on = λ (t : ℕ). on_grid c.args.interval c.args.width t ≡ true in
    first_from_Range _ _ _ _ on (λ t. on t → ⊥) c.find.ensures.ran (λ x q k. search rules) (λ x q k. (search rules, grind (arith, tests)))
