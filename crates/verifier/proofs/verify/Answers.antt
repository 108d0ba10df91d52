-- A refusal is the answer; where there is none, the two walks are the verdict.
use Rattle.std.proofs.Common.{◌∙◌, ℕ, ap, sym, refl}
use Rattle.std.specs.Result.{is_err}
use Rattle.model.specs.Refusals.{answered}
use Rattle.model.specs.Verifier.{clash}
use Rattle.model.proofs.File.{accepted_ok}
use Rattle.model.proofs.Clashes.{pair_found}
use Rattle.verifier.proofs.Pairs.{pair_range, conflict_says}
use Rattle.verifier.proofs.Proposals.{pass_file, pass_asked, by_check, by_walks}
use Rattle.verifier.proofs.verify.Goals as goal

pub returns-in_default : goal.returns-in_default
returns-in_default c = by_check _ _ _ c.proposed-checked.result c.passed_on.result (ap is_err c.in_default.is) c.passed_on.ensures c.proposed-checked.ensures

pub returns-in-Some : goal.returns-in-Some
returns-in-Some c = by_walks _ _ _ _ _ (sym c.in-Ok.ensures) c.in-Some.ensures refl

pub returns-in_default-first_pair : goal.returns-in_default-first_pair
returns-in_default-first_pair c = by_walks _ _ _ _ _ (sym c.in-Ok.ensures) c.in_default-first_broken.ensures c.in_default-first_pair.ensures

pub place_of-place-requires : goal.place_of-place-requires
place_of-place-requires c =
    let found = pair_found _ _ _ _ _ (sym c.in-Some-first_pair.ensures) in
    (pass_file _ _ _ (sym c.in-Ok.ensures), pass_asked _ _ _ (sym c.in-Ok.ensures), found.ordered, found.inside)

pub number-requires : goal.number-requires
number-requires c =
    let found = pair_found _ _ _ _ _ (sym c.in-Some-first_pair.ensures) in
    pair_range _ _ _ _ _ (accepted_ok _ (pass_file _ _ _ (sym c.in-Ok.ensures))) found.inside _ c.place_of-place.ensures

pub returns : goal.returns
returns c =
    let p = c.in-Some-first_pair in
    ap (λ (n : ℕ). answered (clash p.a p.b n)) c.number.ensures
    ∙ conflict_says p.a p.b _ _ c.place_of-place.ensures
    ∙ by_walks _ _ _ _ _ (sym c.in-Ok.ensures) c.in_default-first_broken.ensures p.ensures
