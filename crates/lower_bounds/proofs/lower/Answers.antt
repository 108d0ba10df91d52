-- No recurrence bound is a cycle that no interval is long enough for.
use Rattle.std.proofs.Common.{◌≡◌, ap, ◌∙◌, ℕ, arith}
use Rattle.model.specs.Refusals.{answered, refused}
use Rattle.model.specs.Bounds.{cyclic, within}
use Rattle.refusals.specs.Told.{told}
use Rattle.refusals.specs.declared.Refusal.TheVariants.{Circle}
use Rattle.lower_bounds.proofs.Answers.{passes_on}
use Rattle.lower_bounds.proofs.lower.Goals as goal

pub returns-in_err-recurrence : goal.returns-in_err-recurrence
returns-in_err-recurrence c =
    let e : c.in_err-recurrence.field-0.0 ≡ Circle = grind (arith, c.in_err-recurrence.ensures.ok_part, c.in_err-recurrence.ensures.value) in
    cyclic (rw c.in_err-recurrence.ensures.ok_part at c.recurrence.ensures) (passes_on c.from_residual.result _ c.from_residual.ensures.1 ∙ ap (λ r. refused (told r)) e)

pub returns : goal.returns
returns c =
    let b = rw c.in_ok-recurrence.ensures.ok_part at c.recurrence.ensures in
    within c.in_ok-recurrence.recurrence b.0 b.1 (ap (λ (r : ℕ). answered (record { resource = r; recurrence = c.in_ok-recurrence.recurrence })) c.resource-resource.ensures)
