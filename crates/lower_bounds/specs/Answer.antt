-- What the code of the bounds answers. Assumes nothing.
use Rattle.std.specs.Prelude.{Result}
use Rattle.model.specs.Refusals.{Answer}
use Rattle.model.specs.Bounds.{Lower}
use Rattle.refusals.specs.declared.Refusal.{Refusal}
use Rattle.refusals.specs.Told.{answer_of}
use Rattle.lower_bounds.specs.declared.Bounds.{Bounds}

-- what `lower` and `bounds` say
abbrev pub bounds_of : Result Bounds Refusal → Answer Lower
bounds_of = answer_of (λ b. record { resource = b.resource; recurrence = b.recurrence })
