-- What a refusal that `?` passes on answers. Assumes nothing.
use mathlib.Core.Path.{◌≡◌, ap}
use Rattle.std.specs.Prelude.{Result, Ok, Err, IsErrAnd}
use Rattle.model.specs.Refusals.{refused}
use Rattle.refusals.specs.Told.{told}
use Rattle.refusals.specs.declared.Refusal.{Refusal}
use Rattle.lower_bounds.specs.Answer.{bounds_of}
use Rattle.lower_bounds.specs.declared.Bounds.{Bounds}

pub passes_on : (r : Result Bounds Refusal) (e : Refusal) → IsErrAnd r (λ y. y ≡ e) → bounds_of r ≡ refused (told e)
passes_on (Ok b) e h = absurd h
passes_on (Err y) e h = ap (λ z. refused (told z)) h
