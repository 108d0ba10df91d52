-- What was found as a refusal. Assumes nothing.
use Rattle.std.specs.Prelude.{ℕ, Option, Some, None, Result, Ok, Err}
use Rattle.refusals.specs.declared.Refusal.{Refusal}
use Rattle.refusals.specs.declared.Refusal.TheVariants.{Broken, Conflict}
use Rattle.reservation.specs.declared.Place.{Place}
use Rattle.reservation.specs.Place.{number_in}

-- a broken dependence as a refusal
abbrev pub as_unmet : Option ℕ → Result (Unit {0}) Refusal
as_unmet None = Ok tt
as_unmet (Some e) = Err (Broken e)

-- the first taken place as a refusal
abbrev pub as_clash : Option Place → Result (Unit {0}) Refusal
as_clash None = Ok tt
as_clash (Some p) = Err (Conflict (number_in (Some p)))
