-- What the reading of a bundle answers. Assumes nothing.
use Rattle.std.specs.Prelude.{ℕ, Result}
use Rattle.model.specs.Refusals.{Answer}
use Rattle.refusals.specs.Told.{answer_of}
use Rattle.refusals.specs.declared.Refusal.{Refusal}

-- what `read` says
abbrev pub bundled_of : Result ℕ Refusal → Answer ℕ
bundled_of r = answer_of (λ n. n) r
