-- What the verifier's answers say, in document 01's numbers. Assumes nothing.
use Rattle.std.proofs.Math.Option as maybe
use Rattle.std.specs.Prelude.{ℕ, Option, Some, None, Result}
use Rattle.model.specs.Refusals.{Answer}
use Rattle.model.specs.Verifier as model
use Rattle.refusals.specs.Told.{answer_of}
use Rattle.refusals.specs.declared.Refusal.{Refusal}
use Rattle.verifier.specs.declared.Verdict.{Verdict}
use Rattle.verifier.specs.declared.Verdict.TheVariants as verdict

-- a verdict as the model has it
abbrev pub said : Verdict → model.Verdict
said verdict.Legal = model.is_legal
said (verdict.Broken e) = model.breach e
said (verdict.Conflict a b n) = model.clash a b n

-- what `verify` says
abbrev pub verdict_of : Result Verdict Refusal → Answer model.Verdict
verdict_of r = answer_of said r

-- what the walk over pairs says
abbrev pub pair_of : Option (ℕ × ℕ) → maybe.Option (ℕ × ℕ)
pair_of None = maybe.none
pair_of (Some p) = maybe.some p
