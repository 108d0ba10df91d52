-- Lines and fractions as numbers. Assumes nothing.
use mathlib.Core.List.{List, [], ◌∷◌, flat_map}
use Rattle.std.specs.Prelude.{ℕ, get_or, Result, Ok, Err}
use Rattle.model.specs.Lists.{up_from}
use Rattle.model.specs.Refusals.{Answer, answered, refused}
use Rattle.model.specs.Search.{Outcome, found, ended}
use Rattle.model.specs.Fractions as model
use Rattle.model.specs.Fractions.{lowest_of}
use Rattle.search.specs.Unsolved.{ended_number, ended_detail, ended_probes}
use Rattle.search.specs.declared.Solution.{Solution}
use Rattle.search.specs.declared.Unsolved.{Unsolved}
use Rattle.sheet.specs.declared.fraction.Fraction.{Fraction}
use Rattle.sheet.specs.declared.sums.Sums.{Sums}

-- a file's line: 0 or the refusal's number, its detail, interval, resource bound, recurrence bound, stages, probes, 0. Of the refusals only 10 and 11 come with probes
abbrev pub told_line : Answer Outcome → List ℕ
told_line (answered (found s)) = 0 ∷ 0 ∷ s.ii ∷ s.bounds.resource ∷ s.bounds.recurrence ∷ s.stages ∷ s.count ∷ 0 ∷ []
told_line (answered (ended r count)) = r.number ∷ r.detail ∷ 0 ∷ 0 ∷ 0 ∷ 0 ∷ count ∷ 0 ∷ []
told_line (refused r) = r.number ∷ r.detail ∷ 0 ∷ 0 ∷ 0 ∷ 0 ∷ 0 ∷ 0 ∷ []

-- the same of what the code's search answers
abbrev pub line_of : Result Solution Unsolved → List ℕ
line_of (Ok s) = 0 ∷ 0 ∷ s.interval ∷ s.resource ∷ s.recurrence ∷ s.stages ∷ s.probes ∷ 0 ∷ []
line_of (Err u) = ended_number u ∷ ended_detail u ∷ 0 ∷ 0 ∷ 0 ∷ 0 ∷ ended_probes u ∷ 0 ∷ []

-- the model's fraction
abbrev pub fraction_of : Fraction → model.Fraction
fraction_of f = record { num = f.num; den = f.den }

-- two numbers a fraction
abbrev pub fraction_words : model.Fraction → List ℕ
fraction_words f = f.num ∷ f.den ∷ []

-- of the first n slots
unfoldable pub slot_words : Sums → ℕ → List ℕ
slot_words s n = flat_map (λ k. fraction_words (lowest_of (get_or s.used k 0) s.intervals)) (up_from 0 n)
