-- What an end without a schedule says: as the model's answer, and as numbers. Assumes nothing.
use Rattle.std.specs.Prelude.{ℕ}
use Rattle.model.specs.Refusals.{Answer, answered, refused}
use Rattle.model.specs.Search.{Outcome, ended}
use Rattle.refusals.specs.Told.{refusal, told}
use Rattle.search.specs.declared.Unsolved.{Unsolved}
use Rattle.search.specs.declared.Unsolved.TheVariants.{NoSchedule, BudgetSpent, Refused}

-- the model's answer
abbrev pub unsolved_of : Unsolved → Answer Outcome
unsolved_of (NoSchedule cap k) = answered (ended (refusal 10 cap) k)
unsolved_of (BudgetSpent ii k) = answered (ended (refusal 11 ii) k)
unsolved_of (Refused r) = refused (told r)

-- the refusal's number
abbrev pub ended_number : Unsolved → ℕ
ended_number (NoSchedule cap k) = 10
ended_number (BudgetSpent ii k) = 11
ended_number (Refused r) = (told r).number

-- its detail
abbrev pub ended_detail : Unsolved → ℕ
ended_detail (NoSchedule cap k) = cap
ended_detail (BudgetSpent ii k) = ii
ended_detail (Refused r) = (told r).detail

-- the probes that were made
abbrev pub ended_probes : Unsolved → ℕ
ended_probes (NoSchedule cap k) = k
ended_probes (BudgetSpent ii k) = k
ended_probes (Refused r) = 0
