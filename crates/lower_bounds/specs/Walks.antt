-- What rules an interval out, and that by few dependences. Assumes nothing.
use Rattle.std.specs.Prelude.{◌≡◌, Bool, true, false, List, ℕ, ◌≤◌, length, Option, MatchOption}
use Rattle.model.specs.Loop.{Loop, size}
use Rattle.model.specs.Bounds.{Feasible, RecurrenceBound, Closed, Heavy, Stuck}

-- a closed walk of at most as many dependences as there are operations, whose delay is above ii times its distance
pub record Refuted (l : Loop) (ii : ℕ) : Type 0 where
  pub walk : List ℕ
  pub closed : Closed l walk
  pub short : length walk ≤ size l
  pub heavy : Heavy l ii walk

-- whether the dependences can be met at ii, with what shows it
pub record Decides (l : Loop) (ii : ℕ) (r : Bool) : Type 0 where
  pub met : r ≡ true → Feasible l ii
  pub unmet : r ≡ false → Refuted l ii

-- the recurrence bound, which is at most 4,096, or none where a closed walk rules out every interval
abbrev pub RecurrenceIs : Loop → Option ℕ → Type 0
RecurrenceIs l r = MatchOption r (Stuck l) (λ b. RecurrenceBound l b × (b ≤ 4096))
