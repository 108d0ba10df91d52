-- What the sweep over the intervals asks and leaves. Assumes nothing.
use Rattle.std.specs.Prelude.{◌≡◌, List, ℕ, suc, ◌-◌, ◌≤◌, ◌<◌, length, get_or, take, Result, Ok, Err}
use Rattle.model.specs.Lists.{up_from}
use Rattle.model.specs.Refusals.{Answer, answered}
use Rattle.model.specs.Loop.{Loop, size}
use Rattle.model.specs.File.{loop_of, Accepted}
use Rattle.model.specs.Bounds.{Lower}
use Rattle.model.specs.Search.{stage_count, Outcome, found, sweep}
use Rattle.search.specs.Unsolved.{unsolved_of, ended_probes}
use Rattle.search.specs.declared.Unsolved.{Unsolved}

-- the file is accepted, there is room for its n starts, and the first 4,096 rows are clear
pub record Clear (f starts rows : List ℕ) (n least cap h : ℕ) : Type 0 where
  pub accepted : Accepted f
  pub is_size : n ≡ size (loop_of f)
  pub some : 1 ≤ least
  pub capped : cap ≤ 4096
  pub near : h ≤ 4096
  pub room : n ≤ length starts
  pub long : 4096 ≤ length rows
  pub clear : (r : ℕ) → r < 4096 → get_or rows r 0 ≡ 0

-- the answer with the starts that the list then holds, as the model's: the interval at which a list is found, and the probes; or the end
abbrev pub outcome_of : Loop → Lower → (n : ℕ) → List ℕ → Result (ℕ × ℕ) Unsolved → Answer Outcome
outcome_of l b n starts (Ok s) = answered (found (record { ii = s.0; bounds = b; stages = stage_count l s.0 (take n starts); count = s.1; starts = take n starts }))
outcome_of l b n starts (Err u) = unsolved_of u

-- it is what the model's sweep over these intervals comes to, whatever the bounds are
abbrev pub SweptIs : List ℕ → (n least cap h budget : ℕ) → List ℕ → Result (ℕ × ℕ) Unsolved → Type 0
SweptIs f n least cap h budget starts r =
    (b : Lower) → outcome_of (loop_of f) b n starts r ≡ answered (sweep (loop_of f) (record { cap = cap; horizon = h; budget = budget }) b 0 (up_from least (suc cap - least)))

-- no more probes are made than the budget
abbrev pub Within : (budget : ℕ) → Result (ℕ × ℕ) Unsolved → Type 0
Within budget (Ok s) = s.1 ≤ budget
Within budget (Err u) = ended_probes u ≤ budget
