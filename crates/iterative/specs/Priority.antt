-- Which operation is put next. Assumes nothing.
use Rattle.std.specs.Prelude.{◌≡◌, cond, List, ℕ, ◌≤◌, ◌<◌, ltb, get_or, Option, None, Some}
use Rattle.model.specs.Lists.{up_from, sum_of}
use Rattle.model.specs.Loop.{Loop, op_at, use_at}

-- the sum of the durations of operation o's first k uses: of all its uses, for how many cycles it holds slots
abbrev pub held_by : Loop → (o k : ℕ) → ℕ
held_by l o k = sum_of (λ j. (use_at (op_at l o) j).duration) (up_from 0 k)

-- r is o where `best` is none or has a lower rank; else it is `best`
abbrev pub Higher : (best : Option ℕ) (o : ℕ) → List ℕ → ℕ → Type 0
Higher None o ranks r = r ≡ o
Higher (Some b) o ranks r = r ≡ cond (ltb (get_or ranks b 0) (get_or ranks o 0)) o b

-- each of the first k operations has a start
abbrev pub AllPlaced : ℕ → List ℕ → Type 0
AllPlaced k xs = (o : ℕ) → o < k → get_or xs o 65535 ≡ 65535 → ⊥

-- r is the first of those of the first k operations that are not placed and have the highest rank
pub record Highest (k : ℕ) (xs ranks : List ℕ) (r : ℕ) : Type 0 where
  pub inside : r < k
  pub blank : get_or xs r 65535 ≡ 65535
  pub none_higher : (o : ℕ) → o < k → get_or xs o 65535 ≡ 65535 → get_or ranks o 0 ≤ get_or ranks r 0
  pub none_before : (o : ℕ) → o < r → get_or xs o 65535 ≡ 65535 → get_or ranks o 0 < get_or ranks r 0

-- the same where there is one; none where all of the first k are placed
pub record Picked (k : ℕ) (xs ranks : List ℕ) (r : Option ℕ) : Type 0 where
  pub none_left : r ≡ None → AllPlaced k xs
  pub highest : (o : ℕ) → r ≡ Some o → Highest k xs ranks o
