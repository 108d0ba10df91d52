-- The parts of the verdict, on a list of starts of which the first ones count. Assumes nothing.
use Rattle.std.specs.Prelude.{Bool, cond, List, ℕ, ◌+◌, ◌%◌, ◌≤◌, ◌<◌, eqb, leb, length, get_or, take}
use Rattle.model.specs.Loop.{Use, Op, Loop, size}
use Rattle.reservation.specs.Overlaps.{covers_cell}

-- the starts that count: the first ones, one for each operation
abbrev pub one_each : Loop → List ℕ → List ℕ
one_each l xs = take (size l) xs

-- whether cycle k of use u of operation a, started at s, meets operation b, started at t; a against itself where they are one
abbrev pub meets_at : ℕ → (a b : ℕ) → Op → ℕ → ℕ → Use → ℕ → Bool
meets_at ii a b q s t u k = cond (eqb a b) (leb ii k) (covers_cell ii q t u.slot ((s + u.offset + k) % ii))

-- what the walks ask of the interval and the starts
pub record Proposal (l : Loop) (ii : ℕ) (xs : List ℕ) : Type 0 where
  pub some : 1 ≤ ii
  pub short : ii ≤ 4096
  pub all : size l ≤ length xs
  pub early : (o : ℕ) → o < size l → get_or xs o 0 < 4096
