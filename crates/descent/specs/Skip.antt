-- The starts of an operation that the rows exclude. Assumes nothing.
use Rattle.std.specs.Prelude.{◌≡◌, true, false, List, ℕ, ◌+◌, ◌%◌, ◌≤◌, ◌<◌, length}
use Rattle.std.proofs.Math.Option.{none}
use Rattle.model.specs.Loop.{Use, size, first_use_of}
use Rattle.model.specs.File.{loop_of, Accepted}
use Rattle.model.specs.Table.{row_base}
use Rattle.reservation.specs.Place.{met_at, first_met}

-- r is the row of the cycle before one that falls into this row
abbrev pub RowBefore : (ii row r : ℕ) → Type 0
RowBefore ii row r = (x : ℕ) → row ≡ (x + 1) % ii → r ≡ x % ii

-- operation op, whose first use has the number `first`, is one of an accepted file, and the rows reach to the interval
pub record RowsOf (f rows : List ℕ) (op first ii : ℕ) : Type 0 where
  pub accepted : Accepted f
  pub inside : op < size (loop_of f)
  pub first_is : first ≡ first_use_of (loop_of f) op
  pub some : 1 ≤ ii
  pub short : ii ≤ 4096
  pub long : ii ≤ length rows

-- use u meets a taken cell at each of the r starts from s on, and where r is 0 it meets none at s
pub record UseExcluded (ii : ℕ) (rows : List ℕ) (s : ℕ) (u : Use) (r : ℕ) : Type 0 where
  pub few : r ≤ 16
  pub free : r ≡ 0 → (k : ℕ) → met_at row_base ii rows s k u ≡ false
  pub taken : (t : ℕ) → t < r → (k : ℕ) × (k < 16) × (met_at row_base ii rows (s + t) k u ≡ true)

-- the same of an operation with these uses
pub record Excluded (ii : ℕ) (rows : List ℕ) (s : ℕ) (us : List Use) (r : ℕ) : Type 0 where
  pub few : r ≤ 16
  pub free : r ≡ 0 → first_met row_base ii rows s us ≡ none
  pub taken : (t : ℕ) → t < r → first_met row_base ii rows (s + t) us ≡ none → ⊥

-- r is the first of the starts a, .., b - 1 at which it meets none, or b
pub record NextFree (ii : ℕ) (rows : List ℕ) (us : List Use) (a b r : ℕ) : Type 0 where
  pub behind : a ≤ r
  pub ahead : r ≤ b
  pub free : r < b → first_met row_base ii rows r us ≡ none
  pub taken : (t : ℕ) → a ≤ t → t < r → first_met row_base ii rows t us ≡ none → ⊥
