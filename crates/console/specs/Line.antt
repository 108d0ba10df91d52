-- A line that is put together in lent memory. Assumes nothing.
use Rattle.std.specs.Prelude.{◌≡◌, List, ℕ, ◌+◌, ◌-◌, min, length}
use Rattle.std.proofs.Math.Seq.{paste}
use Rattle.io.specs.Digits.{last_digits, IsDigitCount}

-- how many of these bytes there is room for behind the first `at` of the line
abbrev pub fitting : (line : List ℕ) (at : ℕ) (bytes : List ℕ) → ℕ
fitting line at bytes = min (length line - at) (length bytes)

-- the line with those put there, and the rest as it was
unfoldable pub written : (line : List ℕ) (at : ℕ) (bytes : List ℕ) → List ℕ
written line at bytes = paste line at bytes (fitting line at bytes)

-- the place after them
unfoldable pub after : (line : List ℕ) (at : ℕ) (bytes : List ℕ) → ℕ
after line at bytes = at + fitting line at bytes

-- the line, and the place after, where bytes are put at a place and the decimal digits of n, the fewest that hold it, behind them
pub record Numbered (line : List ℕ) (at : ℕ) (bytes : List ℕ) (n : ℕ) (new : List ℕ) (next : ℕ) : Type 0 where
  pub count : ℕ
  pub fewest : IsDigitCount 10 1 n count
  pub stands : new ≡ written (written line at bytes) (after line at bytes) (last_digits 10 count n)
  pub place : next ≡ after (written line at bytes) (after line at bytes) (last_digits 10 count n)
