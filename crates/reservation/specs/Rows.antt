-- What reserving and releasing do to the rows of the table, as lists of numbers. Assumes nothing.
use Rattle.std.specs.Prelude.{◌≡◌, List, ℕ, zero, suc, ◌+◌, ◌-◌, ◌%◌, ◌^◌, ◌≤◌, ◌<◌, length, get_or, set}
use Rattle.model.specs.Loop.{Use, no_use}
use Rattle.model.specs.Table.{digit_of}

-- the row put through g
abbrev pub changed : (ℕ → ℕ) → ℕ → List ℕ → List ℕ
changed g r rows = set rows r (g (get_or rows r 0))

-- the rows (start + k) % ii for k below d, put through g one after the other
unfoldable pub over_use : (ℕ → ℕ) → ℕ → ℕ → ℕ → List ℕ → List ℕ
over_use g ii start zero rows = rows
over_use g ii start (suc k) rows = changed g ((start + k) % ii) (over_use g ii start k rows)

-- the first n of some uses of an operation started at s, one after the other; g says what a slot does to a row
unfoldable pub over_uses : (ℕ → ℕ → ℕ) → ℕ → ℕ → List Use → ℕ → List ℕ → List ℕ
over_uses g ii s us zero rows = rows
over_uses g ii s us (suc n) rows =
    over_use (g (get_or us n no_use).slot) ii (s + (get_or us n no_use).offset) (get_or us n no_use).duration (over_uses g ii s us n rows)

-- one more in the digit of a slot; in base 2 the slot's bit set, where it was clear
abbrev pub with_one : (base slot x : ℕ) → ℕ
with_one base slot x = x + base ^ (slot - 1)

-- one less; in base 2 the slot's bit cleared, where it was set
abbrev pub less_one : (base slot x : ℕ) → ℕ
less_one base slot x = x - base ^ (slot - 1)

-- g leaves the digits of other slots where that of its slot is d
abbrev pub Leaves : (base d : ℕ) → (ℕ → ℕ → ℕ) → Type 0
Leaves base d g = (s t x : ℕ) → 1 ≤ s → 1 ≤ t → (s ≡ t → ⊥) → digit_of base x t ≡ d → digit_of base (g t x) s ≡ digit_of base x s

-- what a change of a bit asks: the cell lies in the rows, and its digit is d
pub record DigitIs (base d : ℕ) (rows : List ℕ) (r s : ℕ) : Type 0 where
  pub inside : r < length rows
  pub low : 1 ≤ s
  pub high : s ≤ 24
  pub digit : digit_of base (get_or rows r 0) s ≡ d

-- a use lies in the table: it is no longer than the interval, and each row that it covers has the digit d at its slot
pub record UseIn (base d : ℕ) (rows : List ℕ) (ii start n s : ℕ) : Type 0 where
  pub some : 1 ≤ ii
  pub long : ii ≤ length rows
  pub short : n ≤ ii
  pub near : start + n ≤ 8192
  pub low : 1 ≤ s
  pub high : s ≤ 24
  pub digits : (k : ℕ) → k < n → digit_of base (get_or rows ((start + k) % ii) 0) s ≡ d

-- the uses of an operation started at s lie in the table, and each cell that they cover has the digit d
pub record UsesIn (base d : ℕ) (rows : List ℕ) (ii s : ℕ) (us : List Use) : Type 0 where
  pub some : 1 ≤ ii
  pub long : ii ≤ length rows
  pub near : s ≤ 4096
  pub short : (j : ℕ) → j < length us → (get_or us j no_use).duration ≤ ii
  pub digits : (j k : ℕ) → j < length us → k < (get_or us j no_use).duration
      → digit_of base (get_or rows ((s + (get_or us j no_use).offset + k) % ii) 0) (get_or us j no_use).slot ≡ d
