-- What a program counts. Assumes nothing.
use Rattle.std.specs.Prelude.{ℕ, ◌+◌, ◌%◌, ◌^◌, cond, List, nat_lt, slice_index, slice_set}

-- n counts with one more of a kind that they have; a count is a number of 64 bits, and wraps
unfoldable pub more_of : ℕ → List ℕ → ℕ → List ℕ
more_of n counts kind = cond (nat_lt kind n) (slice_set counts kind ((slice_index counts kind + 1) % 2 ^ 64)) counts
