-- Bytes in a buffer. Assumes nothing.
use Rattle.std.specs.Prelude.{List, ◌++◌, ℕ, ◌+◌, length, take, drop}

-- these bytes stored from `at` on, and all else as it was
abbrev pub stored : List ℕ → ℕ → List ℕ → List ℕ
stored old at bytes = take at old ++ bytes ++ drop (at + length bytes) old
