-- Two operations at given starts, cell by cell. Assumes nothing.
use Rattle.std.specs.Prelude.{Bool, ℕ, ◌+◌, ◌%◌}
use Rattle.model.specs.Lists.{up_from, any_of}
use Rattle.model.specs.Loop.{Use, Op}
use Rattle.model.specs.Legality.{same_cell, footprint}

-- whether an operation started at s covers the slot in the row
unfoldable pub covers_cell : ℕ → Op → ℕ → ℕ → ℕ → Bool
covers_cell ii p s slot row = any_of (same_cell (record { slot = slot; row = row })) (footprint ii p s)

-- whether a cycle of use u, of an operation started at s, meets operation q, started at t
unfoldable pub use_meets : ℕ → Op → ℕ → ℕ → Use → Bool
use_meets ii q s t u = any_of (λ k. covers_cell ii q t u.slot ((s + u.offset + k) % ii)) (up_from 0 u.duration)
