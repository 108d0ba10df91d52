-- Signed ranges. Assumes nothing.
use Rattle.std.specs.Prelude.{Bool, ◌||◌, ℤ}
use Rattle.std.specs.Int.Signed.{lt_z}

-- z is not one of low .. high
abbrev pub beyond : (low high z : ℤ) → Bool
beyond low high z = lt_z z low || lt_z high z
