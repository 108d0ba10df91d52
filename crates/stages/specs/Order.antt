-- The order of two operations, by their starts. Assumes nothing.
use Rattle.std.specs.Prelude.{Bool, ◌&&◌, ◌||◌, ℕ, eqb, ltb}
use Rattle.model.specs.Search.{stage, cycle}

-- operation p, started at t, comes before operation o, started at s, in the same stage
abbrev pub comes_before : ℕ → (s o t p : ℕ) → Bool
comes_before ii s o t p = eqb (stage ii t) (stage ii s) && (ltb (cycle ii t) (cycle ii s) || (eqb (cycle ii t) (cycle ii s) && ltb p o))
