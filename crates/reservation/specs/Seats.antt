-- Starts of placed operations as a list of numbers, in which one value means that the operation is not placed. Assumes nothing.
use Rattle.std.specs.Prelude.{cond, List, ℕ, eqb, get_or, None, Some}
use Rattle.std.specs.Prelude as code
use Rattle.std.proofs.Math.Option.{Option, none, some}
use Rattle.model.specs.Legality.{Placing}

-- 65,535 means not placed
abbrev pub seat_of : ℕ → Option ℕ
seat_of x = cond (eqb x 65535) none (some x)

-- the placing that a list of such numbers says
abbrev pub seats : List ℕ → Placing
seats xs o = seat_of (get_or xs o 65535)

-- what the search for a broken dependence says, or of an operation its start
abbrev pub broken_of : code.Option ℕ → Option ℕ
broken_of None = none
broken_of (Some e) = some e
