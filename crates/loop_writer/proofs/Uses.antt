-- How many uses operations have, and which slot the next use has to be above, turn by turn. Assumes nothing.
use mathlib.Core.Path.{◌≡◌, refl}
use mathlib.Core.List.{List, flat_map}
use mathlib.Core.Option.{none}
use Prim.Native.Nat.{ℕ, ◌+◌, ◌*◌, ◌≤◌, ◌<◌}
use native.Mathlib.Numerals.{add-one}
use native.Mathlib.Omega.{arith}
use lib.IntN.{ℤ}
use Rattle.model.specs.Lists.{up_from}
use Rattle.model.specs.Integers.{plus}
use Rattle.model.specs.Refusals.{first_refusal}
use Rattle.model.specs.File.{use_width}
use Rattle.model.specs.Writer.{field_at, uses_given, first_given, slot_before, op_given_checks}
use Rattle.model.proofs.Checks.{passes_each}
use Rattle.model.proofs.File.{op_few}

-- the uses before the first operation, and before one operation more
pub given_none : (ops : List ℤ) → 0 ≡ first_given ops 0
unfolding first_given
given_none ops = refl

pub given_next : (ops : List ℤ) (o : ℕ) → first_given ops (o + 1) ≡ first_given ops o + uses_given ops o
unfolding first_given
given_next ops o = rw (add-one o)

-- an operation that is right has at most four
pub uses_few : (ops : List ℤ) (n o : ℕ) → first_refusal (flat_map (op_given_checks ops) (up_from 0 n)) ≡ none → o < n → uses_given ops o ≤ 4
uses_few ops n o e l = op_few _ _ _ _ (passes_each (op_given_checks ops) 0 n o e (omega arith) (omega arith))

-- the first use has to be above no slot, and one use more above that of the one before
pub slot_none : (us : List ℤ) (u : ℕ) → 0 ≡ slot_before us u 0
slot_none us u = refl

pub slot_next : (us : List ℤ) (u j : ℕ) → plus (field_at us (use_width * (u + j))) ≡ slot_before us u (j + 1)
slot_next us u j = rw (add-one j)
