-- What the reader's loops over tables of checks say turn by turn. Assumes nothing.
use mathlib.Core.Path.{◌≡◌, refl}
use mathlib.Core.Option.{none}
use mathlib.Core.List.{List}
use Prim.Native.Nat.{ℕ, ◌+◌, ◌*◌, ◌≤◌}
use native.Mathlib.Omega.{arith}
use native.Mathlib.Numerals.{add-one}
use Rattle.model.specs.Refusals.{first_refusal}
use Rattle.model.specs.File.{op_record, uses_of, first_use, op_checks_at}
use Rattle.model.proofs.Sums.{total_few}
use Rattle.model.proofs.Checks.{passes_each, row_start, row_next}
use Rattle.model.proofs.File.{op_few, first_use_le}
use Rattle.std.proofs.lemmas.Bool.Decides.{nat_tests}
use Rattle.refusals.proofs.Tables.{fine_passes}
use Rattle.loop_file.specs.Read.{ops_table}

-- the uses before one operation more
pub first_use_next : (f : List ℕ) (o : ℕ) → first_use f (o + 1) ≡ first_use f o + uses_of f o
unfolding first_use
first_use_next f o = rw (add-one o)

-- operations that pass their tables have at most four uses each
pub uses_few : (f : List ℕ) (n : ℕ) → first_refusal (ops_table f n) ≡ none → first_use f n ≤ 4 * n
unfolding first_use
uses_few f n e =
    total_few (first_use f) (uses_of f) (λ k. refl) 4 n refl
    (λ o l. op_few _ _ _ _ (passes_each (λ o. op_checks_at f (op_record o)) 0 n o e (omega arith) (omega arith)))

-- what goes on from turn to turn
pub ruleset turns = (row_start, row_next, fine_passes, first_use_next, first_use_le, nat_tests)
