-- What the checks of a list of calls go by. Assumes nothing.
use mathlib.Core.Path.{◌≡◌, sym}
use mathlib.Core.Bool.{true}
use mathlib.Core.List.{List, flat_map}
use mathlib.Core.Option.{none, some}
use Prim.Native.Nat.{ℕ, ◌*◌, ◌<◌}
use lib.ListN.{get_or}
use Rattle.std.proofs.lemmas.Bool.Decides.{nat_tests}
use Rattle.model.specs.Lists.{up_from}
use Rattle.model.specs.Refusals.{outside, first_refusal}
use Rattle.model.proofs.Checks.{refusal_append, row_start, row_next, row_refused}
use Rattle.refusals.specs.Told.{refusal}
use Rattle.refusals.proofs.Tables.{fine_passes}
use Rattle.replay.specs.Replay.{kind_check}

-- a call without a kind, after calls that have one
pub kind_refused : (xs : List ℕ) (i n : ℕ) → i < n → first_refusal (flat_map (kind_check xs) (up_from 0 i)) ≡ none → outside 6 (get_or xs (3 * i) 0) ≡ true
    → some (refusal 255 i) ≡ first_refusal (flat_map (kind_check xs) (up_from 0 n))
unfolding first_refusal
kind_refused xs i n l p e = sym (row_refused (kind_check xs) i n _ l p (rw e))

-- one call after the other
pub ruleset rows = (row_start, row_next, kind_refused, nat_tests)

-- the whole list
pub ruleset parts = (refusal_append, fine_passes, nat_tests)
