-- The reading of a bundle, entry by entry, and the number of files that it answers. Assumes nothing.
use mathlib.Core.Path.{◌≡◌, ap, ◌∙◌}
use mathlib.Core.List.{List}
use Prim.Native.Nat.{ℕ}
use lib.ListN.{length}
use Rattle.std.specs.Result.{result_unwrap_or}
use Rattle.std.specs.Prelude.{Result, Ok, Err}
use Rattle.refusals.specs.declared.Refusal.{Refusal}
use Rattle.model.specs.Bundle.{files, read_bundle, count_in}
use Rattle.model.proofs.Checks.{row_start, row_next, in_range}
use Rattle.model.proofs.Bundle.{begin_first, begin_next, passed, cut_off, elsewhere, past, wrong_count, missing_count, wrong_entry, wrong_end, all_right, size_of, size_files}
use Rattle.bundle.specs.Answer.{bundled_of}

-- what the count, each entry and the end say
pub ruleset entries = (row_start, row_next, in_range, begin_first, begin_next, passed, cut_off, elsewhere, past, wrong_count, missing_count, wrong_entry, wrong_end, all_right)

-- the number that is answered, 0 where the bundle is refused, is that of the files
pub counted : (b : List ℕ) (r : Result ℕ Refusal) → bundled_of r ≡ count_in (read_bundle b) → result_unwrap_or r 0 ≡ length (files b)
counted b (Ok n) e = ap size_of e ∙ size_files b
counted b (Err x) e = ap size_of e ∙ size_files b
