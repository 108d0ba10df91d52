-- The release sheet (document 02, order 6): what is added up over the files of a bundle, each with the answer of its search. Assumes nothing.
use Rattle.std.specs.Prelude.{◌≡◌, cond, List, [], ◌∷◌, ◌++◌, map, ℕ, max, eqb}
use Rattle.std.proofs.Math.Option.{none, some}
use Rattle.model.specs.Lists.{up_from, count_if, sum_of}
use Rattle.model.specs.Refusals.{Refusal, Check, lent, first_refusal, Answer, answered, refused}
use Rattle.model.specs.Loop.{Loop}
use Rattle.model.specs.File.{loop_of}
use Rattle.model.specs.Legality.{placed}
use Rattle.model.specs.Table.{covered_at}
use Rattle.model.specs.Search.{Request, Schedule, Outcome, found, ended, SearchIs, rows_after}
use Rattle.model.specs.Bundle.{bundle_checks, files}
use Rattle.model.specs.Fractions.{Fraction, lowest_of}

-- ---- the files and their answers

-- what is asked for each file: the numbers of loop A's program
abbrev pub sheet_request : Request
sheet_request = record { cap = 4096; horizon = 256; budget = 1000000 }

-- a file, and what the search answers for it
abbrev pub Item : Type 0
Item = List ℕ × Answer Outcome

-- the answers to files, in their order: each is the search's, with 64 starts and a scratch table of so many rows lent
pub data Answers (rows : ℕ) : List (List ℕ) → List Item → Type 0 where
  no_more : Answers rows [] []
  one_more : {f : List ℕ} {fs : List (List ℕ)} {items : List Item} {a : Answer Outcome}
      → SearchIs f sheet_request 64 rows a → Answers rows fs items → Answers rows (f ∷ fs) ((f, a) ∷ items)

-- ---- the totals

-- a measure of a loop and its schedule
abbrev pub Measure : Type 0
Measure = Loop → Schedule → ℕ

-- the measure of a file that is scheduled, and 0 of one that is refused, which so counts in no total
abbrev pub measured : Measure → Item → ℕ
measured m (f, answered (found s)) = m (loop_of f) s
measured m (f, answered (ended r count)) = 0
measured m (f, refused r) = 0

-- the total of a measure over the files
unfoldable pub total_of : Measure → List Item → ℕ
total_of m items = sum_of (measured m) items

-- each scheduled file
abbrev pub each : Measure
each l s = 1

-- each that is at the larger bound: its interval equals the larger of its two bounds
abbrev pub at_bound_count : Measure
at_bound_count l s = cond (eqb s.ii (max s.bounds.resource s.bounds.recurrence)) 1 0

-- its interval, which is also the number of a slot's cells in it: one in each row
abbrev pub interval : Measure
interval l s = s.ii

-- the covered cells of slot k: the rows in which an operation covers it
unfoldable pub covered_on : ℕ → Measure
covered_on k l s = count_if (covered_at l s.ii (placed s.starts) k) (up_from 0 s.ii)

-- the covered cells of slot k over all its cells, in the scheduled loops
abbrev pub used_part : List Item → ℕ → Fraction
used_part items k = lowest_of (total_of (covered_on k) items) (total_of interval items)

-- the totals
pub record Totals : Type 0 where
  pub scheduled : ℕ
  pub at_bound : ℕ
  pub intervals : ℕ
  -- of slots 1 to 24
  pub slots : List Fraction

unfoldable pub totals_of : List Item → Totals
totals_of items = record {
  scheduled = total_of each items;
  at_bound = total_of at_bound_count items;
  intervals = total_of interval items;
  slots = map (used_part items) (up_from 1 24);
}

-- ---- the sheet of any bytes

-- 21; then 20 for the scratch table, of which 4,096 rows are used
unfoldable pub sheet_checks : List ℕ → ℕ → List Check
sheet_checks b rows = bundle_checks b ++ (lent 4096 rows ∷ [])

-- the files with their answers, or the refusal
pub data SheetIs (b : List ℕ) (rows : ℕ) (a : Answer (List Item)) : Type 0 where
  by_check : (r : Refusal) → first_refusal (sheet_checks b rows) ≡ some r → a ≡ refused r → SheetIs b rows a
  by_files : (items : List Item) → first_refusal (sheet_checks b rows) ≡ none → Answers rows (files b) items → a ≡ answered items → SheetIs b rows a

-- the scratch table after the searches
abbrev pub rows_through : List Item → List ℕ → List ℕ
rows_through [] old = old
rows_through ((f, a) ∷ items) old = rows_through items (rows_after a old)
