-- What `total` answers and leaves. Assumes nothing.
use Rattle.std.specs.Prelude.{◌≡◌, ℕ, ◌*◌, length, Result}
use mathlib.Core.List.{List, [], ◌∷◌, ◌++◌, flat_map}
use Rattle.model.specs.Lists.{written}
use Rattle.model.specs.Refusals.{Answer, answered, refused}
use Rattle.model.specs.Search.{Outcome, SearchIs, rows_after}
use Rattle.model.specs.Bundle.{files}
use Rattle.model.specs.Sheet.{sheet_request, Item, Answers, totals_of, SheetIs, rows_through}
use Rattle.refusals.specs.Told.{answer_of}
use Rattle.refusals.specs.declared.Refusal.{Refusal}
use Rattle.sheet.specs.Sums.{sums_of}
use Rattle.sheet.specs.Lines.{told_line, fraction_words}
use Rattle.sheet.specs.declared.sums.Sums.{Sums}
use Rattle.sheet.specs.declared.Totals.{Totals}

-- what `total` says
abbrev pub sheet_of : Result Totals Refusal → Answer Totals
sheet_of r = answer_of (λ t. t) r

-- ---- what the model's sheet comes to

-- the totals, with the number of files
abbrev pub totals_in : Answer (List Item) → Answer Totals
totals_in (answered items) =
    answered (record { files = length items; scheduled = (totals_of items).scheduled; bound = (totals_of items).at_bound; intervals = (totals_of items).intervals })
totals_in (refused r) = refused r

-- the lines of files, one after the other
unfoldable pub line_words : List Item → List ℕ
line_words items = flat_map (λ x. told_line x.1) items

-- the array of lines afterwards: a line for each file, and what stood behind them
abbrev pub lines_after : Answer (List Item) → List ℕ → List ℕ
lines_after (answered items) old = written 0 (line_words items) old
lines_after (refused r) old = old

-- the array of slots afterwards: two numbers a slot
abbrev pub slots_after : Answer (List Item) → List ℕ → List ℕ
slots_after (answered items) old = written 0 (flat_map fraction_words (totals_of items).slots) old
slots_after (refused r) old = old

-- the scratch table afterwards
abbrev pub table_after : Answer (List Item) → List ℕ → List ℕ
table_after (answered items) old = rows_through items old
table_after (refused r) old = old

-- ---- the statements

-- a file's answer in line i, and the sums with it
pub record AddsLine (s : Sums) (i : ℕ) (f lines rows : List ℕ) (r : Sums) (lines' rows' : List ℕ) : Type 0 where
  pub answer : Answer Outcome
  pub is : SearchIs f sheet_request 64 (length rows) answer
  pub sums_are : (items : List Item) → s ≡ sums_of items → r ≡ sums_of (items ++ ((f, answer) ∷ []))
  pub lines_are : lines' ≡ written (8 * i) (told_line answer) lines
  pub rows_are : rows' ≡ rows_after answer rows

-- a bundle's files, one after the other: their answers, the sums over them, and the table that their searches leave
pub record Summed (b rows : List ℕ) (r : Sums) (rows' : List ℕ) : Type 0 where
  pub items : List Item
  pub answers : Answers (length rows) (files b) items
  pub sums_are : r ≡ sums_of items
  pub rows_are : rows' ≡ rows_through items rows

-- the same, with a line for each
pub record Walked (b lines rows : List ℕ) (r : Sums) (lines' rows' : List ℕ) : Type 0 where
  pub summed : Summed b rows r rows'
  pub lines_are : lines' ≡ written 0 (line_words summed.items) lines

-- the answer r to any bytes, with arrays and a table that end as lines', slots' and rows': all are what the model's sheet says
pub record Sheets (b lines slots rows : List ℕ) (r : Result Totals Refusal) (lines' slots' rows' : List ℕ) : Type 0 where
  pub answer : Answer (List Item)
  pub is : SheetIs b (length rows) answer
  pub says : sheet_of r ≡ totals_in answer
  pub lines_are : lines' ≡ lines_after answer lines
  pub slots_are : slots' ≡ slots_after answer slots
  pub rows_are : rows' ≡ table_after answer rows
