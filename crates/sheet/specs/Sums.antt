-- The sums over files, a file at a time. Assumes nothing.
use Rattle.std.specs.Prelude.{◌≡◌, cond, List, [], ◌∷◌, ◌++◌, map, ℕ, suc, ◌+◌, ◌<◌, max, eqb, length, get_or}
use Rattle.model.specs.Lists.{up_from}
use Rattle.model.specs.Refusals.{Answer}
use Rattle.model.specs.File.{loop_of}
use Rattle.model.specs.Search.{Outcome, SearchIs, rows_after}
use Rattle.model.specs.Sheet.{sheet_request, Item, total_of, each, at_bound_count, interval, covered_on}
use Rattle.search.specs.Answer.{answer_of}
use Rattle.search.specs.declared.Solution.{Solution}
use Rattle.sheet.specs.declared.sums.Sums.{Sums}
use Rattle.sheet.specs.declared.sums.Added.{Added}

-- the sums over files and their answers
abbrev pub sums_of : List Item → Sums
sums_of items = record {
  scheduled = total_of each items;
  bound = total_of at_bound_count items;
  intervals = total_of interval items;
  used = map (λ k. total_of (covered_on k) items) (up_from 1 24);
}

-- 1 where the interval is the larger bound, else 0
abbrev pub bound_of : Solution → ℕ
bound_of s = cond (eqb s.interval (max s.resource s.recurrence)) 1 0

-- ---- small enough for one file more

-- 24 numbers, each small
pub record Each (used : List ℕ) : Type 0 where
  pub long : length used ≡ 24
  pub low : (k : ℕ) → k < 24 → get_or used k 0 < 4294967296

-- all numbers small
pub record Small (s : Sums) : Type 0 where
  pub scheduled : s.scheduled < 4294967296
  pub bound : s.bound < 4294967296
  pub intervals : s.intervals < 4294967296
  pub used : Each s.used

-- ---- one file more

-- of slots 1 to 24, what g says is added to the numbers
pub record Plus (g : ℕ → ℕ) (before after : List ℕ) : Type 0 where
  pub long : length after ≡ length before
  pub at : (k : ℕ) → k < 24 → get_or after k 0 ≡ get_or before k 0 + g (suc k)

-- a schedule, with the durations g, is counted in
pub record Counted (g : ℕ → ℕ) (s : Solution) (before after : Sums) : Type 0 where
  pub scheduled : after.scheduled ≡ before.scheduled + 1
  pub bound : after.bound ≡ before.bound + bound_of s
  pub intervals : after.intervals ≡ before.intervals + s.interval
  pub used : Plus g before.used after.used

-- a file's answer, and the sums with it: the answer is the search's, which the code's says but for the starts, the sums over some files become those over these and this one, and the table is as that search leaves it
pub record Adds (s : Sums) (f rows : List ℕ) (r : Added) (rows' : List ℕ) : Type 0 where
  pub answer : Answer Outcome
  pub is : SearchIs f sheet_request 64 (length rows) answer
  pub starts : List ℕ
  pub says : answer_of (loop_of f) starts r.answer ≡ answer
  pub sums_are : (items : List Item) → s ≡ sums_of items → r.sums ≡ sums_of (items ++ ((f, answer) ∷ []))
  pub rows_are : rows' ≡ rows_after answer rows
