-- What `search` answers and leaves. Assumes nothing.
use Rattle.std.specs.Prelude.{◌≡◌, List, ℕ, length, take, Result, Ok, Err}
use Rattle.model.specs.Refusals.{Answer, answered}
use Rattle.model.specs.Loop.{Loop, size}
use Rattle.model.specs.File.{loop_of}
use Rattle.model.specs.Bounds.{Lower}
use Rattle.model.specs.Search.{Outcome, found, sweep, intervals, SearchIs, list_after, rows_after}
use Rattle.lower_bounds.specs.declared.Bounds as lower
use Rattle.search.specs.declared.Solution.{Solution}
use Rattle.search.specs.declared.Unsolved.{Unsolved}
use Rattle.search.specs.Unsolved.{unsolved_of}

-- what `search` says of a loop, with the starts that the list then holds: one for each operation
abbrev pub answer_of : Loop → List ℕ → Result Solution Unsolved → Answer Outcome
answer_of l list (Ok s) =
    answered
    (found
    (record {
      ii = s.interval;
      bounds = record { resource = s.resource; recurrence = s.recurrence };
      stages = s.stages;
      count = s.probes;
      starts = take (size l) list;
    }))
answer_of l list (Err u) = unsolved_of u

-- ---- the whole call

-- the answer r to a file and a request, with a list and a table that end as list' and rows': the answer is the model's, and so is what the lent memory then holds. The code's answer does not carry the starts, so `answer_of` reads them off list';
-- that is no circle: `says` fixes them as the model's, which do not depend on list', and `list_is` then fixes all of list'
pub record Searches (f : List ℕ) (cap horizon budget : ℕ) (list rows : List ℕ) (r : Result Solution Unsolved) (list' rows' : List ℕ) : Type 0 where
  pub says : SearchIs f (record { cap = cap; horizon = horizon; budget = budget }) (length list) (length rows) (answer_of (loop_of f) list' r)
  pub list_is : list' ≡ list_after (answer_of (loop_of f) list' r) list
  pub rows_are : rows' ≡ rows_after (answer_of (loop_of f) list' r) rows

-- ---- its last part

-- the answer is what the model's sweep comes to, and the lent memory is as the model says
pub record Attempted (f : List ℕ) (bounds : lower.Bounds) (cap horizon budget : ℕ) (list rows : List ℕ) (r : Result Solution Unsolved) (list' rows' : List ℕ) : Type 0 where
  pub says : let b : Lower = record { resource = bounds.resource; recurrence = bounds.recurrence } in
      answer_of (loop_of f) list' r ≡ answered (sweep (loop_of f) (record { cap = cap; horizon = horizon; budget = budget }) b 0 (intervals b cap))
  pub list_is : list' ≡ list_after (answer_of (loop_of f) list' r) list
  pub rows_are : rows' ≡ rows_after (answer_of (loop_of f) list' r) rows
