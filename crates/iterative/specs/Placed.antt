-- What the attempts ask and leave. Nothing is said of the choices that they make, only that what they leave is legal. Assumes nothing.
use Rattle.std.specs.Prelude.{◌≡◌, Bool, true, List, ℕ, ◌≤◌, ◌<◌, length, get_or, take, drop, Option, Some}
use Rattle.model.specs.Loop.{Loop, size}
use Rattle.model.specs.File.{loop_of, Accepted}
use Rattle.model.specs.Legality.{legal}
use Rattle.board.specs.Board.{Numbers, Board}
use Rattle.iterative.specs.Priority.{AllPlaced}

-- ---- steps

-- the starts and the rows are a board, and later rows are as they were
pub record Kept (f : List ℕ) (ii h : ℕ) (rows xs' rows' : List ℕ) : Type 0 where
  pub board : Board f ii h xs' rows'
  pub rest : drop ii rows' ≡ drop ii rows

-- the same, and where the answer says so all n operations are placed
pub record PutAll (f : List ℕ) (n ii h : ℕ) (rows xs' rows' : List ℕ) (r : Bool) : Type 0 where
  pub kept : Kept f ii h rows xs' rows'
  pub all : r ≡ true → AllPlaced n xs'

-- ---- one interval

-- the file is accepted, interval and horizon are in range, and there is room
pub record IntervalReady (f : List ℕ) (n ii h : ℕ) (xs rows : List ℕ) : Type 0 where
  pub accepted : Accepted f
  pub is_size : n ≡ size (loop_of f)
  pub numbers : Numbers ii h
  pub whole : length xs ≡ 64
  pub long : 4096 ≤ length rows

-- the first n of these starts are legal at ii, and each is below h
pub record LegalStarts (l : Loop) (n ii h : ℕ) (xs : List ℕ) : Type 0 where
  pub fine : legal l ii (take n xs) ≡ true
  pub near : (o : ℕ) → o < n → get_or xs o 0 < h

-- the rows after the first 4,096 are as they were, and so are the lengths
pub record Untouched (xs rows xs' rows' : List ℕ) : Type 0 where
  pub rest : drop 4096 rows' ≡ drop 4096 rows
  pub starts_length : length xs' ≡ length xs
  pub rows_length : length rows' ≡ length rows

-- what an attempt at one interval leaves: a schedule where the answer says so
pub record AttemptLeaves (f : List ℕ) (n ii h : ℕ) (xs rows xs' rows' : List ℕ) (r : Bool) : Type 0 where
  pub found : r ≡ true → LegalStarts (loop_of f) n ii h xs'
  pub untouched : Untouched xs rows xs' rows'

-- ---- the intervals

-- the same for every interval from `least` to the cap
pub record IntervalsAsked (f : List ℕ) (n least cap h : ℕ) (xs rows : List ℕ) : Type 0 where
  pub accepted : Accepted f
  pub is_size : n ≡ size (loop_of f)
  pub some : 1 ≤ least
  pub capped : cap ≤ 4096
  pub far : h ≤ 4096
  pub whole : length xs ≡ 64
  pub long : 4096 ≤ length rows

-- interval r is one of those asked for, and the starts are a schedule at it
pub record FoundAt (l : Loop) (n least cap h : ℕ) (xs : List ℕ) (r : ℕ) : Type 0 where
  pub low : least ≤ r
  pub high : r ≤ cap
  pub schedule : LegalStarts l n r h xs

-- what the intervals leave: where the answer is an interval, a schedule at it
pub record Placed (f : List ℕ) (n least cap h : ℕ) (xs rows xs' rows' : List ℕ) (r : Option ℕ) : Type 0 where
  pub found : (ii : ℕ) → r ≡ Some ii → FoundAt (loop_of f) n least cap h xs' ii
  pub untouched : Untouched xs rows xs' rows'
