-- Lists of starts by their number, and which of them are legal. Assumes nothing.
use Rattle.std.specs.Prelude.{Option, Some, None, ℕ, zero, suc, ◌/◌, ◌%◌, min, max, Bool, true, false, cond, not, ◌&&◌, List, replicate, nat_lt, slice_set}
use Rattle.trial.specs.declared.drawn.Drawn.{Drawn}
use Rattle.trial.specs.declared.lists.Listed.{Listed}
use Rattle.trial.specs.Drawn.{holds_in}
use Rattle.trial.specs.Picture.{picture_of, twice_in}

-- the last k digits of a number to the base h, put into the first k places of a list, the lowest into the last; and what is left of the number
unfoldable pub digits : (h : ℕ) → List ℕ → (left k : ℕ) → Listed
digits h starts left zero = record { starts = starts; left = left }
digits h starts left (suc k) = digits h (slice_set starts k (left % h % 65536)) (left / h) k

-- list number code of k starts, at most 6, below the horizon: its digits to that base; all other places are nowhere
unfoldable pub word_of : (code k horizon : ℕ) → Listed
word_of code k horizon = digits (max horizon 1) (replicate 6 65535) code (min k 6)

-- whether the first m dependences hold, as far as their operations are placed
unfoldable pub all_hold : Drawn → List ℕ → (interval m : ℕ) → Bool
all_hold d starts interval zero = true
all_hold d starts interval (suc e) = all_hold d starts interval e && holds_in d e starts interval

-- whether all do, and no cell of the picture is painted twice
unfoldable pub fits_in : Drawn → List ℕ → (interval : ℕ) → Bool
fits_in d starts interval = all_hold d starts interval d.m && not (twice_in (picture_of d starts interval 6) 24)

-- whether there is such a list, with nothing left of its number, and it fits
unfoldable pub legal_as : Drawn → Listed → (interval : ℕ) → Bool
legal_as d w interval = cond (nat_lt 0 w.left) false (fits_in d w.starts interval)

-- the same of list number code of k starts
unfoldable pub legal_in : Drawn → (code k interval : ℕ) → Bool
legal_in d code k interval = legal_as d (word_of code k d.horizon) interval

-- the first of count numbers, from code on, whose list of all starts is legal
unfoldable pub first_from : Drawn → (interval code count : ℕ) → Option ℕ
first_from d interval code zero = None
first_from d interval code (suc count) = cond (legal_in d code d.n interval) (Some code) (first_from d interval (suc code) count)
