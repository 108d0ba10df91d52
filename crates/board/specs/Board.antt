-- The starts of placed operations as the code holds them, and the rows of a table that holds them. Assumes nothing.
use Rattle.std.specs.Prelude.{◌≡◌, true, List, [], map, ℕ, ◌≤◌, ◌<◌, length, get_or, set, take, drop}
use Rattle.std.proofs.Math.Option.{some}
use Rattle.model.specs.Loop.{Loop, size}
use Rattle.model.specs.File.{loop_of, Accepted}
use Rattle.model.specs.Legality.{legal_at, fits_at}
use Rattle.model.specs.Table.{row_base, IsTable, cells_of}
use Rattle.model.specs.Session.{Setup, Starts, State}
use Rattle.reservation.specs.Seats.{seat_of, seats}

-- ---- what they say in the model

-- the first n of these numbers as starts: 65,535 is none
abbrev pub starts_of : ℕ → List ℕ → Starts
starts_of n xs = map seat_of (take n xs)

-- what a session of file f was opened with
abbrev pub setup_as : List ℕ → (ii h : ℕ) → Setup
setup_as f ii h = record { loop = loop_of f; ii = ii; horizon = h }

-- the state of these starts, without checkpoints
abbrev pub bare : List ℕ → List ℕ → State
bare f xs = record { starts = starts_of (size (loop_of f)) xs; checkpoints = [] }

-- ---- what the functions ask

-- the interval and the horizon are in range
pub record Numbers (ii h : ℕ) : Type 0 where
  pub some : 1 ≤ ii
  pub short : ii ≤ 4096
  pub far : h ≤ 4096

-- there is a place for each operation of the file
pub record Named (f xs : List ℕ) : Type 0 where
  pub accepted : Accepted f
  pub whole : length xs ≡ 64

-- the starts are legal and below h, and places that are no operation's are blank
pub record Sane (l : Loop) (ii h : ℕ) (xs : List ℕ) : Type 0 where
  pub whole : length xs ≡ 64
  pub blank : (o : ℕ) → size l ≤ o → get_or xs o 65535 ≡ 65535
  pub near : (o t : ℕ) → seats xs o ≡ some t → t < h
  pub fine : legal_at l ii (seats xs) ≡ true

-- the starts are sane, and the rows are their table
pub record Board (f : List ℕ) (ii h : ℕ) (xs rows : List ℕ) : Type 0 where
  pub accepted : Accepted f
  pub numbers : Numbers ii h
  pub sane : Sane (loop_of f) ii h xs
  pub held : IsTable row_base ii (cells_of (loop_of f) ii (seats xs)) rows

-- operation o, which is not placed, fits at t
pub record MayPut (f : List ℕ) (ii o t : ℕ) (xs rows : List ℕ) : Type 0 where
  pub board : Board f ii 4096 xs rows
  pub inside : o < size (loop_of f)
  pub blank : get_or xs o 65535 ≡ 65535
  pub near : t < 4096
  pub fits : fits_at (loop_of f) ii (seats xs) o t ≡ true

-- ---- what they leave

-- operation o has the number x, the rows are the table of that, and later rows are as they were
pub record IsPut (f : List ℕ) (ii o x : ℕ) (xs rows xs' rows' : List ℕ) : Type 0 where
  pub starts_are : xs' ≡ set xs o x
  pub held : IsTable row_base ii (cells_of (loop_of f) ii (seats xs')) rows'
  pub rest : drop ii rows' ≡ drop ii rows
