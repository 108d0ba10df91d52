-- What a session of the code says, and the one relation of every call. Assumes nothing.
use Rattle.std.specs.Prelude.{◌≡◌, List, ◌++◌, map, ℕ, ◌≤◌, ◌<◌, length, get_or, take, drop, replicate}
use Rattle.model.specs.Refusals.{Refusal, Answer, refused}
use Rattle.model.specs.Loop.{size}
use Rattle.model.specs.File.{longest, loop_of}
use Rattle.model.specs.Table.{table_at, free_rows}
use Rattle.model.specs.Session.{Setup, State, Call, state_table, open_file, open_rows, start, step}
use Rattle.reservation.specs.Seats.{seats}
use Rattle.board.specs.Board.{starts_of, setup_as, Sane, Board}
use Rattle.board.specs.Moves.{reply_of}
use Rattle.session.specs.declared.Kept as kept
use Rattle.session.specs.declared.Session.{Session}
use Rattle.std.specs.Prelude.{Result, Ok}
use Rattle.board.specs.declared.Reply.{Reply}
use Rattle.refusals.specs.Told.{answer_of}
use Rattle.refusals.specs.declared.Refusal as code

-- ---- what it says in the model

-- the file
abbrev pub file_of : Session → List ℕ
file_of s = take s.length s.file

-- its setup
abbrev pub setup_of : Session → Setup
setup_of s = setup_as (file_of s) s.interval s.horizon

-- its state: the starts, and for each open checkpoint the starts that going back to it gives
abbrev pub state_of : Session → State
state_of s =
    record {
      starts = starts_of (size (loop_of (file_of s))) s.starts;
      checkpoints = map (λ (x : kept.Kept). starts_of (size (loop_of (file_of s))) x.starts) (take s.marks s.saved);
    }

-- ---- sessions that calls take

-- a checkpoint that was not set
abbrev pub blank : kept.Kept
blank = record { starts = replicate 64 65535; free = replicate 24 65535 }

-- what a checkpoint set now keeps
abbrev pub kept_now : Session → kept.Kept
kept_now s = record { starts = s.starts; free = s.free }

-- the numbers of free rows of the table of these starts
abbrev pub free_of_starts : Session → List ℕ → List ℕ
free_of_starts s xs = free_rows s.interval (table_at (loop_of (file_of s)) s.interval (seats xs))

-- the arrays are whole, the rows are the table of the starts, the numbers of free rows are those of the rows; each open checkpoint's starts are sane, and its numbers those of their table
pub record Valid (s : Session) (rows : List ℕ) : Type 0 where
  pub stored : length s.file ≡ longest
  pub fits_in : s.length ≤ longest
  pub saved_all : length s.saved ≡ 16
  pub few : s.marks ≤ 16
  pub board : Board (file_of s) s.interval s.horizon s.starts rows
  pub free : s.free ≡ free_rows s.interval rows
  pub kept : (i : ℕ) → i < s.marks → Sane (loop_of (file_of s)) s.interval s.horizon (get_or s.saved i blank).starts
  pub kept_free : (i : ℕ) → i < s.marks → (get_or s.saved i blank).free ≡ free_of_starts s (get_or s.saved i blank).starts

-- what every call ensures: answer and state are the model's, the setup stays, the rows are the state's table and later rows as they were, each slot's number is the count of the first rows
-- whose bit is clear, the session is one that calls take; and a refused call hands back the session and the rows that it was given. Left free of an accepted call: the copies past the open checkpoints, and the bytes of the store past the file's length. No call
-- reads either, and `state_of` and `setup_of` do not see them
pub record Stepped (c : Call) (s : Session) (rows : List ℕ) (s' : Session) (rows' : List ℕ) (r : Result Reply code.Refusal) : Type 0 where
  pub reply : reply_of r ≡ (step (setup_of s) c (state_of s)).1
  pub state : state_of s' ≡ (step (setup_of s) c (state_of s)).0
  pub setup : setup_of s' ≡ setup_of s
  pub rows_are : rows' ≡ state_table (setup_of s) (state_of s') ++ drop s.interval rows
  pub free_are : s'.free ≡ free_rows s.interval rows'
  pub valid : Valid s' rows'
  pub same : (x : Refusal) → reply_of r ≡ refused x → (s' ≡ s) × (rows' ≡ rows)

-- ---- opening

-- what opening says
abbrev pub opening_of : Result Session code.Refusal → Answer Setup
opening_of r = answer_of setup_of r

-- opening with any file, numbers and table: the answer and the rows are the model's; a session that is opened is empty, with the numbers of free rows, and one that calls take. Left free of it: the 16 copies, none of which is open, and the stored bytes past the file's length
pub record Opened (f : List ℕ) (ii h : ℕ) (rows : List ℕ) (r : Result Session code.Refusal) (rows' : List ℕ) : Type 0 where
  pub says : opening_of r ≡ open_file f ii h (length rows)
  pub rows_are : rows' ≡ open_rows (open_file f ii h (length rows)) rows
  pub state : (s : Session) → r ≡ Ok s → state_of s ≡ start (setup_of s)
  pub free : (s : Session) → r ≡ Ok s → s.free ≡ free_rows ii rows'
  pub valid : (s : Session) → r ≡ Ok s → Valid s rows'
