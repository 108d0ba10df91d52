-- A list of session calls as numbers, and what replaying it on a session of its own comes to. Assumes nothing.
use Rattle.std.specs.Prelude.{◌≡◌, cond, ℕ, ◌+◌, ◌*◌, ◌/◌, eqb, ltb, length, get_or, drop}
use mathlib.Core.List.{List, [], ◌∷◌, ◌++◌, map, flat_map}
use Rattle.std.proofs.Math.Option.{Option, none, some}
use Rattle.model.specs.Lists.{up_from, written}
use Rattle.model.specs.Refusals.{Check, check, outside, Answer, answered, refused, settle}
use Rattle.model.specs.Table.{free_rows}
use Rattle.model.specs.Session.{Setup, Starts, Call, place, force, remove, checkpoint, release, rollback, Reply, done, displaced, numbered, state_table, open_checks, start, after, replies}
use Rattle.board.specs.Board.{setup_as}
use Rattle.session.specs.Undo.{Run}
use Rattle.session.specs.declared.Session.{Session}
use Rattle.replay.specs.Words.{Gives}

-- ---- the calls

-- the call of a kind, 1 to 6, with two numbers (another number is taken for 5: who lets any number in refuses it before)
unfoldable pub call_of : (kind a b : ℕ) → Call
call_of k a b =
    cond (eqb k 1) (place a b) (cond (eqb k 2) (force a b) (cond (eqb k 3) (remove a) (cond (eqb k 4) checkpoint (cond (eqb k 6) (rollback a) release))))

-- how many calls the numbers make, three a call; what is left over makes none
abbrev pub call_count : List ℕ → ℕ
call_count xs = length xs / 3

-- call i
abbrev pub call_at : List ℕ → ℕ → Call
call_at xs i = call_of (get_or xs (3 * i) 0) (get_or xs (3 * i + 1) 0) (get_or xs (3 * i + 2) 0)

-- the first n calls
abbrev pub first_calls : List ℕ → ℕ → List Call
first_calls xs n = map (call_at xs) (up_from 0 n)

-- all of them
abbrev pub calls_of : List ℕ → List Call
calls_of xs = first_calls xs (call_count xs)

-- ---- what the whole is refused for, in order

-- call i has no kind that there is
abbrev pub kind_check : List ℕ → ℕ → List Check
kind_check xs i = check (outside 6 (get_or xs (3 * i) 0)) 255 i ∷ []

-- call by call; then numbers left over at the end; then a list for the replies, of `room` numbers, that has not two for each call
unfoldable pub call_checks : List ℕ → ℕ → List Check
call_checks xs room =
    flat_map (kind_check xs) (up_from 0 (call_count xs))
    ++ (check (ltb (3 * call_count xs) (length xs)) 255 (call_count xs) ∷ check (ltb room (2 * call_count xs)) 254 room ∷ [])

-- these, and then what opening is refused for
unfoldable pub replay_file : (file : List ℕ) (ii h : ℕ) (calls : List ℕ) (rows room : ℕ) → Answer Setup
replay_file f ii h xs rows room = settle (call_checks xs room ++ open_checks f ii h rows) (setup_as f ii h)

-- ---- what is written

-- a call's answer: 0 and its value, or the refusal's number and detail
abbrev pub reply_words : Answer Reply → List ℕ
reply_words (answered done) = 0 ∷ 0 ∷ []
reply_words (answered (displaced m)) = 0 ∷ m ∷ []
reply_words (answered (numbered n)) = 0 ∷ n ∷ []
reply_words (refused r) = r.number ∷ r.detail ∷ []

-- all answers
unfoldable pub all_words : List (Answer Reply) → List ℕ
all_words rs = flat_map reply_words rs

-- a start: 65,535 where the operation is not placed
abbrev pub start_word : Option ℕ → ℕ
start_word none = 65535
start_word (some t) = t

-- 64 starts, also of numbers that are no operation's
unfoldable pub start_words : Starts → List ℕ
start_words xs = map (λ o. start_word (get_or xs o none)) (up_from 0 64)

-- the calls made, and the checkpoints that are then open
abbrev pub end_words : List Call → Setup → List ℕ
end_words cs u = length cs ∷ length (after u cs (start u)).checkpoints ∷ 0 ∷ 0 ∷ 0 ∷ 0 ∷ 0 ∷ []

-- the list of replies afterwards: the model's answers to all calls; as it was where the whole is refused
abbrev pub replies_left : List Call → Answer Setup → List ℕ → List ℕ
replies_left cs (answered u) old = written 0 (all_words (replies u cs (start u))) old
replies_left cs (refused r) old = old

-- the starts afterwards, likewise
abbrev pub starts_left : List Call → Answer Setup → List ℕ → List ℕ
starts_left cs (answered u) old = start_words (after u cs (start u)).starts
starts_left cs (refused r) old = old

-- the numbers of free rows afterwards: those of the table of those starts
abbrev pub free_left : List Call → Answer Setup → List ℕ → List ℕ
free_left cs (answered u) old = free_rows u.ii (state_table u (after u cs (start u)))
free_left cs (refused r) old = old

-- the rows afterwards: the table of those starts, and later rows as they were
abbrev pub rows_left : List Call → Answer Setup → List ℕ → List ℕ
rows_left cs (answered u) old = state_table u (after u cs (start u)) ++ drop u.ii old
rows_left cs (refused r) old = old

-- a session opened and all calls made on it, with any file, numbers and lists: the model's run over the whole list
pub record Replayed (f : List ℕ) (ii h : ℕ) (calls rows replies starts free before : List ℕ) (r : ℕ) (rows' replies' starts' free' after : List ℕ) : Type 0 where
  pub gives : Gives (replay_file f ii h calls (length rows) (length replies)) (end_words (calls_of calls)) r before after
  pub replies_are : replies' ≡ replies_left (calls_of calls) (replay_file f ii h calls (length rows) (length replies)) replies
  pub starts_are : starts' ≡ starts_left (calls_of calls) (replay_file f ii h calls (length rows) (length replies)) starts
  pub free_are : free' ≡ free_left (calls_of calls) (replay_file f ii h calls (length rows) (length replies)) free
  pub rows_are : rows' ≡ rows_left (calls_of calls) (replay_file f ii h calls (length rows) (length replies)) rows

-- ---- the walk over the calls

-- calls made one after the other from s and rows lead to s' and rows', with the answers written from place 0 on: marks, xs and free are the open checkpoints, the starts and the numbers of s'
pub record Made (cs : List Call) (s : Session) (rows old : List ℕ) (marks : ℕ) (s' : Session) (rows' new xs free : List ℕ) : Type 0 where
  pub answers : List (Answer Reply)
  pub run : Run s rows cs answers s' rows'
  pub words : new ≡ written 0 (all_words answers) old
  pub marks_are : marks ≡ s'.marks
  pub starts_are : xs ≡ s'.starts
  pub free_are : free ≡ s'.free
