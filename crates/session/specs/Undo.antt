-- Demand 3: what every list of session calls comes to, as one statement. Assumes nothing.
use Rattle.std.specs.Prelude.{◌≡◌, cond, List, [], ◌∷◌, ◌++◌, ℕ, ◌^◌, ◌≤◌, ◌<◌, get_or, take, drop}
use Rattle.model.specs.Refusals.{Answer, answered}
use Rattle.model.specs.File.{loop_of}
use Rattle.model.specs.Table.{row_base, covered_at, digit_of, free_rows}
use Rattle.model.specs.Session.{Call, checkpoint, rollback, done, numbered, placed_in, state_table, start, after, replies}
use Rattle.model.specs.Session as model
use Rattle.model.specs.Undo.{NoneGives, marked_by, placings, OrderOf, AllDone}
use Rattle.board.specs.Board.{setup_as}
use Rattle.board.specs.Moves.{reply_of}
use Rattle.session.specs.View.{setup_of, state_of, Valid, Stepped, Opened}
use Rattle.session.specs.declared.Session.{Session}
use Rattle.std.specs.Prelude.{Result, Ok}
use Rattle.board.specs.declared.Reply.{Reply}
use Rattle.refusals.specs.declared.Refusal as code

-- calls one after the other, each on the session and the rows that the one before left, with their answers
pub data Run : Session → List ℕ → List Call → List (Answer model.Reply) → Session → List ℕ → Type 0 where
  stop : {s : Session} {rows : List ℕ} → Run s rows [] [] s rows
  next : {c : Call} {s s' s'' : Session} {rows rows' rows'' : List ℕ} {r : Result Reply code.Refusal} {cs : List Call} {rs : List (Answer model.Reply)}
      → Stepped c s rows s' rows' r → Run s' rows' cs rs s'' rows'' → Run s rows (c ∷ cs) (reply_of r ∷ rs) s'' rows''

-- of a session opened with file f, interval ii and horizon h on the table rows₀, and any list of calls cs on it that answered rs and left s and rows
pub record Exact (f : List ℕ) (ii h : ℕ) (rows₀ : List ℕ) (cs : List Call) (rs : List (Answer model.Reply)) (s : Session) (rows : List ℕ) : Type 0 where
  -- each answer, refusals and details included, is the model's
  pub answers : rs ≡ replies (setup_as f ii h) cs (start (setup_as f ii h))
  -- so are the starts and the open checkpoints
  pub state : state_of s ≡ after (setup_as f ii h) cs (start (setup_as f ii h))
  -- and the first ii rows; rows beyond are those that opening was given
  pub table : rows ≡ state_table (setup_as f ii h) (after (setup_as f ii h) cs (start (setup_as f ii h))) ++ drop ii rows₀
  -- in the first ii rows a bit is 1 exactly where a placed operation covers that slot and row, and no bit stands above those of the 24 slots
  pub bits : (slot row : ℕ) → row < ii → 1 ≤ slot → slot ≤ 24
      → digit_of row_base (get_or rows row 0) slot ≡ cond (covered_at (loop_of f) ii (placed_in (state_of s).starts) slot row) 1 0
  pub bits_end : (row : ℕ) → row < ii → get_or rows row 0 < 2 ^ 24
  -- the number of each slot is the count of the first ii rows whose bit is clear
  pub free : s.free ≡ free_rows ii rows
  -- the file, the interval and the horizon are those of the opening, and the session is one that calls take
  pub setup : setup_of s ≡ setup_as f ii h
  pub valid : Valid s rows
  -- rolling back to an open checkpoint m is done, and gives the starts, the checkpoints, the rows and the numbers of just after the last checkpoint call that answered m
  pub back : (m : ℕ) {s' : Session} {rows' : List ℕ} {r : Result Reply code.Refusal} → 1 ≤ m → m ≤ s.marks → Stepped (rollback m) s rows s' rows' r
      → (reply_of r ≡ answered done)
      × (state_of s' ≡ marked_by (setup_as f ii h) m cs (start (setup_as f ii h)) (start (setup_as f ii h)))
      × (rows' ≡ state_table (setup_as f ii h) (marked_by (setup_as f ii h) m cs (start (setup_as f ii h)) (start (setup_as f ii h))) ++ drop ii rows₀)
      × (s'.free ≡ free_rows ii (state_table (setup_as f ii h) (marked_by (setup_as f ii h) m cs (start (setup_as f ii h)) (start (setup_as f ii h)))))
  -- the same of the very session and rows that this call left: s₂ and rows₂, from which the calls cs₂, none of which answered m, led here
  pub very : (m : ℕ) {s₁ s₂ s' : Session} {rows₁ rows₂ rows' : List ℕ} {r₁ r : Result Reply code.Refusal} {cs₂ : List Call} {rs₂ : List (Answer model.Reply)}
      → Stepped checkpoint s₁ rows₁ s₂ rows₂ r₁ → reply_of r₁ ≡ answered (numbered m) → Run s₂ rows₂ cs₂ rs₂ s rows → NoneGives m rs₂
      → m ≤ s.marks → Stepped (rollback m) s rows s' rows' r → (state_of s' ≡ state_of s₂) × (rows' ≡ rows₂) × (s'.free ≡ s₂.free)
  -- the placed operations, placed in any order on a second session opened alike, are each accepted and give the same starts, rows and numbers
  pub again : (os : List ℕ) {s₁ s₂ : Session} {table₁ rows₁ rows₂ : List ℕ} {rs₂ : List (Answer model.Reply)}
      → OrderOf (state_of s).starts os → Opened f ii h table₁ (Ok s₁) rows₁ → Run s₁ rows₁ (placings (state_of s).starts os) rs₂ s₂ rows₂
      → AllDone rs₂ × ((state_of s₂).starts ≡ (state_of s).starts) × (take ii rows₂ ≡ take ii rows) × (s₂.free ≡ s.free)

-- demand 3: for any file, interval, horizon and table that opening accepts, and any list of calls
abbrev pub Demand3 : Type 0
Demand3 =
    (f : List ℕ) (ii h : ℕ) (rows₀ rows₁ rows : List ℕ) (s₁ s : Session) (cs : List Call) (rs : List (Answer model.Reply))
    → Opened f ii h rows₀ (Ok s₁) rows₁ → Run s₁ rows₁ cs rs s rows → Exact f ii h rows₀ cs rs s rows
