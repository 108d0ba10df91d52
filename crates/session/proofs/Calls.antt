-- Every list of calls: demand 3. It rests on `Opened`, `Stepped` and `Run` alone, and not on code. Assumes nothing.
use mathlib.Core.Path.{◌≡◌, refl, sym, ap, ap₂, ◌∙◌, subst, subst₃}
use mathlib.Core.Bool.{cond}
use mathlib.Core.List.{List, [], ◌∷◌, ◌++◌}
use mathlib.Core.Option.{Option, none, some}
use Prim.Native.Nat.{ℕ, suc, ◌^◌, ◌≤◌, ◌<◌}
use native.Mathlib.Omega.{arith}
use lib.ListN.{length, get_or, take, drop, length-map, length-append, length-drop}
use lib.Seq.{length-take-le, take_at, drop_at}
use Rattle.std.specs.Prelude.{Result, Ok}
use Rattle.model.specs.Refusals.{Refusal, first_refusal, Answer, answered, settled}
use Rattle.model.specs.Loop.{LoopOk}
use Rattle.model.specs.File.{loop_of}
use Rattle.model.specs.Table.{row_base, covered_at, digit_of, free_rows}
use Rattle.model.specs.Session.{Setup, State, Call, checkpoint, rollback, done, numbered, placed_in, state_table, open_checks, open_file, open_rows, start, step, after, replies}
use Rattle.model.specs.Session as model
use Rattle.model.specs.Undo.{NoneGives, marked_by, placings, OrderOf, AllDone}
use Rattle.model.proofs.File.{accepted_ok}
use Rattle.model.proofs.Table.{length_table, bit_covered}
use Rattle.model.proofs.Table.{bits_end as table_end}
use Rattle.model.proofs.Free.{free_front}
use Rattle.model.proofs.Undo.{back_to, back_pure, start_table, replay}
use Rattle.model.proofs.Good.{Good, good_run}
use Rattle.reservation.specs.Seats.{seats}
use Rattle.reservation.proofs.Placings.{legal_digits}
use Rattle.board.specs.Board.{setup_as}
use Rattle.board.specs.Moves.{reply_of}
use Rattle.session.specs.View.{setup_of, state_of, file_of, Valid, Stepped, Opened}
use Rattle.session.specs.Undo.{Run, stop, next, Demand3}
use Rattle.session.specs.declared.Session.{Session}
use Rattle.board.specs.declared.Reply.{Reply}
use Rattle.refusals.specs.declared.Refusal as code
use Rattle.board.proofs.Boards.{same_seats}

-- ---- a session by the model

-- session s with these rows is the model's setup u in state st, and the rows after the table are `rest`
pub record Stands (u : Setup) (st : State) (rest : List ℕ) (s : Session) (rows : List ℕ) : Type 0 where
  pub state : state_of s ≡ st
  pub setup : setup_of s ≡ u
  pub rows_are : rows ≡ state_table u st ++ rest
  pub free_are : s.free ≡ free_rows u.ii rows
  pub valid : Valid s rows

module _ {u : Setup} {st : State} {rest : List ℕ} {s : Session} {rows : List ℕ} (a : Stands u st rest s rows) where
  -- the rows of its table, and those after it
  stands_take : take u.ii rows ≡ state_table u st
  stands_take = ap (take u.ii) a.rows_are ∙ take_at (state_table u st) rest u.ii (length_table 2 u.ii _)

  stands_drop : drop u.ii rows ≡ rest
  stands_drop = ap (drop u.ii) a.rows_are ∙ drop_at (state_table u st) rest u.ii (length_table 2 u.ii _)

  -- its numbers are those of its table
  pub stands_free : s.free ≡ free_rows u.ii (state_table u st)
  stands_free = a.free_are ∙ ap (free_rows u.ii) a.rows_are ∙ free_front (state_table u st) rest u.ii (length_table 2 u.ii _)

  -- as many checkpoints are open as it counts
  pub stands_marks : s.marks ≡ length st.checkpoints
  stands_marks =
      sym (length-take-le s.marks s.saved (omega (arith, a.valid.few, a.valid.saved_all)))
      ∙ sym (length-map (take s.marks s.saved) _) ∙ ap (λ (x : State). length x.checkpoints) a.state

-- ---- calls

-- after a call
stepped_stands : {c : Call} {s s' : Session} {rows rows' : List ℕ} {r : Result Reply code.Refusal} → Stepped c s rows s' rows' r
    → Stands (setup_of s) (step (setup_of s) c (state_of s)).0 (drop s.interval rows) s' rows'
stepped_stands {s} {rows} t = record {
  state = t.state;
  setup = t.setup;
  rows_are = t.rows_are ∙ ap (λ (x : State). state_table (setup_of s) x ++ drop s.interval rows) t.state;
  free_are = t.free_are;
  valid = t.valid;
}

-- a call on a session that stands: its answer, and where it leads
step_stands : {u : Setup} {st : State} {rest : List ℕ} {c : Call} {s s' : Session} {rows rows' : List ℕ} {r : Result Reply code.Refusal}
    → Stands u st rest s rows → Stepped c s rows s' rows' r → (reply_of r ≡ (step u c st).1) × Stands u (step u c st).0 rest s' rows'
step_stands {c} {s} {s'} {rows} {rows'} a t = (
  t.reply ∙ ap₂ (λ (v : Setup) (x : State). (step v c x).1) a.setup a.state,
  subst₃ (λ (v : Setup) (x : State) (l : List ℕ). Stands v (step v c x).0 l s' rows') a.setup a.state
      (ap (λ (v : Setup). drop v.ii rows) a.setup ∙ stands_drop a) (stepped_stands t),
)

-- a list of calls
pub ran : {u : Setup} {st : State} {rest : List ℕ} {cs : List Call} {rs : List (Answer model.Reply)} {s s' : Session} {rows rows' : List ℕ}
    → Stands u st rest s rows → Run s rows cs rs s' rows' → (rs ≡ replies u cs st) × Stands u (after u cs st) rest s' rows'
unfolding after replies
ran a stop = (refl, a)
ran {u = u} {st = st} a (next {c = c} t r) =
    let b = step_stands a t in
    let d = ran {st = (step u c st).0} b.1 r in
    (ap₂ (λ (x : Answer model.Reply) (xs : List (Answer model.Reply)). x ∷ xs) b.0 d.0, d.1)

-- no call changes how many rows there are
pub stepped_length : {c : Call} {s s' : Session} {rows rows' : List ℕ} {r : Result Reply code.Refusal} → Valid s rows → Stepped c s rows s' rows' r → length rows' ≡ length rows
stepped_length {s = s} {s'} {rows} v t =
    let e : length (state_table (setup_of s) (state_of s')) ≡ s.interval = length_table 2 s.interval _ in
    ap length t.rows_are ∙ length-append (state_table (setup_of s) (state_of s')) (drop s.interval rows) ∙ omega (arith, e, length-drop s.interval rows, v.board.held.long)

-- ---- a list of calls, one by one

-- one call more
pub run_then : {c : Call} {cs : List Call} {rs : List (Answer model.Reply)} {s s' s'' : Session} {rows rows' rows'' : List ℕ} {r : Result Reply code.Refusal}
    → Run s rows cs rs s' rows' → Stepped c s' rows' s'' rows'' r → Run s rows (cs ++ (c ∷ [])) (rs ++ (reply_of r ∷ [])) s'' rows''
run_then stop t = next t stop
run_then (next u run) t = next u (run_then run t)

-- an answer for each call
pub run_count : {cs : List Call} {rs : List (Answer model.Reply)} {s s' : Session} {rows rows' : List ℕ} → Run s rows cs rs s' rows' → length rs ≡ length cs
run_count stop = refl
run_count (next t run) = ap suc (run_count run)

-- ---- opening

-- a session that was opened stands at the start
pub from_open : {f : List ℕ} {ii h : ℕ} {rows₀ rows : List ℕ} {s : Session} → Opened f ii h rows₀ (Ok s) rows
    → Stands (setup_as f ii h) (start (setup_as f ii h)) (drop ii rows₀) s rows
unfolding open_file
from_open {f} {ii} {h} {rows₀} {s} o =
    let u : Setup = setup_as f ii h in
    let e : setup_of s ≡ setup_as f ii h = same (first_refusal (open_checks f ii h (length rows₀))) o.says in
    let a : open_file f ii h (length rows₀) ≡ answered (setup_as f ii h) = sym o.says ∙ ap answered e in
    record {
      state = o.state s refl ∙ ap start e;
      setup = e;
      rows_are = o.rows_are ∙ ap (λ (x : Answer Setup). open_rows x rows₀) a ∙ ap (λ (x : List ℕ). x ++ drop ii rows₀) (sym (start_table u));
      free_are = o.free s refl;
      valid = o.valid s refl;
    }
  where
    same : {v w : Setup} (x : Option Refusal) → answered v ≡ settled x w → v ≡ w
    same none e = cc
    same (some r) e = cc

-- ---- what demand 3 says

-- the placing that the model reads off a session is that of its array
valid_placed : {s : Session} {rows : List ℕ} → Valid s rows → placed_in (state_of s).starts ≡ seats s.starts
valid_placed {s} v = same_seats (file_of s) s.starts v.board.accepted v.board.sane.whole v.board.sane.blank

-- what the bits of its rows say, with setup u
abbrev BitsAre : Setup → Session → List ℕ → Type 0
BitsAre u s rows =
    ((slot row : ℕ) → row < u.ii → 1 ≤ slot → slot ≤ 24 → digit_of row_base (get_or rows row 0) slot ≡ cond (covered_at u.loop u.ii (placed_in (state_of s).starts) slot row) 1 0)
    × ((row : ℕ) → row < u.ii → get_or rows row 0 < 2 ^ 24)

valid_bits : {s : Session} {rows : List ℕ} → Valid s rows → BitsAre (setup_of s) s rows
valid_bits {s} {rows} v =
    let l = loop_of (file_of s) in
    let d = legal_digits l s.interval (seats s.starts) (accepted_ok (file_of s) v.board.accepted) v.board.sane.fine in (
      λ slot row m lo hi. rw (valid_placed v) (bit_covered l s.interval (seats s.starts) rows v.board.held d slot row m lo hi),
      table_end s.interval _ rows v.board.held d,
    )

-- rolling back to a checkpoint m since which no call answered m gives the very state, rows and numbers of then
very_back : {s s₁ s₂ s' : Session} {rows rows₁ rows₂ rows' : List ℕ} {r₁ r : Result Reply code.Refusal} {cs₂ : List Call} {rs₂ : List (Answer model.Reply)} (m : ℕ)
    → Stepped checkpoint s₁ rows₁ s₂ rows₂ r₁ → reply_of r₁ ≡ answered (numbered m) → Run s₂ rows₂ cs₂ rs₂ s rows → NoneGives m rs₂
    → m ≤ s.marks → Stepped (rollback m) s rows s' rows' r
    → (state_of s' ≡ state_of s₂) × (rows' ≡ rows₂) × (s'.free ≡ s₂.free)
very_back {s₁} {rows₁} {cs₂} m t e run still high t' =
    let u : Setup = setup_of s₁ in
    let a = stepped_stands t in
    let b = ran a run in
    let d = (step_stands b.1 t').1 in
    let same = back_pure u m cs₂ (state_of s₁) (sym t.reply ∙ e) (subst (NoneGives m) b.0 still) (omega (arith, stands_marks b.1)) in
    let rows_same = d.rows_are ∙ ap (λ (x : State). state_table u x ++ drop s₁.interval rows₁) same ∙ sym a.rows_are in
    (d.state ∙ same ∙ sym a.state, rows_same, d.free_are ∙ ap (free_rows u.ii) rows_same ∙ sym a.free_are)

-- rolling back to an open checkpoint m, after calls since the opening, is done and gives the state just after the last call that answered m, its rows and its numbers
went_back_lem : {u : Setup} {rest : List ℕ} {s s' : Session} {rows rows' : List ℕ} {r : Result Reply code.Refusal} (m : ℕ) (cs : List Call) → Stands u (after u cs (start u)) rest s rows
    → 1 ≤ m → m ≤ s.marks → Stepped (rollback m) s rows s' rows' r
    → (reply_of r ≡ answered done)
    × (state_of s' ≡ marked_by u m cs (start u) (start u))
    × (rows' ≡ state_table u (marked_by u m cs (start u) (start u)) ++ rest)
    × (s'.free ≡ free_rows u.ii (state_table u (marked_by u m cs (start u) (start u))))
went_back_lem {u} {rest} m cs a low high t =
    let b = step_stands a t in
    let e = back_to u m cs (start u) refl low (omega (arith, stands_marks a)) in (
      b.0 ∙ ap (λ (x : State × Answer model.Reply). x.1) e,
      b.1.state ∙ ap (λ (x : State × Answer model.Reply). x.0) e,
      b.1.rows_are ∙ ap (λ (x : State × Answer model.Reply). state_table u x.0 ++ rest) e,
      stands_free b.1 ∙ ap (λ (x : State × Answer model.Reply). free_rows u.ii (state_table u x.0)) e,
    )

-- its placed operations, placed in any order on a session that was opened alike, are accepted and give its starts, its rows and its numbers
placed_again : {u : Setup} {rest rest₁ : List ℕ} {s s₁ s₂ : Session} {rows rows₁ rows₂ : List ℕ} {rs₂ : List (Answer model.Reply)} (cs : List Call) (os : List ℕ)
    → Stands u (after u cs (start u)) rest s rows → OrderOf (state_of s).starts os → Stands u (start u) rest₁ s₁ rows₁
    → Run s₁ rows₁ (placings (state_of s).starts os) rs₂ s₂ rows₂
    → AllDone rs₂ × ((state_of s₂).starts ≡ (state_of s).starts) × (take u.ii rows₂ ≡ take u.ii rows) × (s₂.free ≡ s.free)
placed_again {u} {s = s} cs os a q o r =
    let ok : LoopOk u.loop = rw (← a.setup) (accepted_ok (file_of s) a.valid.board.accepted) in
    let pos : 1 ≤ u.ii = rw (← a.setup) a.valid.board.numbers.some in
    let w = replay u ok pos (state_of s).starts (subst (λ (x : State). Good u x.starts) (sym a.state) (good_run u ok pos cs).now) os q in
    let b = ran o r in
    let tables = ap (state_table u) w.1 ∙ ap (state_table u) a.state in (
      subst AllDone (sym b.0) w.0,
      ap (λ (x : State). x.starts) (b.1.state ∙ w.1),
      stands_take b.1 ∙ tables ∙ sym (stands_take a),
      stands_free b.1 ∙ ap (free_rows u.ii) tables ∙ sym (stands_free a),
    )

-- demand 3
pub demand3 : Demand3
demand3 f ii h rows₀ rows₁ rows s₁ s cs rs o r =
    let a = ran (from_open o) r in
    let b = subst (λ (u : Setup). BitsAre u s rows) a.1.setup (valid_bits a.1.valid) in
    record {
      answers = a.0;
      state = a.1.state;
      table = a.1.rows_are;
      bits = b.0;
      bits_end = b.1;
      free = a.1.free_are;
      setup = a.1.setup;
      valid = a.1.valid;
      back = λ m. went_back_lem m cs a.1;
      very = λ m. very_back m;
      again = λ os q o₁. placed_again cs os a.1 q (from_open o₁);
    }
