-- A list of calls replayed: which call three numbers are, whether the list is fit, the calls made one after the other, and what the whole comes to. Assumes nothing.
use mathlib.Core.Path.{◌≡◌, refl, sym, ap, ap₂, ◌∙◌, subst}
use mathlib.Core.List.{List, [], ◌∷◌, ◌++◌, map, flat_map}
use mathlib.Core.Option.{Option, none, some}
use Prim.Native.Nat.{ℕ, ◌+◌, ◌*◌, ◌≤◌}
use native.Mathlib.Omega.{arith}
use borrow.Author.Tests.{ltb-false}
use lib.ListN.{length}
use Rattle.model.specs.Lists.{up_from, written}
use Rattle.std.specs.Prelude.{Result, Ok, Err}
use Rattle.model.specs.Refusals.{Refusal, first_refusal, Answer, answered, refused, settled}
use Rattle.model.specs.Session.{Setup, State, Call, open_checks, open_file, open_rows, after, replies}
use Rattle.model.specs.Session as model
use Rattle.model.proofs.Lists.{up_from_snoc, length_tabulate, map_append, written_more}
use Rattle.model.proofs.Checks.{refusal_append, refusal_early, passes_head, passes_tail, passes_right}
use Rattle.refusals.specs.Told.{told}
use Rattle.board.specs.Board.{setup_as}
use Rattle.board.specs.Moves.{reply_of}
use Rattle.session.specs.View.{Stepped, Opened}
use Rattle.session.specs.Undo.{Run, stop}
use Rattle.session.specs.declared.Session.{Session}
use Rattle.board.specs.declared.Reply.{Reply}
use Rattle.refusals.specs.declared.Refusal as code
use Rattle.session.proofs.Calls.{stands_free, stands_marks, run_then, run_count, from_open, ran}
use Rattle.replay.specs.Words.{number_of, words_of}
use Rattle.replay.specs.Replay.{call_count, call_at, first_calls, calls_of, kind_check, call_checks, replay_file, reply_words, all_words, start_words, end_words, replies_left, starts_left, free_left, rows_left, Replayed, Made}
use Rattle.replay.proofs.Words.{words_length, words_then, starts_told}

-- ---- what fit calls have

pub fit_room : (xs : List ℕ) (room : ℕ) → first_refusal (call_checks xs room) ≡ none → 2 * call_count xs ≤ room
unfolding call_checks
fit_room xs room e = ltb-false room (2 * call_count xs) (passes_head _ _ (passes_tail _ _ (passes_right (flat_map (kind_check xs) (up_from 0 (call_count xs))) _ e)))

-- ---- calls one after the other

-- calls made from s and rows lead to s' and rows', and the answers are written
pub record Walked (cs : List Call) (s : Session) (rows old : List ℕ) (s' : Session) (rows' new : List ℕ) : Type 0 where
  pub answers : List (Answer model.Reply)
  pub run : Run s rows cs answers s' rows'
  pub words : new ≡ written 0 (all_words answers) old

module _ (xs : List ℕ) where
  calls_then : (i : ℕ) → first_calls xs (i + 1) ≡ first_calls xs i ++ (call_at xs i ∷ [])
  calls_then i =
      ap (first_calls xs) (omega arith) ∙ ap (map (call_at xs)) (up_from_snoc 0 i) ∙ map_append (call_at xs) (up_from 0 i) ((0 + i) ∷ [])
      ∙ ap (λ (k : ℕ). first_calls xs i ++ (call_at xs k ∷ [])) (omega arith)

  -- none yet
  pub made_none : (s : Session) (rows old : List ℕ) → Walked (first_calls xs 0) s rows old s rows old
  unfolding up_from written all_words flat_map
  made_none s rows old = record { answers = []; run = stop; words = refl }

  -- one more
  pub made_next : (i : ℕ) {s t t' : Session} {rows rows' rows'' old new new' : List ℕ} {r : Result Reply code.Refusal} → Walked (first_calls xs i) s rows old t rows' new
      → Stepped (call_at xs i) t rows' t' rows'' r → new' ≡ written (2 * i) (reply_words (reply_of r)) new → Walked (first_calls xs (i + 1)) s rows old t' rows'' new'
  made_next i {s} {t' = t'} {rows} {rows'' = rows''} {old = old} {r = r} m t e =
      let rs = m.answers in
      let a = reply_of r in
      let place : 2 * i ≡ 0 + length (all_words rs) = omega (arith, words_length rs, run_count m.run, length_tabulate (call_at xs) 0 i) in
      record {
        answers = rs ++ (a ∷ []);
        run = subst (λ (cs : List Call). Run s rows cs (rs ++ (a ∷ [])) t' rows'') (sym (calls_then i)) (run_then m.run t);
        words =
            e ∙ ap₂ (λ (k : ℕ) (ws : List ℕ). written k (reply_words a) ws) place m.words
            ∙ sym (written_more 0 (all_words rs) (reply_words a) old) ∙ ap (λ (ws : List ℕ). written 0 ws old) (sym (words_then rs a));
      }

-- ---- the whole

module _ (f : List ℕ) (ii h : ℕ) (calls rows replies starts free before after : List ℕ) where
  -- what the model says of it
  abbrev says : Answer Setup
  says = replay_file f ii h calls (length rows) (length replies)

  -- refused: nothing is written but the answer
  replayed_refused : (r : code.Refusal) → says ≡ refused (told r) → after ≡ written 0 ((told r).detail ∷ 0 ∷ 0 ∷ 0 ∷ 0 ∷ 0 ∷ 0 ∷ 0 ∷ []) before
      → Replayed f ii h calls rows replies starts free before (told r).number rows replies starts free after
  replayed_refused r e w =
      record {
        gives = record { number = ap number_of (sym e); words = w ∙ ap (λ (a : Answer Setup). written 0 (words_of (end_words (calls_of calls)) a) before) (sym e) };
        replies_are = ap (λ (a : Answer Setup). replies_left (calls_of calls) a replies) (sym e);
        starts_are = ap (λ (a : Answer Setup). starts_left (calls_of calls) a starts) (sym e);
        free_are = ap (λ (a : Answer Setup). free_left (calls_of calls) a free) (sym e);
        rows_are = ap (λ (a : Answer Setup). rows_left (calls_of calls) a rows) (sym e);
      }

  -- for the calls
  pub calls_refused : (r : code.Refusal) → some (told r) ≡ first_refusal (call_checks calls (length replies))
      → after ≡ written 0 ((told r).detail ∷ 0 ∷ 0 ∷ 0 ∷ 0 ∷ 0 ∷ 0 ∷ 0 ∷ []) before → Replayed f ii h calls rows replies starts free before (told r).number rows replies starts free after
  unfolding replay_file
  calls_refused r e w =
      replayed_refused r (ap (λ (o : Option Refusal). settled o (setup_as f ii h)) (refusal_early (call_checks calls (length replies)) (open_checks f ii h (length rows)) _ (sym e))) w

  module _ (fit : first_refusal (call_checks calls (length replies)) ≡ none) where
    -- where nothing is against the calls, opening decides
    as_opened : says ≡ open_file f ii h (length rows)
    unfolding replay_file open_file
    as_opened = ap (λ (o : Option Refusal). settled o (setup_as f ii h)) (refusal_append (call_checks calls (length replies)) (open_checks f ii h (length rows)) fit)

    -- by opening
    pub opening_refused : {r : code.Refusal} {rows' : List ℕ} → Opened f ii h rows (Err r) rows'
        → after ≡ written 0 ((told r).detail ∷ 0 ∷ 0 ∷ 0 ∷ 0 ∷ 0 ∷ 0 ∷ 0 ∷ []) before → Replayed f ii h calls rows replies starts free before (told r).number rows' replies starts free after
    opening_refused {r} o w =
        rw (o.rows_are ∙ ap (λ (a : Answer Setup). open_rows a rows) (sym o.says)) (replayed_refused r (as_opened ∙ sym o.says) w)

    -- all calls made
    pub all_made : {s s' : Session} {rows₁ rows' replies' starts' free' : List ℕ} {marks : ℕ} → Opened f ii h rows (Ok s) rows₁
        → Made (calls_of calls) s rows₁ replies marks s' rows' replies' starts' free' → after ≡ written 0 (0 ∷ call_count calls ∷ marks ∷ 0 ∷ 0 ∷ 0 ∷ 0 ∷ 0 ∷ []) before
        → Replayed f ii h calls rows replies starts free before 0 rows' replies' starts' free' after
    all_made o m w =
        let u : Setup = setup_as f ii h in
        let cs : List Call = calls_of calls in
        let b = ran (from_open o) m.run in
        let e : says ≡ answered u = as_opened ∙ sym o.says ∙ ap answered (from_open o).setup in
        record {
          gives =
              record {
                number = ap number_of (sym e);
                words =
                    w
                    ∙ ap₂ (λ (n k : ℕ). written 0 (0 ∷ n ∷ k ∷ 0 ∷ 0 ∷ 0 ∷ 0 ∷ 0 ∷ []) before) (sym (length_tabulate (call_at calls) 0 (call_count calls)))
                    (m.marks_are ∙ stands_marks b.1)
                    ∙ ap (λ (a : Answer Setup). written 0 (words_of (end_words cs) a) before) (sym e);
              };
          replies_are =
              m.words ∙ ap (λ (rs : List (Answer model.Reply)). written 0 (all_words rs) replies) b.0
              ∙ ap (λ (a : Answer Setup). replies_left cs a replies) (sym e);
          starts_are =
              m.starts_are ∙ starts_told b.1.valid ∙ ap (λ (st : State). start_words st.starts) b.1.state
              ∙ ap (λ (a : Answer Setup). starts_left cs a starts) (sym e);
          free_are = m.free_are ∙ stands_free b.1 ∙ ap (λ (a : Answer Setup). free_left cs a free) (sym e);
          rows_are = b.1.rows_are ∙ ap (λ (a : Answer Setup). rows_left cs a rows) (sym e);
        }
