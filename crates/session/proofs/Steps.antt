-- From what the calls do to starts and rows to `Stepped`, for each return of each call. Assumes nothing.
use mathlib.Core.Path.{◌≡◌, refl, sym, ap, ap₂, ◌∙◌}
use mathlib.Core.List.{List, [], ◌∷◌, ◌++◌, map}
use mathlib.Core.Option.{Option, none, some}
use Prim.Native.Nat.{ℕ, ◌+◌, ◌-◌, ◌≤◌, ◌<◌}
use native.Mathlib.Numerals.{add-one}
use native.Mathlib.Omega.{arith}
use borrow.Author.Count.{below_more}
use borrow.Author.Tests.{eq-eqb, ne_eqb, le-leb, lt-ltb}
use lib.ListN.{length, get_or, set, take, drop, length-map, length-set, take-append-drop}
use lib.Seq.{length-take-le, take-suc-set, take-take, get_or-take, get_or-set_same, get_or-set_other}
use Rattle.std.specs.Prelude.{Result, Ok, Err}
use Rattle.model.specs.Refusals.{Refusal, Check, first_refusal, Answer, answered, settled}
use Rattle.model.specs.Loop.{size}
use Rattle.model.specs.File.{loop_of}
use Rattle.model.specs.Legality.{Placing}
use Rattle.model.specs.Table.{row_base, cells_of, table_at, IsTable, free_rows}
use Rattle.model.specs.Session.{Setup, Starts, State, Call, checkpoint, release, rollback, Reply, placed_in, checks, effect, step_as, step}
use Rattle.model.specs.Session as model
use Rattle.model.proofs.Lists.{map_append, map_take, get_or_map_lt}
use Rattle.model.proofs.Firsts.{get_or_within}
use Rattle.model.proofs.Table.{table_take}
use Rattle.model.proofs.Free.{free_table}
use Rattle.model.proofs.Session.{step_refused, step_done, checkpoint_done, rollback_done}
use Rattle.reservation.specs.Seats.{seats}
use Rattle.refusals.specs.Told.{told}
use Rattle.refusals.specs.declared.Refusal as code
use Rattle.refusals.specs.declared.Refusal.TheVariants as refusal
use Rattle.board.specs.Board.{starts_of, Sane, Board}
use Rattle.board.specs.Moves.{Did, Restored}
use Rattle.session.specs.View.{file_of, setup_of, state_of, blank, kept_now, free_of_starts, Valid, Stepped}
use Rattle.session.specs.declared.Kept as kept
use Rattle.session.specs.declared.Session.{Session}
use Rattle.board.specs.declared.Reply as declared
use Rattle.board.specs.declared.Reply.TheVariants as reply
use Rattle.board.proofs.Boards.{same_seats}

-- ---- rows

-- the rows of a board are the table of its starts, then the later rows
pub board_rows : {f : List ℕ} {ii h : ℕ} {xs rows' : List ℕ} (rows : List ℕ) → Board f ii h xs rows' → drop ii rows' ≡ drop ii rows
    → rows' ≡ table_at (loop_of f) ii (placed_in (starts_of (size (loop_of f)) xs)) ++ drop ii rows
board_rows {f} {ii} {xs = xs} {rows'} rows b e =
    sym (take-append-drop ii rows')
    ∙ ap₂ (λ (a c : List ℕ). a ++ c)
    (table_take 2 ii (cells_of (loop_of f) ii (seats xs)) rows' b.held
    ∙ ap (λ (g : Placing). table_at (loop_of f) ii g) (sym (same_seats f xs b.accepted b.sane.whole b.sane.blank)))
    e

-- ---- calls that leave the checkpoints alone

abbrev mk : Starts → List Starts → State
mk a b = record { starts = a; checkpoints = b }

-- such a call does the same whatever checkpoints are there
step_plain : (u : Setup) (c : Call) (a : Starts) (cs : List Starts) → checks u c (mk a cs) ≡ checks u c (mk a [])
    → effect u c (mk a cs) ≡ (mk (effect u c (mk a [])).0.starts cs, (effect u c (mk a [])).1)
    → step u c (mk a cs) ≡ (mk (step u c (mk a [])).0.starts cs, (step u c (mk a [])).1)
unfolding step
step_plain u c a cs p q =
    ap₂ (λ (t : List Check) (e : State × Reply). step_as (mk a cs) (settled (first_refusal t) e)) p q ∙ pick (first_refusal (checks u c (mk a [])))
  where
    pick : (o : Option Refusal)
        → step_as (mk a cs) (settled o (mk (effect u c (mk a [])).0.starts cs, (effect u c (mk a [])).1))
        ≡ (mk (step_as (mk a []) (settled o (effect u c (mk a [])))).0.starts cs, (step_as (mk a []) (settled o (effect u c (mk a [])))).1)
    pick none = refl
    pick (some r) = refl

-- the session with other starts and numbers
abbrev with_placed : Session → (xs free : List ℕ) → Session
with_placed s xs free =
    record { file = s.file; length = s.length; interval = s.interval; horizon = s.horizon; starts = xs; free = free; marks = s.marks; saved = s.saved }

module _ (s : Session) (rows : List ℕ) (v : Valid s rows) where
  -- from what a call did to the starts, the rows and the numbers
  pub stepped_plain : (c : Call) {xs' rows' free' : List ℕ} {r : Result declared.Reply code.Refusal}
      → ((a : Starts) (cs : List Starts) → checks (setup_of s) c (mk a cs) ≡ checks (setup_of s) c (mk a []))
      → ((a : Starts) (cs : List Starts) → effect (setup_of s) c (mk a cs) ≡ (mk (effect (setup_of s) c (mk a [])).0.starts cs, (effect (setup_of s) c (mk a [])).1))
      → Did c (file_of s) s.interval s.horizon s.starts rows xs' rows' r × (free' ≡ free_rows s.interval rows') → Stepped c s rows (with_placed s xs' free') rows' r
  stepped_plain c p q both =
      let d = both.0 in
      let u : Setup = setup_of s in
      let a : Starts = (state_of s).starts in
      let cs : List Starts = (state_of s).checkpoints in
      let e : step u c (mk a cs) ≡ (mk (step u c (mk a [])).0.starts cs, (step u c (mk a [])).1) = step_plain u c a cs (p a cs) (q a cs) in
      record {
        reply = d.reply ∙ sym (ap (λ (x : State × Answer Reply). x.1) e);
        state = ap (λ (x : Starts). mk x cs) d.starts_are ∙ sym (ap (λ (x : State × Answer Reply). x.0) e);
        setup = refl;
        rows_are = board_rows rows d.board d.rest;
        free_are = both.1;
        valid =
            record {
              stored = v.stored;
              fits_in = v.fits_in;
              saved_all = v.saved_all;
              few = v.few;
              board = d.board;
              free = both.1;
              kept = v.kept;
              kept_free = v.kept_free;
            };
        same = λ x z. let k = d.kept x z in (ap₂ (with_placed s) k.0 (both.1 ∙ ap (free_rows s.interval) k.1 ∙ sym v.free), k.1);
      }

  -- a call refused before anything was looked at
  stepped_refused : (c : Call) (r : code.Refusal) → first_refusal (checks (setup_of s) c (state_of s)) ≡ some (told r) → Stepped c s rows s rows (Err r)
  stepped_refused c r e =
      let z = step_refused (setup_of s) c (state_of s) (told r) e in
      record {
        reply = sym (ap (λ (x : State × Answer Reply). x.1) z);
        state = sym (ap (λ (x : State × Answer Reply). x.0) z);
        setup = refl;
        rows_are = board_rows rows v.board refl;
        free_are = v.free;
        valid = v;
        same = λ x w. (refl, refl);
      }

  -- how many checkpoints are open
  pub open_count : length (state_of s).checkpoints ≡ s.marks
  open_count = length-map (take s.marks s.saved) _ ∙ length-take-le s.marks s.saved (omega (arith, v.few, v.saved_all))

  -- ---- checkpoint

  pub full : 16 ≤ s.marks → Stepped checkpoint s rows s rows (Err refusal.Checkpoints)
  unfolding first_refusal
  full h = stepped_refused checkpoint refusal.Checkpoints (rw (open_count, le-leb 16 s.marks h))

  -- the session with one checkpoint more
  abbrev marked : Session
  marked =
      record { file = s.file; length = s.length; interval = s.interval; horizon = s.horizon; starts = s.starts; free = s.free; marks = s.marks + 1; saved = set s.saved s.marks (kept_now s) }

  pub stepped_checkpoint : s.marks < 16 → Stepped checkpoint s rows marked rows (Ok (reply.Numbered (s.marks + 1)))
  stepped_checkpoint h =
      let z = checkpoint_done (setup_of s) (state_of s) (omega (arith, open_count)) in
      record {
        reply = ap (λ (n : ℕ). answered (model.numbered (n + 1))) (sym open_count) ∙ sym (ap (λ (x : State × Answer Reply). x.1) z);
        state = ap (mk (state_of s).starts) copies ∙ sym (ap (λ (x : State × Answer Reply). x.0) z);
        setup = refl;
        rows_are = board_rows rows v.board refl;
        free_are = v.free;
        valid =
            record {
              stored = v.stored;
              fits_in = v.fits_in;
              saved_all = length-set s.saved s.marks (kept_now s) ∙ v.saved_all;
              few = omega arith;
              board = v.board;
              free = v.free;
              kept = pick;
              kept_free = pick_free;
            };
        same = λ x w. cc;
      }
    where
      read : kept.Kept → Starts
      read x = starts_of (size (loop_of (file_of s))) x.starts

      copies : map read (take (s.marks + 1) (set s.saved s.marks (kept_now s))) ≡ map read (take s.marks s.saved) ++ (read (kept_now s) ∷ [])
      copies =
          ap (map read) (ap (λ (n : ℕ). take n (set s.saved s.marks (kept_now s))) (add-one s.marks) ∙ take-suc-set s.saved s.marks (kept_now s) (omega (arith, v.saved_all)))
          ∙ map_append read (take s.marks s.saved) (kept_now s ∷ [])

      pick : (i : ℕ) → i < s.marks + 1 → Sane (loop_of (file_of s)) s.interval s.horizon (get_or (set s.saved s.marks (kept_now s)) i blank).starts
      pick = below_more _ _ (λ i l. rw (get_or-set_other s.saved s.marks i (kept_now s) blank (λ e. omega arith)) (v.kept i l))
          (rw (get_or-set_same s.saved s.marks (kept_now s) blank (omega (arith, v.saved_all))) v.board.sane)

      pick_free : (i : ℕ) → i < s.marks + 1 → let p = get_or (set s.saved s.marks (kept_now s)) i blank in p.free ≡ free_of_starts s p.starts
      pick_free = below_more _ _ (λ i l. rw (get_or-set_other s.saved s.marks i (kept_now s) blank (λ e. omega arith)) (v.kept_free i l))
          (rw (get_or-set_same s.saved s.marks (kept_now s) blank (omega (arith, v.saved_all)))
          (v.free ∙ free_table s.interval (cells_of (loop_of (file_of s)) s.interval (seats s.starts)) rows v.board.held))

  -- ---- release

  pub none_open : s.marks ≡ 0 → Stepped release s rows s rows (Err refusal.NoCheckpoint)
  unfolding first_refusal
  none_open e = stepped_refused release refusal.NoCheckpoint (rw (open_count, eq-eqb s.marks 0 e))

  -- the session with n checkpoints, of those that are open
  abbrev fewer : ℕ → Session
  fewer n = record { file = s.file; length = s.length; interval = s.interval; horizon = s.horizon; starts = s.starts; free = s.free; marks = n; saved = s.saved }

  -- the first n of the open checkpoints
  first_open : (n : ℕ) → n ≤ s.marks → (state_of (fewer n)).checkpoints ≡ take n (state_of s).checkpoints
  first_open n h = ap (map _) (sym (take-take n s.marks s.saved h)) ∙ map_take _ n (take s.marks s.saved)

  pub stepped_release : (s.marks ≡ 0 → ⊥) → Stepped release s rows (fewer (s.marks - 1)) rows (Ok reply.Done)
  unfolding first_refusal
  stepped_release n =
      let z = step_done (setup_of s) release (state_of s) (rw (open_count, ne_eqb s.marks 0 n)) in
      record {
        reply = sym (ap (λ (x : State × Answer Reply). x.1) z);
        state =
            ap (mk (state_of s).starts) (first_open (s.marks - 1) (omega arith) ∙ ap (λ (k : ℕ). take (k - 1) (state_of s).checkpoints) (sym open_count))
            ∙ sym (ap (λ (x : State × Answer Reply). x.0) z);
        setup = refl;
        rows_are = board_rows rows v.board refl;
        free_are = v.free;
        valid =
            record {
              stored = v.stored;
              fits_in = v.fits_in;
              saved_all = v.saved_all;
              few = omega (arith, v.few);
              board = v.board;
              free = v.free;
              kept = λ i l. v.kept i (omega arith);
              kept_free = λ i l. v.kept_free i (omega arith);
            };
        same = λ x w. cc;
      }

  -- ---- rollback

  pub no_mark : (m : ℕ) → m ≡ 0 → Stepped (rollback m) s rows s rows (Err refusal.NoCheckpoint)
  unfolding first_refusal
  no_mark m e = stepped_refused (rollback m) refusal.NoCheckpoint (rw (eq-eqb m 0 e))

  pub not_open : (m : ℕ) → (m ≡ 0 → ⊥) → s.marks < m → Stepped (rollback m) s rows s rows (Err refusal.NoCheckpoint)
  unfolding first_refusal
  not_open m n h = stepped_refused (rollback m) refusal.NoCheckpoint (rw (open_count, ne_eqb m 0 n, lt-ltb s.marks m h))

  module _ (m : ℕ) (some : m ≡ 0 → ⊥) (there : m ≤ s.marks) (d : kept.Kept) where
    -- the starts of the checkpoint
    abbrev wanted : kept.Kept
    wanted = get_or s.saved (m - 1) d

    -- they are sane, whatever stands past the end
    pub wanted_sane : Sane (loop_of (file_of s)) s.interval s.horizon wanted.starts
    wanted_sane =
        rw (get_or_within s.saved (m - 1) d blank (omega (arith, v.saved_all, v.few))) (v.kept (m - 1) (omega arith))

    -- and its numbers are those of the rows that hold them
    wanted_free : (rows' : List ℕ) → IsTable row_base s.interval (cells_of (loop_of (file_of s)) s.interval (seats wanted.starts)) rows' → wanted.free ≡ free_rows s.interval rows'
    wanted_free rows' held =
        rw (get_or_within s.saved (m - 1) d blank (omega (arith, v.saved_all, v.few))) (v.kept_free (m - 1) (omega arith))
        ∙ sym (free_table s.interval (cells_of (loop_of (file_of s)) s.interval (seats wanted.starts)) rows' held)

    -- the session gone back to it
    abbrev back : Session
    back = record { file = s.file; length = s.length; interval = s.interval; horizon = s.horizon; starts = wanted.starts; free = wanted.free; marks = m; saved = s.saved }

    pub stepped_rollback : {xs' rows' : List ℕ} → Restored (file_of s) s.interval wanted.starts rows xs' rows' → Stepped (rollback m) s rows back rows' (Ok reply.Done)
    stepped_rollback {rows' = rows'} k =
        let z = rollback_done (setup_of s) (state_of s) m (omega arith) (omega (arith, open_count)) in
        let b : Board (file_of s) s.interval s.horizon wanted.starts rows' =
        record { accepted = v.board.accepted; numbers = v.board.numbers; sane = wanted_sane; held = k.held } in
        record {
          reply = sym (ap (λ (x : State × Answer Reply). x.1) z);
          state = ap₂ mk (sym there_is) (first_open m there) ∙ sym (ap (λ (x : State × Answer Reply). x.0) z);
          setup = refl;
          rows_are = board_rows rows b k.rest;
          free_are = wanted_free rows' k.held;
          valid =
              record {
                stored = v.stored;
                fits_in = v.fits_in;
                saved_all = v.saved_all;
                few = omega (arith, v.few);
                board = b;
                free = wanted_free rows' k.held;
                kept = λ i l. v.kept i (omega arith);
                kept_free = λ i l. v.kept_free i (omega arith);
              };
          same = λ x w. cc;
        }
      where
        there_is : get_or (state_of s).checkpoints (m - 1) [] ≡ starts_of (size (loop_of (file_of s))) wanted.starts
        there_is =
            get_or_map_lt _ (take s.marks s.saved) (m - 1) d [] (omega (arith, length-take-le s.marks s.saved (omega (arith, v.few, v.saved_all))))
            ∙ ap (λ (x : kept.Kept). starts_of (size (loop_of (file_of s))) x.starts) (get_or-take s.marks s.saved (m - 1) d (omega arith))
