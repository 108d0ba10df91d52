-- What opening comes to: the first refusal, or an empty session on cleared rows. Assumes nothing.
use mathlib.Core.Path.{◌≡◌, refl, sym, ap, ◌∙◌, subst}
use mathlib.Core.List.{List, [], ◌∷◌, ◌++◌, map}
use mathlib.Core.Option.{Option, none, some}
use Prim.Native.Nat.{ℕ, suc, ◌+◌, ◌≤◌}
use native.Mathlib.Nat.{not-suc-le-zero}
use native.Mathlib.Omega.{arith}
use borrow.Author.Tests.{ltb-false}
use lib.ListN.{length, take, drop, replicate, length-replicate, get_or-replicate, length-append, length-drop}
use lib.LanesLaws.{map-replicate}
use lib.Seq.{take_at}
use Rattle.std.proofs.lemmas.List.{take-replicate}
use Rattle.std.specs.Prelude.{Result, Ok, Err, IsErrAnd, IfErr}
use Rattle.refusals.specs.Told.{told, refusal_of}
use Rattle.refusals.specs.declared.Refusal as code
use Rattle.model.specs.Refusals.{Refusal, first_refusal, Answer, answered, refused, settled, Check, range, lent}
use Rattle.model.specs.Loop.{size}
use Rattle.model.specs.File.{longest, loop_of, Accepted, file_checks}
use Rattle.model.specs.Table.{free_rows}
use Rattle.model.specs.Session.{Setup, Starts, open_checks, open_file, open_rows, start}
use Rattle.model.proofs.Lists.{get_or_filled}
use Rattle.model.proofs.File.{layout, accepted_ok}
use Rattle.model.proofs.Free.{free_same, free_held, held_nothing}
use Rattle.model.proofs.Checks.{passes_left, passes_right, passes_head, passes_tail, at_most, at_least}
use Rattle.reservation.specs.Seats.{seat_of, seats}
use Rattle.board.specs.Board.{starts_of, setup_as, Board}
use Rattle.session.specs.View.{file_of, setup_of, state_of, blank, Valid, Opened}
use Rattle.session.specs.declared.Session.{Session}
use Rattle.board.proofs.Boards.{few_operations, empty_board}

-- ---- an empty array

-- the model reads no start off it
blank_starts : (n m : ℕ) → n ≤ m → starts_of n (replicate m 65535) ≡ replicate n none
blank_starts n m h = ap (map seat_of) (take-replicate n m 65535 h) ∙ map-replicate seat_of n 65535

-- ---- the answers

-- what an opening that is not refused has
pub record Fits (f : List ℕ) (ii h rows : ℕ) : Type 0 where
  pub accepted : Accepted f
  pub some : 1 ≤ ii
  pub long : ii ≤ 4096
  pub far : h ≤ 4096
  pub room : ii ≤ rows

module _ (f : List ℕ) (ii h : ℕ) (rows : List ℕ) where
  -- the checks after the reader's
  abbrev numbers : List Check
  numbers = range 1 4096 ii ∷ range 2 4096 h ∷ lent ii (length rows) ∷ []

  -- refused, and the refusal is passed on
  pub open_refused : {A : Type 0} {c : Result A code.Refusal} {x : code.Refusal} (r : Result Session code.Refusal) → refusal_of c ≡ first_refusal (open_checks f ii h (length rows)) → c ≡ Err x
      → IsErrAnd r (λ y. IfErr c (λ x. y ≡ x)) → Opened f ii h rows r rows
  unfolding open_file
  open_refused (Ok s) e q w = absurd w
  open_refused {x = x} (Err y) e q w =
      let same : y ≡ x = rw q at w in
      let z : open_file f ii h (length rows) ≡ refused (told y) = ap (λ (o : Option Refusal). settled o (setup_as f ii h)) (sym e ∙ ap refusal_of q ∙ ap (λ (r : code.Refusal). some (told r)) (sym same)) in
      record {
        says = sym z;
        rows_are = ap (λ (a : Answer Setup). open_rows a rows) (sym z);
        state = λ s p. cc;
        free = λ s p. cc;
        valid = λ s p. let n : ⊥ = cc in absurd n;
      }

  module _ (e : none ≡ first_refusal (open_checks f ii h (length rows))) where
    -- what the checks tell
    pub open_fits : Fits f ii h (length rows)
    unfolding open_checks
    open_fits =
        let p = sym e in
        let n = passes_right (file_checks f) numbers p in
        record {
          accepted = passes_left (file_checks f) numbers p;
          some = at_least 4096 ii (passes_head _ _ n);
          long = at_most 4096 ii (passes_head _ _ n);
          far = at_most 4096 h (passes_head _ _ (passes_tail _ _ n));
          room = ltb-false (length rows) ii (passes_head _ _ (passes_tail _ _ (passes_tail _ _ n)));
        }

    open_accepted : Accepted f
    open_accepted = open_fits.accepted

    module _ (old store rows' : List ℕ) (whole : length old ≡ longest) (copied : store ≡ f ++ drop (length f) old) (clear : rows' ≡ replicate ii 0 ++ drop ii rows) where
      -- the session that is opened
      abbrev opened : Session
      opened = record { file = store; length = length f; interval = ii; horizon = h; starts = replicate 64 65535; free = replicate 24 ii; marks = 0; saved = replicate 16 blank }

      -- its file
      same_file : file_of opened ≡ f
      same_file = ap (take (length f)) copied ∙ take_at f (drop (length f) old) (length f) refl

      empty : Board f ii h (replicate 64 65535) rows'
      empty = empty_board rows open_accepted (record { some = open_fits.some; short = open_fits.long; far = open_fits.far }) open_fits.room clear

      -- the numbers are those of the cleared rows
      all_free : replicate 24 ii ≡ free_rows ii rows'
      all_free =
          free_same ii rows' (replicate 24 ii) (length-replicate 24 ii) (λ i l.
          omega (
            arith,
            get_or-replicate 24 i ii 0 l,
            free_held (loop_of f) ii (seats (replicate 64 65535)) rows' (accepted_ok f open_accepted) open_fits.some empty.sane.fine empty.held (suc i) (omega arith) (omega arith),
            held_nothing (loop_of f) (seats (replicate 64 65535)) (λ o. ap seat_of (get_or_filled 64 o 65535)) (suc i),
          ))

      -- opened
      pub open_done : Opened f ii h rows (Ok opened) rows'
      unfolding open_file
      open_done =
          let z : open_file f ii h (length rows) ≡ answered (setup_as f ii h) = ap (λ (o : Option Refusal). settled o (setup_as f ii h)) (sym e) in
          let about = λ (P : Session → Type 0) (x : P opened) (s : Session) (p : Ok opened ≡ Ok s). subst P (same s p) x in
          record {
            says = ap (λ (g : List ℕ). answered (setup_as g ii h)) same_file ∙ sym z;
            rows_are = clear ∙ ap (λ (a : Answer Setup). open_rows a rows) (sym z);
            state = about (λ s. state_of s ≡ start (setup_of s)) state_is;
            free = about (λ s. s.free ≡ free_rows ii rows') all_free;
            valid = about (λ s. Valid s rows') valid_is;
          }
        where
          same : (s : Session) → ◌≡◌ {A = Result Session code.Refusal} (Ok opened) (Ok s) → opened ≡ s
          same s p = cc

          state_is : state_of opened ≡ start (setup_of opened)
          state_is = ap (λ (xs : Starts). record { starts = xs; checkpoints = [] }) (blank_starts (size (loop_of (file_of opened))) 64 (few_operations (file_of opened) (rw same_file open_accepted)))

          valid_is : Valid opened rows'
          valid_is =
              record {
                stored = ap length copied ∙ length-append f (drop (length f) old) ∙ lengths;
                fits_in = (layout f open_accepted).short;
                saved_all = length-replicate 16 blank;
                few = omega arith;
                board = rw same_file empty;
                free = all_free;
                kept = λ i l. absurd (not-suc-le-zero l);
                kept_free = λ i l. absurd (not-suc-le-zero l);
              }
            where
              lengths : length f + length (drop (length f) old) ≡ longest
              lengths = omega (arith, length-drop (length f) old, (layout f open_accepted).short, whole)

-- what holds once nothing is against the opening
pub ruleset fits = (open_fits, layout)
