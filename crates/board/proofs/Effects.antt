-- What placing and removing come to: from the checks and the leaf to `Did`. Assumes nothing.
use mathlib.Core.Path.{◌≡◌, refl, sym, ap, ◌∙◌, subst}
use mathlib.Core.Bool.{true}
use mathlib.Core.List.{List}
use mathlib.Core.Option.{none, some}
use Prim.Native.Nat.{ℕ, ◌<◌}
use native.Mathlib.Decide.{ℕ_discrete}
use native.Mathlib.Omega.{arith}
use borrow.Author.Tests.{leb-false, not-false}
use lib.ListN.{length, get_or, set, drop, length-set}
use lib.Seq.{get_or-set_other}
use Rattle.model.specs.Refusals.{Refusal, first_refusal, Answer, answered, refused}
use Rattle.model.specs.Loop.{size}
use Rattle.model.specs.File.{loop_of}
use Rattle.model.specs.Legality.{Placing, fits_at}
use Rattle.model.specs.Session.{State, Call, place, remove, Reply, is_placed, checks, effect, step}
use Rattle.model.proofs.Checks.{passes_head, passes_tail}
use Rattle.model.proofs.File.{accepted_ok}
use Rattle.model.proofs.Good.{New, new_passed, good_step}
use Rattle.model.proofs.Good as good
use Rattle.model.proofs.Session.{step_refused, step_done}
use Rattle.reservation.specs.Seats.{seats}
use Rattle.reservation.proofs.Seats.{seat_none, seat_some}
use Rattle.std.specs.Prelude.{Result, Ok, Err, IsErrAnd}
use Rattle.refusals.specs.Told.{told, refusal_of}
use Rattle.refusals.specs.declared.Refusal as code
use Rattle.board.specs.Board.{setup_as, bare, starts_of, Sane, Board, MayPut, IsPut}
use Rattle.board.specs.Moves.{said, Did}
use Rattle.board.specs.declared.Reply as declared
use Rattle.board.specs.declared.Reply.TheVariants as reply
use Rattle.board.proofs.Readings.{starts_at, starts_set}
use Rattle.board.proofs.Boards.{board_far, same_seats, sane_good, good_sane, sane_near}

-- a number that is not a start is the blank
pub blank_is : (xs : List ℕ) (o : ℕ) → seats xs o ≡ none → get_or xs o 65535 ≡ 65535
blank_is xs o e = pick (ℕ_discrete (get_or xs o 65535) 65535)
  where
    pick : Dec (get_or xs o 65535 ≡ 65535) → get_or xs o 65535 ≡ 65535
    pick (yes q) = q
    pick (no n) = cc (seat_some (get_or xs o 65535) n)

-- no answer is a refusal too
pub done_kept : {X : Type 0} (r : Reply) (x : Refusal) → answered r ≡ refused x → X
done_kept r x e = let n : ⊥ = cc in absurd n

module _ {f : List ℕ} {ii h : ℕ} {xs rows : List ℕ} (b : Board f ii h xs rows) where
  -- a refused call leaves all as it was
  did_refused : (c : Call) (r : code.Refusal) → first_refusal (checks (setup_as f ii h) c (bare f xs)) ≡ some (told r) → Did c f ii h xs rows xs rows (Err r)
  did_refused c r e =
      let s : step (setup_as f ii h) c (bare f xs) ≡ (bare f xs, refused (told r)) = step_refused (setup_as f ii h) c (bare f xs) (told r) e in
      record {
        reply = sym (ap (λ (p : State × Answer Reply). p.1) s);
        starts_are = sym (ap (λ (p : State × Answer Reply). p.0.starts) s);
        board = b;
        rest = refl;
        kept = λ x q. (refl, refl);
      }

  -- so does one whose check refuses it, where `?` passes the refusal on
  pub did_passed : (c : Call) {x : Result (Unit {0}) code.Refusal} (r : Result declared.Reply code.Refusal) {e : code.Refusal} → refusal_of x ≡ first_refusal (checks (setup_as f ii h) c (bare f xs)) → x ≡ Err e
      → IsErrAnd r (λ y. y ≡ e) → Did c f ii h xs rows xs rows r
  did_passed c (Ok a) is e h = absurd h
  did_passed c (Err y) is e h = did_refused c y (sym is ∙ ap refusal_of e ∙ ap (λ z. some (told z)) (sym h))

  -- a call that is done: its effect is that of the model, and the starts with one number changed are as many and as good as the model's
  pub did_done : (c : Call) (r : declared.Reply) {o x k : ℕ} {ys mid xs' rows' : List ℕ} → first_refusal (checks (setup_as f ii h) c (bare f xs)) ≡ none
      → said r ≡ (effect (setup_as f ii h) c (bare f xs)).1 → starts_of (size (loop_of f)) xs' ≡ (effect (setup_as f ii h) c (bare f xs)).0.starts
      → o < size (loop_of f) → Sane (loop_of f) ii k ys → IsPut f ii o x ys mid xs' rows' → drop ii mid ≡ drop ii rows → Did c f ii h xs rows xs' rows' (Ok r)
  did_done c r {o} {x} {ys = ys} e p q inside s i k =
      let d = step_done (setup_as f ii h) c (bare f xs) e in
      let are = q ∙ sym (ap (λ (p : State × Answer Reply). p.0.starts) d) in
      let good = good_step (setup_as f ii h) (accepted_ok f b.accepted) b.numbers.some c (bare f xs) (record { now = sane_good f b.accepted b.sane; saved = λ i l. absurd (omega arith) }) in
      record {
        reply = ap answered p ∙ sym (ap (λ (p : State × Answer Reply). p.1) d);
        starts_are = are;
        board =
            record {
              accepted = b.accepted;
              numbers = b.numbers;
              sane = good_sane f b.accepted (ap length i.starts_are ∙ length-set ys o x ∙ s.whole)
                  (λ q m. rw i.starts_are (get_or-set_other ys o q x 65535 (λ e. omega arith) ∙ s.blank q m)) (rw are good.now);
              held = i.held;
            };
        rest = i.rest ∙ k;
        kept = λ x z. done_kept _ x z;
      }

  module _ (o t : ℕ) (fine : first_refusal (checks (setup_as f ii h) (place o t) (bare f xs)) ≡ none) where
    -- the operation is there, not placed, and its start below the horizon
    place_new : New (setup_as f ii h) (bare f xs) o t
    place_new = new_passed (setup_as f ii h) (bare f xs) o t _ fine

    -- and it fits
    pub place_put : MayPut f ii o t xs rows
    place_put = record {
      board = board_far b;
      inside = place_new.inside;
      blank = blank_is xs o (sym (starts_at (size (loop_of f)) xs o place_new.inside) ∙ place_new.free);
      near = omega (arith, place_new.soon, b.numbers.far);
      fits =
          subst (λ (g : Placing). fits_at (loop_of f) ii g o t ≡ true) (same_seats f xs b.accepted b.sane.whole b.sane.blank)
          (good.place_fits (setup_as f ii h) (accepted_ok f b.accepted) b.numbers.some (bare f xs) o t fine);
    }

    -- placed
    pub did_place : {xs' rows' : List ℕ} → IsPut f ii o t xs rows xs' rows' → Did (place o t) f ii h xs rows xs' rows' (Ok reply.Done)
    did_place p =
        did_done (place o t) reply.Done fine refl
        (ap (starts_of (size (loop_of f))) p.starts_are ∙ starts_set (size (loop_of f)) xs o t ∙ ap (set (starts_of (size (loop_of f)) xs) o) (seat_some t (λ e. omega (arith, place_put.near))))
        place_new.inside b.sane p refl

  module _ (o : ℕ) (fine : first_refusal (checks (setup_as f ii h) (remove o) (bare f xs)) ≡ none) where
    -- the operation is there
    pub remove_inside : o < size (loop_of f)
    remove_inside = leb-false _ _ (passes_head _ _ fine)

    -- and placed
    pub remove_placed : get_or xs o 65535 < 65535
    remove_placed = pick (ℕ_discrete (get_or xs o 65535) 65535)
      where
        placed : is_placed (get_or (bare f xs).starts o none) ≡ true
        placed = not-false _ (passes_head _ _ (passes_tail _ _ fine))

        pick : Dec (get_or xs o 65535 ≡ 65535) → get_or xs o 65535 < 65535
        pick (yes q) =
            let z : get_or (bare f xs).starts o none ≡ none = starts_at (size (loop_of f)) xs o remove_inside ∙ seat_none (get_or xs o 65535) q in
            let y : is_placed none ≡ true = sym (ap is_placed z) ∙ placed in
            let w : ⊥ = cc in absurd w
        pick (no n) = omega (arith, sane_near b.sane o n, b.numbers.far)

    -- removed
    pub did_remove : {xs' rows' : List ℕ} → IsPut f ii o 65535 xs rows xs' rows' → Did (remove o) f ii h xs rows xs' rows' (Ok reply.Done)
    did_remove p =
        did_done (remove o) reply.Done fine refl
        (ap (starts_of (size (loop_of f))) p.starts_are ∙ starts_set (size (loop_of f)) xs o 65535)
        remove_inside b.sane p refl
