-- What each call is refused for, check by check, off the array of a session. Assumes nothing.
use mathlib.Core.Path.{◌≡◌, refl, sym, ap, ◌∙◌}
use mathlib.Core.Bool.{true}
use mathlib.Core.List.{List, [], ◌∷◌}
use mathlib.Core.Option.{Option, none, some}
use Prim.Native.Nat.{ℕ, ◌+◌, ◌*◌, ◌≤◌, ◌<◌}
use native.Mathlib.Omega.{arith}
use borrow.Author.Tests.{le-leb, lt-leb}
use lib.ListN.{get_or}
use Rattle.model.specs.Refusals.{Check, if_found, first_refusal}
use Rattle.model.specs.Loop.{Use, size, op_at, OpOk}
use Rattle.model.specs.File.{loop_of, Accepted}
use Rattle.model.specs.Legality.{Placing, first_breach}
use Rattle.model.specs.Counts.{single, used, unused, place_clash, own_clash}
use Rattle.model.specs.Session.{placed_in, is_placed, absent, taken, late, unmet, clashed, nowhere, checks, remove}
use Rattle.model.specs.Table.{row_base, cells_of}
use Rattle.model.proofs.File.{accepted_ok}
use Rattle.model.proofs.Firsts.{get_or_within}
use Rattle.model.proofs.Good.{New, new_passed}
use Rattle.std.specs.Prelude.{None, Some}
use Rattle.std.specs.Prelude as code
use Rattle.refusals.specs.Told.{refusal_of}
use Rattle.refusals.specs.declared.Refusal.{Refusal}
use Rattle.refusals.proofs.Tables.{fine_passes}
use Rattle.reservation.specs.declared.Place.{Place}
use Rattle.reservation.specs.Place.{first_met, place_of, place_is, InRange, OwnPlace}
use Rattle.reservation.specs.Seats.{seats, broken_of}
use Rattle.reservation.proofs.Seats.{seat_none, seat_some}
use Rattle.reservation.proofs.Placings.{legal_digits}
use Rattle.reservation.proofs.TakenCells.{found_range}
use Rattle.reservation.proofs.Fits.{taken_same}
use Rattle.board.specs.Board.{setup_as, bare, Named, Board}
use Rattle.board.specs.Checks.{as_unmet, as_clash}
use Rattle.board.proofs.Readings.{starts_at}
use Rattle.board.proofs.Boards.{few_operations, same_seats}

-- ---- an operation, and its start

-- the checks that placing and forcing have in common
abbrev pub common : List ℕ → (h o t : ℕ) → List ℕ → List Check
common f h o t xs = absent (setup_as f 0 h) o ∷ taken (bare f xs) o ∷ late (setup_as f 0 h) o t ∷ []

-- no such operation
pub no_such : (f : List ℕ) (o : ℕ) (rest : List Check) → size (loop_of f) ≤ o → first_refusal (absent (setup_as f 0 0) o ∷ rest) ≡ some (record { number = 12; detail = o })
unfolding first_refusal
no_such f o rest l = rw (le-leb _ _ l)

module _ {f xs : List ℕ} (named : Named f xs) (o : ℕ) (inside : o < size (loop_of f)) where
  -- what the array has for an operation of the file
  number_is : get_or xs o 65535 ≡ get_or xs o 0
  number_is = get_or_within xs o 65535 0 (omega (arith, few_operations f named.accepted, named.whole))

  -- whether the operation is placed, off the array
  not_there : get_or xs o 0 ≡ 65535 → get_or (bare f xs).starts o none ≡ none
  not_there e = starts_at (size (loop_of f)) xs o inside ∙ seat_none (get_or xs o 65535) (number_is ∙ e)

  there : (get_or xs o 0 ≡ 65535 → ⊥) → is_placed (get_or (bare f xs).starts o none) ≡ true
  there n = rw (starts_at (size (loop_of f)) xs o inside, seat_some (get_or xs o 65535) (λ e. n (sym number_is ∙ e)))

  module _ (h t : ℕ) where
    -- it is placed
    pub is_taken : (get_or xs o 0 ≡ 65535 → ⊥) → first_refusal (common f h o t xs) ≡ some (record { number = 13; detail = o })
    unfolding first_refusal
    is_taken n = rw (lt-leb _ _ inside, there n)

    -- the start is not below the horizon
    pub is_late : get_or xs o 0 ≡ 65535 → h ≤ t → first_refusal (common f h o t xs) ≡ some (record { number = 15; detail = o })
    unfolding first_refusal
    is_late e k = rw (lt-leb _ _ inside, not_there e, le-leb _ _ k)

    -- nothing against it so far
    pub is_known : get_or xs o 0 ≡ 65535 → t < h → first_refusal (common f h o t xs) ≡ none
    unfolding first_refusal
    is_known e k = rw (lt-leb _ _ inside, not_there e, lt-leb _ _ k)

  -- it is not placed, and is to be removed
  pub is_free : get_or xs o 0 ≡ 65535 → first_refusal (checks (setup_as f 0 0) (remove o) (bare f xs)) ≡ some (record { number = 14; detail = o })
  unfolding first_refusal
  is_free e = rw (lt-leb _ _ inside, not_there e)

  -- it can be removed
  pub is_there : (get_or xs o 0 ≡ 65535 → ⊥) → first_refusal (checks (setup_as f 0 0) (remove o) (bare f xs)) ≡ none
  unfolding first_refusal
  is_there n = rw (lt-leb _ _ inside, there n)

-- what the common checks tell where a function that answers for them passes
pub known : (f : List ℕ) (h o t : ℕ) (xs : List ℕ) {A : Type 0} {r : code.Result A Refusal} {a : A} → refusal_of r ≡ first_refusal (common f h o t xs) → r ≡ code.Ok a → New (setup_as f 0 h) (bare f xs) o t
known f h o t xs is e = new_passed (setup_as f 0 h) (bare f xs) o t [] (fine_passes (common f h o t xs) e is)

-- ---- dependences, then the first taken place

-- what is said of a broken dependence is what the check for it says
unmet_says : (r : code.Option ℕ) (q : Option ℕ) → broken_of r ≡ q → refusal_of (as_unmet r) ≡ first_refusal (if_found 16 q ∷ [])
unfolding first_refusal
unmet_says None q e = rw (← e)
unmet_says (Some d) q e = rw (← e)

-- what is said of the first taken place is what the check for it says
clash_says : (r : code.Option Place) (q : Option (ℕ × Use)) → place_of r ≡ place_is q → refusal_of (as_clash r) ≡ first_refusal (clashed q ∷ [])
unfolding first_refusal
clash_says None none e = refl
clash_says None (some q) e = cc
clash_says (Some p) none e = cc
clash_says (Some p) (some q) e =
    let same : ◌≡◌ {A = ℕ × ℕ} (p.cycle, p.slot) (q.0, q.1.slot) = cc in
    ap (λ (x : ℕ × ℕ). some (record { number = 17; detail = 32 * x.0 + x.1 })) same

-- ---- placing

-- the two checks after the common ones
abbrev pub place_held : List ℕ → (ii o t : ℕ) → List ℕ → List Check
place_held f ii o t xs = unmet (setup_as f ii 0) (placed_in (bare f xs).starts) o t ∷ []

abbrev pub place_free : List ℕ → (ii o t : ℕ) → List ℕ → List Check
place_free f ii o t xs = clashed (place_clash (loop_of f) ii (placed_in (bare f xs).starts) o t) ∷ []

module _ {f : List ℕ} {ii h : ℕ} {xs rows : List ℕ} (b : Board f ii h xs rows) (o t : ℕ) where
  -- the model's placing is the array's
  same : placed_in (bare f xs).starts ≡ seats xs
  same = same_seats f xs b.accepted b.sane.whole b.sane.blank

  -- the first broken dependence
  pub place_unmet : (r : code.Option ℕ) → broken_of r ≡ first_breach (loop_of f) ii (seats xs) o t → refusal_of (as_unmet r) ≡ first_refusal (place_held f ii o t xs)
  place_unmet r e = unmet_says r _ (e ∙ ap (λ (g : Placing). first_breach (loop_of f) ii g o t) (sym same))

  module _ (inside : o < size (loop_of f)) (r : code.Option Place) (e : place_of r ≡ place_is (first_met row_base ii rows t (op_at (loop_of f) o).uses)) where
    op_ok : OpOk (op_at (loop_of f) o)
    op_ok = (accepted_ok f b.accepted).op_ok o inside

    -- the rows' first taken place is the model's
    place_met : place_of r ≡ place_is (place_clash (loop_of f) ii (seats xs) o t)
    place_met =
        e
        ∙ ap place_is (sym (taken_same (omega arith) ii (cells_of (loop_of f) ii (seats xs)) rows b.held (legal_digits (loop_of f) ii (seats xs) (accepted_ok f b.accepted) b.sane.fine)
        (op_at (loop_of f) o) op_ok b.numbers.some t))

    pub place_range : InRange r
    place_range = found_range single (used (loop_of f) ii (seats xs)) true ii (op_at (loop_of f) o) t op_ok r place_met

    pub place_taken : refusal_of (as_clash r) ≡ first_refusal (place_free f ii o t xs)
    place_taken = clash_says r _ (place_met ∙ ap (λ (g : Placing). place_is (place_clash (loop_of f) ii g o t)) (sym same))

-- ---- forcing

-- the two checks after the common ones
abbrev pub force_held : List ℕ → (ii o t : ℕ) → List Check
force_held f ii o t = unmet (setup_as f ii 0) nowhere o t ∷ []

abbrev pub force_free : List ℕ → (ii o t : ℕ) → List Check
force_free f ii o t = clashed (own_clash ii (op_at (loop_of f) o) t) ∷ []

module _ (f : List ℕ) (ii o t : ℕ) where
  -- the first dependence of the operation with itself that is broken
  pub force_unmet : (r : code.Option ℕ) → broken_of r ≡ first_breach (loop_of f) ii nowhere o t → refusal_of (as_unmet r) ≡ first_refusal (force_held f ii o t)
  force_unmet r e = unmet_says r _ e

  -- where the operation meets itself
  pub force_range : Accepted f → o < size (loop_of f) → (r : code.Option Place) → OwnPlace ii (op_at (loop_of f) o) r → InRange r
  force_range a inside r e = found_range single unused true ii (op_at (loop_of f) o) 0 ((accepted_ok f a).op_ok o inside) r (e 0)

  pub force_taken : (r : code.Option Place) → OwnPlace ii (op_at (loop_of f) o) r → refusal_of (as_clash r) ≡ first_refusal (force_free f ii o t)
  force_taken r e = clash_says r _ (e t)
