-- The starts that dependences on placed operations allow, dependence by dependence; and that the start that is chosen is below the horizon. Assumes nothing.
use mathlib.Core.Path.{◌≡◌, refl, sym, ap, ap₂, ◌∙◌}
use mathlib.Core.Bool.{Bool, true, false, not, ◌&&◌, ◌||◌, not-not}
use mathlib.Core.List.{List}
use Prim.Native.Nat.{ℕ, ◌+◌, ◌<◌, max}
use native.Mathlib.Omega.{arith}
use borrow.Author.Tests.{le-leb, leb-true, eq-eqb, ne_eqb}
use lib.Dec.{leb}
use lib.ListN.{length, get_or}
use Rattle.std.proofs.Common.{Option, None, Some}
use Rattle.std.proofs.lemmas.Option.{same_Some}
use Rattle.model.specs.Lists.{up_from, any_of}
use Rattle.model.specs.Loop.{Loop, op_at, dep_at}
use Rattle.model.specs.File.{loop_of, Accepted}
use Rattle.model.specs.Legality.{holds}
use Rattle.model.proofs.File.{accepted_ok}
use Rattle.model.proofs.Lists.{and_left, and_right, and_both, same_true, any_next}
use Rattle.reservation.specs.Seats.{seats}
use Rattle.reservation.proofs.Seats.{seat_some}
use Rattle.board.proofs.Boards.{few_operations}
use Rattle.descent.specs.Span.{EarliestIs}
use Rattle.iterative.specs.Timing.{too_early, DueIs, EarliestStart, FirstFree, ToGrid, StartIs}

-- ---- one dependence

-- it leads to operation o from another one that is placed
pub due_placed : {l : Loop} {ii o e s r : ℕ} {xs : List ℕ} → (dep_at l e).dst ≡ o → ((dep_at l e).src ≡ o → ⊥) → get_or xs (dep_at l e).src 65535 ≡ s → (s ≡ 65535 → ⊥) → EarliestIs l ii e s r → DueIs l ii xs o e r
due_placed {l} {ii} {o} {e} {s} q d x n h = record { at = λ t. rw (eq-eqb (dep_at l e).dst o q, ne_eqb (dep_at l e).src o d, x, seat_some s n) (h t ∙ sym (not-not (holds ii (dep_at l e) s t))) }

-- ---- the dependences in turn

module _ {l : Loop} {ii o : ℕ} {xs : List ℕ} where
  -- before any dependence every start is allowed
  pub earliest_first : EarliestStart l ii xs o 0 0
  unfolding any_of up_from
  earliest_first = record { at = λ t. le-leb 0 t (omega arith) }

  -- one dependence more
  pub earliest_next : {k a b r : ℕ} → EarliestStart l ii xs o k a → DueIs l ii xs o k b → r ≡ max a b → EarliestStart l ii xs o (k + 1) r
  earliest_next {k} {a} {b} {r} h d e =
      record { at = λ t. both t ∙ ap₂ ◌&&◌ (h.at t) (d.at t) ∙ not_or (any_of (early t) (up_from 0 k)) (early t k) ∙ ap not (sym (any_next (early t) k)) }
    where
      -- dependence i does not allow t
      early : ℕ → ℕ → Bool
      early t i = too_early ii (seats xs) o t (dep_at l i)

      -- t is not before the larger where it is before neither
      both : (t : ℕ) → leb r t ≡ (leb a t && leb b t)
      both t =
          same_true (leb r t) (leb a t && leb b t)
          (λ p. let m = leb-true r t p in and_both (leb a t) (leb b t) (le-leb a t (omega arith)) (le-leb b t (omega arith)))
          (λ p. let m = leb-true a t (and_left (leb a t) (leb b t) p) in let n = leb-true b t (and_right (leb a t) (leb b t) p) in le-leb r t (omega arith))

      -- the negation of an "or"
      not_or : (p q : Bool) → (not p && not q) ≡ not (p || q)
      not_or true q = refl
      not_or false q = refl

-- ---- the ends of a dependence

-- each is an operation, of which there are at most 64
pub ends_inside : (f : List ℕ) (e : ℕ) → Accepted f → e < length (loop_of f).deps → ((dep_at (loop_of f) e).src < 64) × ((dep_at (loop_of f) e).dst < 64)
ends_inside f e a l = let d = (accepted_ok f a).dep_ok e l in (omega (arith, d.source, few_operations f a), omega (arith, d.target, few_operations f a))

-- ---- the start that is chosen

-- it is below the horizon
pub start_near : {l : Loop} {ii h o again s : ℕ} {gridded : Bool} {xs rows : List ℕ} → StartIs l ii h gridded xs rows o again (Some s) → s < h
start_near {l} {ii} {h} {o} {again} {s} {gridded} {xs} {rows} c = go c.free c.free_is c.found c.forced
  where
    go : (free : Option ℕ) → FirstFree (op_at l o) ii h c.width c.from rows free → ((t : ℕ) → free ≡ Some t → Some s ≡ Some t) → (free ≡ None → ToGrid ii h c.width (max c.from again) (Some s)) → s < h
    go None f q r = (r refl).1
    go (Some t) f q r = let e = same_Some s t (q t refl) in omega (arith, f.1)
