-- The first dependence that an operation breaks, one dependence after the other. Assumes nothing.
use mathlib.Core.Path.{◌≡◌, sym}
use mathlib.Core.Bool.{true, false}
use mathlib.Core.Option.{none, some}
use Prim.Native.Nat.{ℕ, ◌≤◌, ◌<◌}
use native.Mathlib.Omega.{arith}
use lib.ListN.{length}
use Rattle.model.specs.Loop.{Loop, dep_at}
use Rattle.model.specs.Legality.{Placing, breaks, first_breach}
use Rattle.model.proofs.Firsts.{row_not}
use Rattle.model.proofs.Lists.{row_first}

-- operation o at t breaks none of the first n dependences, with itself or an operation that g places
pub record NoneBroken (l : Loop) (ii : ℕ) (g : Placing) (o t n : ℕ) : Type 0 where
  pub held : (k : ℕ) → k < n → breaks ii g o t (dep_at l k) ≡ false

module _ {l : Loop} {ii : ℕ} {g : Placing} {o t n : ℕ} (h : NoneBroken l ii g o t n) where
  -- dependence n is broken, and so the first
  pub breach_at : true ≡ breaks ii g o t (dep_at l n) → n < length l.deps → some n ≡ first_breach l ii g o t
  unfolding first_breach
  breach_at e below = sym (row_first (λ k. breaks ii g o t (dep_at l k)) _ n below h.held (sym e))

  -- there is none more
  pub breach_none : length l.deps ≤ n → none ≡ first_breach l ii g o t
  unfolding first_breach
  breach_none all = sym (row_not (λ k. breaks ii g o t (dep_at l k)) _ (λ k below. h.held k (omega arith)))
