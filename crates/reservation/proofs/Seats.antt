-- The start that a number of a list says. Assumes nothing.
use mathlib.Core.Path.{◌≡◌}
use mathlib.Core.Option.{none, some}
use Prim.Native.Nat.{ℕ}
use borrow.Author.Tests.{eq-eqb, ne_eqb}
use Rattle.reservation.specs.Seats.{seat_of}

-- a number that is a start, and the one that is none
pub seat_some : (x : ℕ) → (x ≡ 65535 → ⊥) → seat_of x ≡ some x
seat_some x h = rw (ne_eqb x 65535 h)

pub seat_none : (x : ℕ) → x ≡ 65535 → seat_of x ≡ none
seat_none x e = rw (eq-eqb x 65535 e)
