-- The starts that the model reads off the array of a session. Assumes nothing.
use mathlib.Core.Path.{◌≡◌, refl, sym, ap, ◌∙◌, fun_ext}
use mathlib.Core.List.{List, [], ◌∷◌}
use mathlib.Core.Option.{none}
use Prim.Native.Nat.{ℕ, zero, suc, ◌≤◌, ◌<◌}
use native.Mathlib.Decide.{dec_lt}
use native.Mathlib.Omega.{arith}
use lib.ListN.{length, get_or, set, take, length-map, get_or-map, get_or-eq_default}
use lib.Seq.{get_or-take, length-take-le}
use Rattle.model.specs.Session.{Starts, placed_in}
use Rattle.reservation.specs.Seats.{seat_of, seats}
use Rattle.board.specs.Board.{starts_of}

-- one of the first n starts
pub starts_at : (n : ℕ) (xs : List ℕ) (o : ℕ) → o < n → get_or (starts_of n xs) o none ≡ seats xs o
starts_at n xs o l = get_or-map seat_of (take n xs) o 65535 ∙ ap seat_of (get_or-take n xs o 65535 l)

-- how many they are
pub starts_length : (n : ℕ) (xs : List ℕ) → n ≤ length xs → length (starts_of n xs) ≡ n
starts_length n xs h = length-map (take n xs) seat_of ∙ length-take-le n xs h

-- where the places after the n operations are blank, the model's placing is that of the array
pub seats_are : (n : ℕ) (xs : List ℕ) → n ≤ length xs → ((o : ℕ) → n ≤ o → get_or xs o 65535 ≡ 65535) → placed_in (starts_of n xs) ≡ seats xs
seats_are n xs h blank = fun_ext (λ o. pick o (dec_lt o n))
  where
    pick : (o : ℕ) → Dec (o < n) → placed_in (starts_of n xs) o ≡ seats xs o
    pick o (yes l) = starts_at n xs o l
    pick o (no m) = get_or-eq_default (starts_of n xs) none (omega (arith, starts_length n xs h)) ∙ sym (ap seat_of (blank o (omega arith)))

-- one of the first n starts put down: the model's list has it too
pub starts_set : (n : ℕ) (xs : List ℕ) (o x : ℕ) → starts_of n (set xs o x) ≡ set (starts_of n xs) o (seat_of x)
starts_set zero xs o x = refl
starts_set (suc n) [] o x = refl
starts_set (suc n) (y ∷ xs) zero x = refl
starts_set (suc n) (y ∷ xs) (suc o) x = ap (λ (t : Starts). seat_of y ∷ t) (starts_set n xs o x)
