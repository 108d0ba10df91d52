-- The first place in which an operation meets a taken cell: cycle by cycle, and in a cycle by slot. Assumes nothing.
use Rattle.std.specs.Prelude.{◌≡◌, Bool, true, false, ◌&&◌, ◌||◌, ℕ, ◌+◌, ◌*◌, ◌%◌, ◌≤◌, ◌<◌, eqb, leb, get_or, None, Some}
use Rattle.std.specs.Prelude as code
use mathlib.Core.List.{List, map, flat_map}
use Rattle.std.proofs.Math.Option.{Option, none, some}
use Rattle.model.specs.Lists.{up_from, first, max_of}
use Rattle.model.specs.Loop.{Use, Op}
use Rattle.model.specs.Legality.{covers}
use Rattle.model.specs.Table.{row_base, digit_of}
use Rattle.model.specs.Counts.{own_clash}
use Rattle.reservation.specs.declared.Place.{Place}
use Rattle.reservation.specs.declared.test.Cycle.{Cycle}
use Rattle.reservation.specs.declared.test.Cycle.TheVariants as cycle

-- use u meets in cycle k, which falls into the row given, a cell that is taken: its digit is 1, or the use itself covered it ii cycles before
abbrev pub met_by : (base ii row k : ℕ) → Use → Bool
met_by base ii row k u = covers k u && (eqb (digit_of base row u.slot) 1 || leb (u.offset + ii) k)

-- the first use that does so
unfoldable pub met_in : (base ii row k : ℕ) → List Use → Option Use
met_in base ii row k us = first (met_by base ii row k) us

-- how many cycles the uses cover: their latest end, 0 where there is none
abbrev pub cycles_of : List Use → ℕ
cycles_of us = max_of (λ u. u.offset + u.duration) us

-- what the test of one cycle says: the slot of the first use that does so, or how many cycles m there are
abbrev pub cycle_is : Option Use → ℕ → Cycle
cycle_is none m = cycle.Free m
cycle_is (some u) m = cycle.Taken u.slot

-- the row of cycle k of an operation started at s
abbrev pub row_at : ℕ → List ℕ → ℕ → ℕ → ℕ
row_at ii rows s k = get_or rows ((s + k) % ii) 0

-- use u of an operation started at s does so in cycle k
abbrev pub met_at : (base ii : ℕ) → List ℕ → (s k : ℕ) → Use → Bool
met_at base ii rows s k u = met_by base ii (row_at ii rows s k) k u

-- the first cycle, of 16, in which some use does, and the first such use
unfoldable pub first_met : (base ii : ℕ) → List ℕ → ℕ → List Use → Option (ℕ × Use)
first_met base ii rows s us = first (λ p. met_at base ii rows s p.0 p.1) (flat_map (λ k. map (λ u. (k, u)) us) (up_from 0 16))

-- what the conflict test says: the cycle, and the slot
abbrev pub place_of : code.Option Place → Option (ℕ × ℕ)
place_of None = none
place_of (Some p) = some (p.cycle, p.slot)

-- of the first taken place
abbrev pub place_is : Option (ℕ × Use) → Option (ℕ × ℕ)
place_is none = none
place_is (some p) = some (p.0, p.1.slot)

-- the same of cycle k alone
abbrev pub place_in_cycle : ℕ → Option Use → Option (ℕ × ℕ)
place_in_cycle k none = none
place_in_cycle k (some u) = some (k, u.slot)

-- a place whose number can be made: a cycle below 16, and a slot up to 24
pub record InRange (r : code.Option Place) : Type 0 where
  pub small : (k s : ℕ) → place_of r ≡ some (k, s) → (k < 16) × (s ≤ 24)

-- its number: 32 times the cycle, and the slot; 0 where there is no place
abbrev pub number_in : code.Option Place → ℕ
number_in None = 0
number_in (Some p) = 32 * p.cycle + p.slot

-- r says the first place in which operation p, wherever it is started, meets a cell that it covers itself in an earlier cycle
abbrev pub OwnPlace : ℕ → Op → code.Option Place → Type 0
OwnPlace ii p r = (s : ℕ) → place_of r ≡ place_is (own_clash ii p s)

-- the rows are free for operation p, started at s: nothing is taken
abbrev pub FreeAt : ℕ → List ℕ → Op → ℕ → Type 0
FreeAt ii rows p s = first_met row_base ii rows s p.uses ≡ none

-- r says whether they are
pub record FreeIs (p : Op) (ii s : ℕ) (rows : List ℕ) (r : Bool) : Type 0 where
  pub yes : r ≡ true → FreeAt ii rows p s
  pub no : r ≡ false → FreeAt ii rows p s → ⊥
