-- How often each slot is used in each row, against a capacity for each slot (document 01: every slot holds one operation per cycle). Assumes nothing.
use Rattle.std.specs.Prelude.{Bool, true, false, not, cond, ◌&&◌, ℕ, ◌+◌, ◌-◌, ◌*◌, ◌%◌, eqb, leb, ltb}
use mathlib.Core.List.{List, map, flat_map}
use Rattle.std.proofs.Math.Option.{Option, none, some}
use Rattle.model.specs.Lists.{up_from, any_of, first, count_if, sum_of}
use Rattle.model.specs.Loop.{Use, Op, Loop, size, op_at, op_on}
use Rattle.model.specs.Legality.{Placing, meets, Cell, covers, footprint, breaks}
use Rattle.model.specs.Table.{count_of, cells_of}

-- ---- capacities and uses

-- how often each slot may be used in a row
abbrev pub Capacity : Type 0
Capacity = ℕ → ℕ

-- once
abbrev pub single : Capacity
single s = 1

-- how often each slot is used in each row
abbrev pub Usage : Type 0
Usage = ℕ → ℕ → ℕ

-- never
abbrev pub unused : Usage
unused s r = 0

-- by the placed operations: how many of their cells are this slot in this row
abbrev pub used : Loop → ℕ → Placing → Usage
used l ii f s r = count_of s r (cells_of l ii f)

-- by one operation, started at t
abbrev pub used_by : ℕ → Op → ℕ → Usage
used_by ii p t s r = count_of s r (footprint ii p t)

-- the cycles for which an operation holds slot s, none where it is not placed
abbrev pub placed_on : ℕ → Op → Option ℕ → ℕ
placed_on s p none = 0
placed_on s p (some t) = op_on s p

-- the durations on slot s of what is placed
unfoldable pub held_on : Loop → Placing → ℕ → ℕ
held_on l f s = sum_of (λ o. placed_on s (op_at l o) (f o)) (up_from 0 (size l))

-- ---- room

-- cell c is used above its capacity, by u and these cells
abbrev pub overfull : Capacity → Usage → List Cell → Cell → Bool
overfull cap u cells c = ltb (cap c.slot) (u c.slot c.row + count_of c.slot c.row cells)

-- beside u there is room for these cells: none of them is used above its capacity
unfoldable pub room : Capacity → Usage → List Cell → Bool
room cap u cells = not (any_of (overfull cap u cells) cells)

-- the placed operations are within the capacities: no slot is used in a row more often than it may be
unfoldable pub within : Capacity → Loop → ℕ → Placing → Bool
within cap l ii f = room cap unused (cells_of l ii f)

-- there is room for operation o at t beside the placed operations
unfoldable pub room_for : Capacity → Loop → ℕ → Placing → ℕ → ℕ → Bool
room_for cap l ii f o t = room cap (used l ii f) (footprint ii (op_at l o) t)

-- the placed operations are legal at these capacities: each dependence holds, and they are within the capacities
unfoldable pub legal_within : Capacity → Loop → ℕ → Placing → Bool
legal_within cap l ii f = meets l ii f && within cap l ii f

-- operation o fits at t: no dependence with itself or a placed operation is broken, and there is room
unfoldable pub fits_within : Capacity → Loop → ℕ → Placing → ℕ → ℕ → Bool
fits_within cap l ii f o t = not (any_of (breaks ii f o t) l.deps) && room_for cap l ii f o t

-- ---- the first place without room

-- how many of the n cycles from x on fall into row r
abbrev pub cycles_in : (ii x r n : ℕ) → ℕ
cycles_in ii x r n = count_if (λ j. eqb r ((x + j) % ii)) (up_from 0 n)

-- use v of an operation started at t covers in cycle k a cell without room: u and, where `own` says that they count, the operation's own earlier cycles have reached its capacity. (Its own of this slot are those of v.)
abbrev pub taken_at : Capacity → Usage → (own : Bool) → (ii t k : ℕ) → Use → Bool
taken_at cap u own ii t k v =
    covers k v && leb (cap v.slot) (u v.slot ((t + k) % ii) + cond own (cycles_in ii (t + v.offset) ((t + k) % ii) (k - v.offset)) 0)

-- the first cycle of the footprint, and in it the use of the lowest slot, that does so
unfoldable pub first_taken : Capacity → Usage → (own : Bool) → ℕ → Op → ℕ → Option (ℕ × Use)
first_taken cap u own ii p t = first (λ q. taken_at cap u own ii t q.0 q.1) (flat_map (λ k. map (λ v. (k, v)) p.uses) (up_from 0 16))

-- the place as one number: 32 times the cycle, and the slot, which is below 32
abbrev pub place_number : ℕ × Use → ℕ
place_number q = 32 * q.0 + q.1.slot

-- of what is found
abbrev pub number_of : Option (ℕ × Use) → Option ℕ
number_of none = none
number_of (some q) = some (place_number q)

-- ---- what is taken for whom, where every slot holds one operation per cycle

-- for operation o, to be placed at t: what the placed operations cover, and what it covers itself in an earlier cycle
abbrev pub place_clash : Loop → ℕ → Placing → (o t : ℕ) → Option (ℕ × Use)
place_clash l ii f o t = first_taken single (used l ii f) true ii (op_at l o) t

-- for an operation by itself, started at t: what it covers in an earlier cycle
abbrev pub own_clash : ℕ → Op → ℕ → Option (ℕ × Use)
own_clash ii p t = first_taken single unused true ii p t

-- for operation q, started at t, against operation p, started at s: what p covers
abbrev pub pair_clash : ℕ → Op → ℕ → Op → ℕ → Option (ℕ × Use)
pair_clash ii p s q t = first_taken single (used_by ii p s) false ii q t
