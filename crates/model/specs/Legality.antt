-- Which starts are legal at an initiation interval `ii` (document 01: an interval II). Assumes nothing.
use Rattle.std.specs.Prelude.{Bool, false, not, cond, ◌&&◌, ◌||◌, ℕ, ◌+◌, ◌*◌, ◌%◌, eqb, leb, ltb, pos, ◌+ℤ◌, length}
use mathlib.Core.List.{List, [], ◌∷◌, flat_map}
use Rattle.std.proofs.Math.Option.{Option, none, some}
use Rattle.std.proofs.Math.ListN.{get_elem?}
use Rattle.std.specs.Int.Signed.{le_z}
use Rattle.model.specs.Lists.{up_from, pairs, any_of, first}
use Rattle.model.specs.Loop.{Use, Op, Dep, Loop, size, op_at, dep_at}

-- a start for each placed operation, by its number
abbrev pub Placing : Type 0
Placing = ℕ → Option ℕ

-- a list of starts places the first operations: all of them, or those of a prefix
abbrev pub placed : List ℕ → Placing
placed xs o = get_elem? xs o

-- ---- dependences

-- dependence d holds with its source started at s and its target at t
unfoldable pub holds : ℕ → Dep → ℕ → ℕ → Bool
holds ii d s t = le_z (pos s +ℤ d.delay) (pos (t + ii * d.distance))

-- the same where both are placed, negated; nothing is broken where one is not
abbrev pub broken_at : ℕ → Dep → Option ℕ → Option ℕ → Bool
broken_at ii d none t = false
broken_at ii d (some s) none = false
broken_at ii d (some s) (some t) = not (holds ii d s t)

-- whether the placing breaks d
abbrev pub broken : ℕ → Placing → Dep → Bool
broken ii f d = broken_at ii d (f d.src) (f d.dst)

-- the placing meets every dependence
unfoldable pub meets : Loop → ℕ → Placing → Bool
meets l ii f = not (any_of (broken ii f) l.deps)

-- ---- cells

-- a cell of the reservation table: a slot in a row
pub record Cell : Type 0 where
  pub slot : ℕ
  pub row : ℕ

-- whether they are one cell
abbrev pub same_cell : Cell → Cell → Bool
same_cell a b = eqb a.slot b.slot && eqb a.row b.row

-- whether a use covers its slot in cycle k of the operation, counted from the operation's start
abbrev pub covers : ℕ → Use → Bool
covers k u = leb u.offset k && ltb k (u.offset + u.duration)

-- the cells in `row` of the uses that cover cycle k
unfoldable pub cells_in : ℕ → ℕ → List Use → List Cell
cells_in row k [] = []
cells_in row k (u ∷ us) = cond (covers k u) (record { slot = u.slot; row = row } ∷ cells_in row k us) (cells_in row k us)

-- the cells that an operation covers from start s on: cycle by cycle, and in a cycle by slot. No use reaches past 16 cycles
unfoldable pub footprint : ℕ → Op → ℕ → List Cell
footprint ii p s = flat_map (λ k. cells_in ((s + k) % ii) k p.uses) (up_from 0 16)

-- ---- conflicts (document 01: clash)

-- two lists of cells have one in common
unfoldable pub share : List Cell → List Cell → Bool
share xs ys = any_of (λ c. any_of (same_cell c) ys) xs

-- p started at s conflicts with q started at t: a use of each covers the same slot in the same row
unfoldable pub conflict : ℕ → Op → ℕ → Op → ℕ → Bool
conflict ii p s q t = share (footprint ii p s) (footprint ii q t)

-- an operation conflicts with itself: a use of it is longer than the interval
unfoldable pub self_conflict : ℕ → Op → Bool
self_conflict ii p = any_of (λ u. ltb ii u.duration) p.uses

-- the same for operations that may not be placed
abbrev pub conflict_at : ℕ → Op → Option ℕ → Op → Option ℕ → Bool
conflict_at ii p none q t = false
conflict_at ii p (some s) q none = false
conflict_at ii p (some s) q (some t) = conflict ii p s q t

-- an operation that may not be placed, against itself
abbrev pub self_conflict_at : ℕ → Op → Option ℕ → Bool
self_conflict_at ii p none = false
self_conflict_at ii p (some s) = self_conflict ii p

-- whether the pair of operations (a, b) conflicts; (a, a) is a against itself
abbrev pub pair_conflict : Loop → ℕ → Placing → ℕ × ℕ → Bool
pair_conflict l ii f ab =
    cond (eqb ab.0 ab.1) (self_conflict_at ii (op_at l ab.0) (f ab.0)) (conflict_at ii (op_at l ab.0) (f ab.0) (op_at l ab.1) (f ab.1))

-- no operation conflicts with another or with itself
unfoldable pub apart : Loop → ℕ → Placing → Bool
apart l ii f = not (any_of (pair_conflict l ii f) (pairs (size l)))

-- ---- legal

-- each dependence holds and nothing conflicts, among the placed operations
unfoldable pub legal_at : Loop → ℕ → Placing → Bool
legal_at l ii f = meets l ii f && apart l ii f

-- a list of starts is legal; a prefix is held to what concerns its own operations
abbrev pub legal : Loop → ℕ → List ℕ → Bool
legal l ii xs = legal_at l ii (placed xs)

-- ---- one more operation

-- the placing with operation o at t
abbrev pub place_at : Placing → ℕ → ℕ → Placing
place_at f o t p = cond (eqb p o) (some t) (f p)

-- whether d has o at one of its ends
abbrev pub touches : ℕ → Dep → Bool
touches o d = eqb d.src o || eqb d.dst o

-- d is a dependence of o with itself or a placed operation, broken by o at t
abbrev pub breaks : ℕ → Placing → ℕ → ℕ → Dep → Bool
breaks ii f o t d = touches o d && broken ii (place_at f o t) d

-- the first such dependence
unfoldable pub first_breach : Loop → ℕ → Placing → ℕ → ℕ → Option ℕ
first_breach l ii f o t = first (λ e. breaks ii f o t (dep_at l e)) (up_from 0 (length l.deps))

-- operation o at t conflicts with the placed operation p, another one
abbrev pub conflicts_with : Loop → ℕ → Placing → ℕ → ℕ → ℕ → Bool
conflicts_with l ii f o t p = not (eqb p o) && conflict_at ii (op_at l o) (some t) (op_at l p) (f p)

-- operation o at t conflicts with itself or with a placed operation, another one
abbrev pub conflicts : Loop → ℕ → Placing → ℕ → ℕ → Bool
conflicts l ii f o t = self_conflict ii (op_at l o) || any_of (conflicts_with l ii f o t) (up_from 0 (size l))

-- operation o fits at t: no dependence with itself or a placed operation is broken, no conflict with itself or one of those
unfoldable pub fits_at : Loop → ℕ → Placing → ℕ → ℕ → Bool
fits_at l ii f o t = not (any_of (breaks ii f o t) l.deps) && not (conflicts l ii f o t)
