-- Where an operation is put. Assumes nothing.
use Rattle.std.specs.Prelude.{◌≡◌, Bool, true, false, not, cond, ◌&&◌, List, ℕ, ◌+◌, ◌%◌, ◌≤◌, ◌<◌, max, min, eqb, leb, length, Option, None, Some, MatchOption}
use Rattle.std.proofs.Math.Option.{some}
use Rattle.model.specs.Lists.{up_from, any_of, max_of}
use Rattle.model.specs.Loop.{Op, Dep, Loop, size, op_at, use_at, dep_at}
use Rattle.model.specs.File.{loop_of, Accepted}
use Rattle.model.specs.Legality.{Placing, broken_at}
use Rattle.reservation.specs.Place.{FreeAt}
use Rattle.reservation.specs.Seats.{seats}

-- ---- dependences on placed operations

-- d leads to operation o from another one that is placed, and o at t is too early for it
abbrev pub too_early : ℕ → Placing → (o t : ℕ) → Dep → Bool
too_early ii f o t d = eqb d.dst o && not (eqb d.src o) && broken_at ii d (f d.src) (some t)

-- dependence e allows operation o every start from r on, and no other
pub record DueIs (l : Loop) (ii : ℕ) (xs : List ℕ) (o e r : ℕ) : Type 0 where
  pub at : (t : ℕ) → leb r t ≡ not (too_early ii (seats xs) o t (dep_at l e))

-- the first k dependences allow it every start from r on, and no other
pub record EarliestStart (l : Loop) (ii : ℕ) (xs : List ℕ) (o k r : ℕ) : Type 0 where
  pub at : (t : ℕ) → leb r t ≡ not (any_of (λ e. too_early ii (seats xs) o t (dep_at l e)) (up_from 0 k))

-- ---- the grid

-- the longest of operation o's first k uses, and 1 where there is none
abbrev pub longest_of : Loop → (o k : ℕ) → ℕ
longest_of l o k = max 1 (max_of (λ j. (use_at (op_at l o) j).duration) (up_from 0 k))

-- the width of the grid on which operation o is put; on that of 1 is every start
abbrev pub width_of : (gridded : Bool) → Loop → ℕ → ℕ
width_of gridded l o = cond gridded (longest_of l o (length (op_at l o).uses)) 1

-- start t is on the grid of a width: its row is a multiple of the width, and so many rows are left
abbrev pub on_grid : (ii width t : ℕ) → Bool
on_grid ii width t = eqb (t % ii % width) 0 && leb (t % ii + width) ii

-- an accepted file with operation o, rows for the interval, and a width that an operation can have
pub record GridRows (f rows : List ℕ) (o ii width : ℕ) : Type 0 where
  pub accepted : Accepted f
  pub inside : o < size (loop_of f)
  pub some : 1 ≤ ii
  pub short : ii ≤ 4096
  pub long : ii ≤ length rows
  pub wide : 1 ≤ width
  pub narrow : width ≤ 16

-- operation p may be put at t: that is on the grid, and the rows are free
pub record Suits (p : Op) (ii width : ℕ) (rows : List ℕ) (t : ℕ) : Type 0 where
  pub on : on_grid ii width t ≡ true
  pub free : FreeAt ii rows p t

-- r says whether it may
pub record SuitsIs (p : Op) (ii width : ℕ) (rows : List ℕ) (t : ℕ) (r : Bool) : Type 0 where
  pub yes : r ≡ true → Suits p ii width rows t
  pub no : r ≡ false → Suits p ii width rows t → ⊥

-- r is the first of a, .., b - 1 of which P holds, or none where there is none
abbrev pub FirstOf : (a b : ℕ) → (ℕ → Type 0) → Option ℕ → Type 0
FirstOf a b P r = MatchOption r ((t : ℕ) → a ≤ t → t < b → P t → ⊥) (λ s. (a ≤ s) × (s < b) × P s × ((t : ℕ) → a ≤ t → t < s → P t → ⊥))

-- r is the first start of from, .., from + ii - 1, below h, at which p may be put, or none where there is none
abbrev pub FirstFree : (p : Op) (ii h width from : ℕ) → List ℕ → Option ℕ → Type 0
FirstFree p ii h width from rows r = FirstOf from (min h (from + ii)) (Suits p ii width rows) r

-- r is the first start from `from` on, below h, that is on the grid, or none where there is none
abbrev pub ToGrid : (ii h width from : ℕ) → Option ℕ → Type 0
ToGrid ii h width from r = FirstOf from h (λ t. on_grid ii width t ≡ true) r

-- ---- the start that is chosen

-- operation o is put at r: where it may be, or else as early as its placed predecessors allow, but not before `again`; on the grid of its longest use, or on any start; at none where there is no such start below h
pub record StartIs (l : Loop) (ii h : ℕ) (gridded : Bool) (xs rows : List ℕ) (o again : ℕ) (r : Option ℕ) : Type 0 where
  pub width : ℕ
  pub width_is : width ≡ width_of gridded l o
  pub from : ℕ
  pub from_is : EarliestStart l ii xs o (length l.deps) from
  pub free : Option ℕ
  pub free_is : FirstFree (op_at l o) ii h width from rows free
  pub found : (s : ℕ) → free ≡ Some s → r ≡ Some s
  pub forced : free ≡ None → ToGrid ii h width (max from again) r
