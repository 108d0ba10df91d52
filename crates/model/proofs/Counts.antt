-- Laws of placings within capacities: of a part, of one operation more; and that at capacity 1 they are legality by pairs. Assumes nothing.
use mathlib.Core.Path.{◌≡◌, refl, sym, ap, ap₂, ◌∙◌}
use mathlib.Core.Bool.{Bool, true, false, not, cond, ◌&&◌}
use mathlib.Core.List.{List, [], ◌∷◌, ◌++◌}
use mathlib.Core.Option.{Option, none, some}
use Prim.Native.Nat.{ℕ, ◌+◌, ◌≤◌, ◌<◌, max}
use native.Mathlib.Decide.{ℕ_discrete}
use native.Mathlib.Omega.{arith}
use borrow.Author.Tests.{eq-eqb, ne_eqb, ltb-false, le-ltb, not-true}
use lib.Dec.{eqb}
use lib.ListN.{length}
use Rattle.model.specs.Lists.{up_from, any_of, count_if, sum_of}
use Rattle.model.specs.Loop.{Op, Loop, size, op_at, dep_at, LoopOk}
use Rattle.model.specs.Legality.{Placing, placed, broken_at, meets, Cell, footprint, self_conflict, apart, legal_at, legal, place_at, breaks, conflicts, fits_at}
use Rattle.model.specs.Table.{count_of, op_cells, cells_of}
use Rattle.model.specs.Counts.{Capacity, single, Usage, unused, used, overfull, room, within, room_for, legal_within, fits_within}
use Rattle.model.proofs.Lists.{false_not, and_left, and_right, and_both, or_false_left, or_false_right, or_both, same_true, sum_add, sum_same}
use Rattle.model.proofs.Sums.{sum_only, sum_less}
use Rattle.model.proofs.StartLists.{placed_past, placed_snoc}
use Rattle.model.proofs.Legality.{each_meets, SubPlacing, meets_part, meets_place, placed_part}
use Rattle.model.proofs.Table.{cells_nothing}
use Rattle.model.proofs.Cells.{cells_each, each_cells}
use Rattle.model.proofs.Conflicts.{apart_cells, cells_apart, self_once, once_self, cells_at, cells_sum, apart_once, once_apart, share_place}

-- ---- said of each slot and row

module _ (cap : Capacity) (u : Usage) (cells : List Cell) where
  -- where there is room, no slot and row is above its capacity, but for those that are so without the cells
  pub room_each : room cap u cells ≡ true → (s r : ℕ) → u s r + count_of s r cells ≤ max (cap s) (u s r)
  unfolding room
  room_each e s r = pick (ℕ_discrete (count_of s r cells) 0)
    where
      pick : Dec (count_of s r cells ≡ 0) → u s r + count_of s r cells ≤ max (cap s) (u s r)
      pick (yes z) = omega arith
      pick (no n) = omega (arith, ltb-false (cap s) _ (cells_each (overfull cap u cells) cells (not-true _ e) s r (omega arith)))

  -- and the other way round, said of the slots and rows of the cells
  pub each_room : ((s r : ℕ) → 1 ≤ count_of s r cells → u s r + count_of s r cells ≤ cap s) → room cap u cells ≡ true
  unfolding room
  each_room h = false_not _ (each_cells (overfull cap u cells) cells (λ s r l. le-ltb (cap s) _ (h s r l)))

module _ (cap : Capacity) (l : Loop) (ii : ℕ) (f : Placing) where
  -- a placing is within the capacities exactly where no slot and row is used above its capacity
  pub within_each : within cap l ii f ≡ true → (s r : ℕ) → used l ii f s r ≤ cap s
  unfolding within
  within_each e s r = omega (arith, room_each cap unused (cells_of l ii f) e s r)

  pub each_within : ((s r : ℕ) → used l ii f s r ≤ cap s) → within cap l ii f ≡ true
  unfolding within
  each_within h = each_room cap unused (cells_of l ii f) (λ s r l. omega (arith, h s r))

-- ---- fewer operations

-- a part of the placed operations uses no more
pub used_part_lem : (l : Loop) (ii : ℕ) (f g : Placing) → SubPlacing f g → (s r : ℕ) → used l ii f s r ≤ used l ii g s r
unfolding count_if
used_part_lem l ii f g p s r =
    rw (cells_sum l ii f s r, cells_sum l ii g s r) (sum_less (cells_at l ii f s r) (cells_at l ii g s r) 0 (size l) (λ o m n. go (op_at l o) (f o) (g o) (p.same o)))
  where
    go : (q : Op) (x y : Option ℕ) → ((t : ℕ) → x ≡ some t → y ≡ some t) → count_of s r (op_cells ii q x) ≤ count_of s r (op_cells ii q y)
    go q none y h = omega arith
    go q (some t) y h = rw (h t refl) (omega arith)

-- so it is within the capacities that all are within
pub within_part : (cap : Capacity) (l : Loop) (ii : ℕ) (f g : Placing) → SubPlacing f g → within cap l ii g ≡ true → within cap l ii f ≡ true
within_part cap l ii f g p e = each_within cap l ii f (λ s r. omega (arith, used_part_lem l ii f g p s r, within_each cap l ii g e s r))

-- and legal where all are
pub legal_within_part : (cap : Capacity) (l : Loop) (ii : ℕ) (f g : Placing) → SubPlacing f g → legal_within cap l ii g ≡ true → legal_within cap l ii f ≡ true
unfolding legal_within
legal_within_part cap l ii f g p e =
    and_both (meets l ii f) (within cap l ii f) (meets_part l ii f g p (and_left (meets l ii g) (within cap l ii g) e))
    (within_part cap l ii f g p (and_right (meets l ii g) (within cap l ii g) e))

-- ---- one operation more

-- a sum over the placed operations, in which one that is not placed counts nothing, has what the new one counts besides
pub sum_placed : (h : ℕ → Option ℕ → ℕ) (f : Placing) (n o t : ℕ) → o < n → f o ≡ none → h o none ≡ 0
    → sum_of (λ p. h p (place_at f o t p)) (up_from 0 n) ≡ h o (some t) + sum_of (λ p. h p (f p)) (up_from 0 n)
sum_placed h f n o t inside open_yet e =
    sum_same _ (λ p. more p + h p (f p)) 0 n (λ p a b. go p (ℕ_discrete p o))
    ∙ sum_add more (λ p. h p (f p)) (up_from 0 n)
    ∙ ap (λ (k : ℕ). k + sum_of (λ p. h p (f p)) (up_from 0 n)) (sum_only more n o inside (λ p m q. rw (ne_eqb p o q)) ∙ rw (eq-eqb o o refl))
  where
    more : ℕ → ℕ
    more p = cond (eqb p o) (h o (some t)) 0

    go : (p : ℕ) → Dec (p ≡ o) → h p (place_at f o t p) ≡ more p + h p (f p)
    go p (yes q) = rw (q, eq-eqb o o refl, open_yet) (omega (arith, e))
    go p (no q) = rw (ne_eqb p o q) (omega arith)

module _ (l : Loop) (ii : ℕ) (f : Placing) (o t : ℕ) (inside : o < size l) (open_yet : f o ≡ none) where
  -- its own cells
  abbrev own : List Cell
  own = footprint ii (op_at l o) t

  -- it uses them besides
  pub used_place : (s r : ℕ) → used l ii (place_at f o t) s r ≡ count_of s r (footprint ii (op_at l o) t) + used l ii f s r
  unfolding count_if
  used_place s r =
      cells_sum l ii (place_at f o t) s r ∙ sum_placed (λ p x. count_of s r (op_cells ii (op_at l p) x)) f (size l) o t inside open_yet refl
      ∙ ap (λ (n : ℕ). count_of s r own + n) (sym (cells_sum l ii f s r))

  -- the placing with it is within the capacities exactly where it was and there is room for it
  pub within_place : (cap : Capacity) → within cap l ii (place_at f o t) ≡ (within cap l ii f && room_for cap l ii f o t)
  unfolding room_for
  within_place cap =
      same_true (within cap l ii (place_at f o t)) (within cap l ii f && room cap (used l ii f) own)
      (λ e. and_both (within cap l ii f) (room cap (used l ii f) own)
      (each_within cap l ii f (λ s r. omega (arith, used_place s r, within_each cap l ii (place_at f o t) e s r)))
      (each_room cap (used l ii f) own (λ s r h. omega (arith, used_place s r, within_each cap l ii (place_at f o t) e s r))))
      (λ e. each_within cap l ii (place_at f o t) (λ s r.
      omega (
        arith,
        used_place s r,
        within_each cap l ii f (and_left (within cap l ii f) _ e) s r,
        room_each cap (used l ii f) own (and_right (within cap l ii f) _ e) s r,
      )))

  -- and legal exactly where it was legal and the operation fits
  pub legal_within_place : (cap : Capacity) → legal_within cap l ii (place_at f o t) ≡ (legal_within cap l ii f && fits_within cap l ii f o t)
  unfolding legal_within fits_within
  legal_within_place cap =
      ap₂ ◌&&◌ (meets_place l ii f o t open_yet) (within_place cap)
      ∙ swap (meets l ii f) (not (any_of (breaks ii f o t) l.deps)) (within cap l ii f) (room_for cap l ii f o t)
    where
      swap : (a b c d : Bool) → (a && b && (c && d)) ≡ (a && c && (b && d))
      swap true true c d = refl
      swap true false true d = refl
      swap true false false d = refl
      swap false b c d = refl

-- ---- at capacity 1

module _ (l : Loop) (ii : ℕ) (ok : LoopOk l) (pos : 1 ≤ ii) where
  -- a placing is within exactly where no operation conflicts with another or with itself
  pub within_apart : (f : Placing) → within single l ii f ≡ apart l ii f
  within_apart f =
      same_true (within single l ii f) (apart l ii f)
      (λ e. once_apart l ii f ok pos (within_each single l ii f e))
      (λ e. each_within single l ii f (apart_once l ii f ok e))

  -- so it is legal at capacity 1 exactly where it is legal
  pub legal_single : (f : Placing) → legal_within single l ii f ≡ legal_at l ii f
  unfolding legal_within legal_at
  legal_single f = ap (λ (b : Bool). meets l ii f && b) (within_apart f)

  -- there is room for an operation exactly where it conflicts neither with itself nor with a placed one
  pub room_conflicts : (f : Placing) (o t : ℕ) → o < size l → f o ≡ none → room_for single l ii f o t ≡ not (conflicts l ii f o t)
  unfolding room_for
  room_conflicts f o t inside open_yet =
      same_true (room single (used l ii f) (footprint ii (op_at l o) t)) (not (conflicts l ii f o t))
      (λ e. false_not (conflicts l ii f o t) (or_both (self_conflict ii (op_at l o)) _
      (once_self ii (op_at l o) t (ok.op_ok o inside) pos (λ s r. omega (arith, room_each single (used l ii f) (footprint ii (op_at l o) t) e s r)))
      (sym (share_place l ii f o t open_yet) ∙ cells_apart (footprint ii (op_at l o) t) (cells_of l ii f) (λ s r h. omega (arith, room_each single (used l ii f) (footprint ii (op_at l o) t) e s r)))))
      (λ e. let c = not-true (conflicts l ii f o t) e in each_room single (used l ii f) (footprint ii (op_at l o) t) (λ s r h.
      omega (
        arith,
        self_once ii (op_at l o) t (ok.op_ok o inside) (or_false_left (self_conflict ii (op_at l o)) _ c) s r,
        apart_cells (footprint ii (op_at l o) t) (cells_of l ii f) (share_place l ii f o t open_yet ∙ or_false_right (self_conflict ii (op_at l o)) _ c) s r h,
      )))

  -- so it fits at capacity 1 exactly where it fits
  pub fits_single : (f : Placing) (o t : ℕ) → o < size l → f o ≡ none → fits_within single l ii f o t ≡ fits_at l ii f o t
  unfolding fits_within fits_at
  fits_single f o t inside open_yet = ap (λ (b : Bool). not (any_of (breaks ii f o t) l.deps) && b) (room_conflicts f o t inside open_yet)

  -- ---- legality

  -- what is legal for all is legal for some
  pub legal_part : (f g : Placing) → SubPlacing f g → legal_at l ii g ≡ true → legal_at l ii f ≡ true
  legal_part f g p e = sym (legal_single f) ∙ legal_within_part single l ii f g p (legal_single g ∙ e)

  -- a placing with one operation more is legal exactly where it was legal and the operation fits
  pub legal_place : (f : Placing) (o t : ℕ) → o < size l → f o ≡ none → legal_at l ii (place_at f o t) ≡ (legal_at l ii f && fits_at l ii f o t)
  legal_place f o t inside open_yet =
      sym (legal_single (place_at f o t)) ∙ legal_within_place l ii f o t inside open_yet single ∙ ap₂ ◌&&◌ (legal_single f) (fits_single f o t inside open_yet)

  -- nothing placed is legal
  pub legal_nothing : (f : Placing) → ((o : ℕ) → f o ≡ none) → legal_at l ii f ≡ true
  unfolding legal_at count_if
  legal_nothing f h =
      and_both (meets l ii f) (apart l ii f)
      (each_meets l ii f (λ e m. ap (λ (x : Option ℕ). broken_at ii (dep_at l e) x (f (dep_at l e).dst)) (h (dep_at l e).src)))
      (once_apart l ii f ok pos (λ s r. rw (cells_nothing l ii f h) (omega arith)))

  pub legal_nil : legal l ii [] ≡ true
  legal_nil = legal_nothing (placed []) (λ o. refl)

  -- a prefix of a legal list is legal
  pub legal_prefix : (xs ys : List ℕ) → legal l ii (xs ++ ys) ≡ true → legal l ii xs ≡ true
  legal_prefix xs ys = legal_part (placed xs) (placed (xs ++ ys)) (placed_part xs ys)

  -- a list is legal exactly where all but its last start are, and the last fits
  pub legal_snoc : (xs : List ℕ) (s : ℕ) → length xs < size l → legal l ii (xs ++ (s ∷ [])) ≡ (legal l ii xs && fits_at l ii (placed xs) (length xs) s)
  legal_snoc xs s h = ap (legal_at l ii) (placed_snoc xs s) ∙ legal_place (placed xs) (length xs) s h (placed_past xs)
