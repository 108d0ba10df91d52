-- There is a first place without room exactly where there is no room, over any capacities. So at capacity 1 there is one exactly where there is a conflict: with placed operations and itself, with itself alone, or with some
-- cells alone. And what such a place is. Assumes nothing.
use mathlib.Core.Path.{◌≡◌, refl, sym, ap, ◌∙◌}
use mathlib.Core.Bool.{Bool, true, false, cond}
use mathlib.Core.List.{List}
use mathlib.Core.Option.{none, some}
use Prim.Native.Nat.{ℕ, ◌+◌, ◌-◌, ◌/◌, ◌%◌, ◌≤◌, ◌<◌}
use native.Mathlib.Decide.{dec_lt, dec_le, ℕ_discrete}
use native.Mathlib.Omega.{arith}
use borrow.Author.Tests.{le-leb, lt-leb, leb-false, lt-ltb, le-ltb, eq-eqb, eqb-true, not-true}
use lib.Dec.{eqb}
use lib.ListN.{length}
use Rattle.model.specs.Loop.{Use, Op, Loop, no_use, size, op_at, use_at, OpOk, LoopOk}
use Rattle.model.specs.Legality.{Placing, Cell, footprint, share, self_conflict, conflicts}
use Rattle.model.specs.Table.{count_of}
use Rattle.model.specs.Counts.{Capacity, single, Usage, unused, used, room, room_for, cycles_in, taken_at, first_taken, place_number}
use Rattle.model.proofs.Lists.{true_false, false_not, count_before, count_last}
use Rattle.model.proofs.Firsts.{first_not, grid_not, none_grid, grid_is}
use Rattle.model.proofs.Conflicts.{Hit, apart_cells, cells_apart, share_sym, slots_rise, own_count, cell_hit, hit_cell, self_once, once_self}
use Rattle.model.proofs.Counts.{room_each, each_room, room_conflicts}

module _ (cap : Capacity) (u : Usage) (own : Bool) (ii : ℕ) (p : Op) (t : ℕ) (ok : OpOk p) where
  -- the cell that use j covers in its own cycle i has room yet
  abbrev Spare : ℕ → ℕ → Type 0
  Spare j i =
      let x : ℕ = t + (use_at p j).offset in
      u (use_at p j).slot ((x + i) % ii) + cond own (cycles_in ii x ((x + i) % ii) i) 0 < cap (use_at p j).slot

  -- nothing is taken exactly where each has
  taken_spare : first_taken cap u own ii p t ≡ none → (j i : ℕ) → j < length p.uses → i < (use_at p j).duration → Spare j i
  unfolding first_taken
  taken_spare e j i l m =
      let v : Use = use_at p j in
      let a : t + (v.offset + i) ≡ t + v.offset + i = omega arith in
      let b : v.offset + i - v.offset ≡ i = omega arith in
      leb-false _ _
      (rw (le-leb v.offset (v.offset + i) (omega arith), lt-ltb (v.offset + i) (v.offset + v.duration) (omega arith), a, b)
      at (none_grid (taken_at cap u own ii t) p.uses no_use 16 e (v.offset + i) j (omega (arith, (ok.each j l).ends)) l))

  spare_taken : ((j i : ℕ) → j < length p.uses → i < (use_at p j).duration → Spare j i) → first_taken cap u own ii p t ≡ none
  unfolding first_taken
  spare_taken h =
      grid_not (taken_at cap u own ii t) p.uses 16 (λ k l. first_not _ p.uses no_use (λ j m. go k j m (dec_le (use_at p j).offset k) (dec_lt k ((use_at p j).offset + (use_at p j).duration))))
    where
      go : (k j : ℕ) → j < length p.uses → Dec ((use_at p j).offset ≤ k) → Dec (k < (use_at p j).offset + (use_at p j).duration) → taken_at cap u own ii t k (use_at p j) ≡ false
      go k j m (no a) b = rw (lt-leb (use_at p j).offset k (omega arith))
      go k j m (yes a) (no b) = rw (le-leb (use_at p j).offset k a, le-ltb k ((use_at p j).offset + (use_at p j).duration) (omega arith))
      go k j m (yes a) (yes b) =
          let e : t + (use_at p j).offset + (k - (use_at p j).offset) ≡ t + k = omega arith in
          rw (le-leb (use_at p j).offset k a, lt-ltb k ((use_at p j).offset + (use_at p j).duration) b) (lt-leb _ _ (rw e at (h j (k - (use_at p j).offset) m (omega arith))))

module _ (cap : Capacity) (u : Usage) (ii : ℕ) (p : Op) (t : ℕ) (ok : OpOk p) where
  -- nothing taken, own cells counted: there is room
  pub taken_room : first_taken cap u true ii p t ≡ none → room cap u (footprint ii p t) ≡ true
  taken_room e = each_room cap u (footprint ii p t) (λ s r h. go s r h (cell_hit ii p t ok s r h))
    where
      go : (s r : ℕ) → 1 ≤ count_of s r (footprint ii p t) → (j : ℕ) × (i : ℕ) × Hit ii p t s r j i → u s r + count_of s r (footprint ii p t) ≤ cap s
      go s r h (j, i, c) =
          let own = own_count ii p t ok j r c.inside in
          let w = count_last (λ i. eqb r ((t + (use_at p j).offset + i) % ii)) (use_at p j).duration (omega (arith, rw (← c.slot) at h)) in
          rw (← c.slot) (omega (arith, w.3, rw (← eqb-true r _ w.2) at (taken_spare cap u true ii p t ok e j w.0 c.inside w.1)))

  -- and the other way round
  pub room_taken : room cap u (footprint ii p t) ≡ true → first_taken cap u true ii p t ≡ none
  room_taken e = spare_taken cap u true ii p t ok (λ j i l m.
      let x : ℕ = t + (use_at p j).offset in
      let r : ℕ = (x + i) % ii in
      let own = own_count ii p t ok j r l in
      let c = count_before (λ i. eqb r ((x + i) % ii)) i (use_at p j).duration m (eq-eqb r r refl) in
      omega (arith, room_each cap u (footprint ii p t) e (use_at p j).slot r))

-- at capacity 1 nothing is taken exactly where the operation conflicts neither with itself nor with a placed one
module _ (l : Loop) (ii : ℕ) (ok : LoopOk l) (pos : 1 ≤ ii) (f : Placing) (o t : ℕ) (inside : o < size l) (open_yet : f o ≡ none) where
  pub taken_conflicts : first_taken single (used l ii f) true ii (op_at l o) t ≡ none → conflicts l ii f o t ≡ false
  unfolding room_for
  taken_conflicts e = not-true _ (sym (room_conflicts l ii ok pos f o t inside open_yet) ∙ taken_room single (used l ii f) ii (op_at l o) t (ok.op_ok o inside) e)

  pub conflicts_taken : conflicts l ii f o t ≡ false → first_taken single (used l ii f) true ii (op_at l o) t ≡ none
  unfolding room_for
  conflicts_taken e = room_taken single (used l ii f) ii (op_at l o) t (ok.op_ok o inside) (room_conflicts l ii ok pos f o t inside open_yet ∙ false_not _ e)

-- an operation's own cells alone: nothing is taken exactly where it does not conflict with itself
module _ (ii : ℕ) (p : Op) (t : ℕ) (ok : OpOk p) where
  pub taken_self : 1 ≤ ii → first_taken single unused true ii p t ≡ none → self_conflict ii p ≡ false
  taken_self pos e = once_self ii p t ok pos (λ s r. omega (arith, room_each single unused (footprint ii p t) (taken_room single unused ii p t ok e) s r))

  pub self_taken : self_conflict ii p ≡ false → first_taken single unused true ii p t ≡ none
  self_taken e = room_taken single unused ii p t ok (each_room single unused (footprint ii p t) (λ s r h. omega (arith, self_once ii p t ok e s r)))

  -- some other cells alone: nothing is taken exactly where the operation shares none of them
  pub taken_share : (xs : List Cell) → first_taken single (λ s r. count_of s r xs) false ii p t ≡ none → share xs (footprint ii p t) ≡ false
  taken_share xs e = cells_apart xs (footprint ii p t) (λ s r h. go s r h (ℕ_discrete (count_of s r (footprint ii p t)) 0))
    where
      go : (s r : ℕ) → 1 ≤ count_of s r xs → Dec (count_of s r (footprint ii p t) ≡ 0) → count_of s r (footprint ii p t) ≡ 0
      go s r h (yes z) = z
      go s r h (no z) =
          let c = cell_hit ii p t ok s r (omega arith) in
          let x = c.2 in
          absurd (omega (arith, rw (x.slot, x.row) at (taken_spare single (λ s r. count_of s r xs) false ii p t ok e c.0 c.1 x.inside x.going)))

  pub share_taken : (xs : List Cell) → share xs (footprint ii p t) ≡ false → first_taken single (λ s r. count_of s r xs) false ii p t ≡ none
  share_taken xs e =
      spare_taken single (λ s r. count_of s r xs) false ii p t ok (λ j i l m.
      let s : ℕ = (use_at p j).slot in
      let r : ℕ = (t + (use_at p j).offset + i) % ii in
      let none_there = apart_cells (footprint ii p t) xs (share_sym (footprint ii p t) xs ∙ e) s r (hit_cell ii p t ok s r j i (record { inside = l; slot = refl; going = m; row = refl })) in
      omega (arith, none_there))

-- ---- the place

-- the place found: a use of the operation that covers a cell without room in that cycle, where no use of a lower slot does, and no use in an earlier cycle
pub record TakenPlace (cap : Capacity) (u : Usage) (own : Bool) (ii : ℕ) (p : Op) (t k : ℕ) (v : Use) : Type 0 where
  pub cycle_below : k < 16
  pub use_number : ℕ
  pub use_inside : use_number < length p.uses
  pub use_is : use_at p use_number ≡ v
  pub is_taken : taken_at cap u own ii t k v ≡ true
  pub lowest : (j : ℕ) → j < use_number → taken_at cap u own ii t k (use_at p j) ≡ false
  pub earliest : (c j : ℕ) → c < k → j < length p.uses → taken_at cap u own ii t c (use_at p j) ≡ false

pub taken_found : (cap : Capacity) (u : Usage) (own : Bool) (ii : ℕ) (p : Op) (t k : ℕ) (v : Use) → first_taken cap u own ii p t ≡ some (k, v) → TakenPlace cap u own ii p t k v
unfolding first_taken
taken_found cap u own ii p t k v e =
    let g = grid_is (taken_at cap u own ii t) p.uses no_use 16 k v e in
    record {
      cycle_below = g.below;
      use_number = g.here.at;
      use_inside = g.here.inside;
      use_is = g.here.is;
      is_taken = g.here.passes;
      lowest = g.here.earlier;
      earliest = g.smaller;
    }

-- cycle and slot are read off its number
pub place_cycle : (k : ℕ) (v : Use) → v.slot < 32 → place_number (k, v) / 32 ≡ k
place_cycle k v l = omega arith

pub place_slot : (k : ℕ) (v : Use) → v.slot < 32 → place_number (k, v) % 32 ≡ v.slot
place_slot k v l = omega arith

module _ (cap : Capacity) (u : Usage) (own : Bool) (ii : ℕ) (p : Op) (t k : ℕ) (v : Use) (ok : OpOk p) (e : first_taken cap u own ii p t ≡ some (k, v)) where
  found : TakenPlace cap u own ii p t k v
  found = taken_found cap u own ii p t k v e

  -- of an operation in range they are small
  pub place_small : (k < 16) × (v.slot ≤ 24)
  place_small = (found.cycle_below, rw (← found.use_is) (ok.each found.use_number found.use_inside).slot_high)

  -- and every taken place has this number or a larger one
  pub place_least : (c j : ℕ) → j < length p.uses → taken_at cap u own ii t c (use_at p j) ≡ true → place_number (k, v) ≤ place_number (c, use_at p j)
  place_least c j l h =
      let not_before : c < k → ⊥ = λ m. true_false (sym h ∙ found.earliest c j m l) in
      let not_below : c ≡ k → j < found.use_number → ⊥ = λ m n. true_false (sym h ∙ rw m (found.lowest j n)) in
      pick (dec_lt k c) not_before not_below
    where
      here : (use_at p found.use_number).slot ≡ v.slot
      here = ap (λ (w : Use). w.slot) found.use_is

      rises : Dec (found.use_number ≡ j) → found.use_number ≤ j → v.slot ≤ (use_at p j).slot
      rises (yes q) m = let there : (use_at p j).slot ≡ v.slot = rw q at here in omega arith
      rises (no n) m = omega (arith, here, slots_rise p ok found.use_number j (omega arith) l)

      pick : Dec (k < c) → (c < k → ⊥) → (c ≡ k → j < found.use_number → ⊥) → place_number (k, v) ≤ place_number (c, use_at p j)
      pick (yes m) f g = omega (arith, place_small)
      pick (no m) f g =
          let same : c ≡ k = omega arith in
          let after : found.use_number ≤ j = omega (arith, g same) in
          omega (arith, rises (ℕ_discrete found.use_number j) after)
