-- Free rows: of each slot a legal table leaves free what the placed operations do not hold, whatever their starts; so a call changes the number by the durations of what comes and goes. Assumes nothing.
use mathlib.Core.Path.{◌≡◌, refl, sym, ap, ◌∙◌, fun_ext}
use mathlib.Core.Bool.{Bool, true, false, cond, ◌&&◌}
use mathlib.Core.List.{List, ◌++◌, map}
use mathlib.Core.Option.{Option, none, some}
use Prim.Native.Nat.{ℕ, suc, ◌+◌, ◌≤◌, ◌<◌}
use native.Mathlib.Omega.{arith}
use borrow.Author.Tests.{leb-false, not-false}
use lib.Dec.{eqb}
use lib.ListN.{length, get_or, set, take, length-set}
use lib.Seq.{take_at, take_all, get_or-set_same, set-get_or, set-set}
use Rattle.model.specs.Lists.{up_from, count_if, sum_of}
use Rattle.model.specs.Refusals.{first_refusal}
use Rattle.model.specs.Loop.{Loop, no_op, size, op_at, op_on, LoopOk}
use Rattle.model.specs.Legality.{Placing, placed, Cell, meets, apart, legal_at, place_at}
use Rattle.model.specs.Table.{row_base, count_of, op_cells, row_number, table_of, cells_of, IsTable, digit_of, free_of, free_rows}
use Rattle.model.specs.Counts.{placed_on, held_on}
use Rattle.model.specs.Bounds.{total_on}
use Rattle.model.specs.Session.{Setup, Starts, State, placed_in, place, force, remove, is_placed, checks, in_the_way, without, effect}
use Rattle.model.proofs.Lists.{and_right, length_tabulate, get_or_tabulate, count_map, sum_add, sum_same, sum_none, sum_places}
use Rattle.model.proofs.Rows.{tabulate_is}
use Rattle.model.proofs.Checks.{passes_head, passes_tail}
use Rattle.model.proofs.Sums.{sum_swap, zeros_sum}
use Rattle.model.proofs.StartLists.{placed_in_lem, set_places}
use Rattle.model.proofs.Table.{row_digit, length_table, table_take}
use Rattle.model.proofs.Cells.{rows_footprint}
use Rattle.model.proofs.Conflicts.{cells_at, cells_sum, apart_once}
use Rattle.model.proofs.Counts.{sum_placed}
use Rattle.model.proofs.Good.{without_length, without_at, new_passed}

-- ---- what is held

-- over all rows, the placed operations have as many cells of a slot as the cycles for which they hold it
pub rows_held : (ii s : ℕ) (l : Loop) (f : Placing) → LoopOk l → 1 ≤ ii → sum_of (λ r. count_of s r (cells_of l ii f)) (up_from 0 ii) ≡ held_on l f s
unfolding held_on count_if
rows_held ii s l f ok pos =
    sum_same _ (λ r. sum_of (cells_at l ii f s r) (up_from 0 (size l))) 0 ii (λ r a b. cells_sum l ii f s r)
    ∙ sum_swap (λ r o. cells_at l ii f s r o) (up_from 0 ii) (up_from 0 (size l))
    ∙ sum_same _ (λ o. placed_on s (op_at l o) (f o)) 0 (size l) (λ o a b. one o (omega arith) (f o))
  where
    one : (o : ℕ) → o < size l → (x : Option ℕ) → sum_of (λ r. count_of s r (op_cells ii (op_at l o) x)) (up_from 0 ii) ≡ placed_on s (op_at l o) x
    one o m none = sum_none (λ r. 0) 0 ii (λ r a b. refl)
    one o m (some t) = rows_footprint ii t s (op_at l o) (ok.op_ok o m) pos

-- a list of all starts holds the total of durations on the slot
pub held_all : (l : Loop) (xs : List ℕ) (s : ℕ) → length xs ≡ size l → held_on l (placed xs) s ≡ total_on l s
unfolding held_on total_on
held_all l xs s e =
    sum_same (λ o. placed_on s (op_at l o) (placed xs o)) (λ o. op_on s (op_at l o)) 0 (size l) (λ o a b. ap (placed_on s (op_at l o)) (placed_in_lem xs o (omega arith)))
    ∙ sym (sum_places (op_on s) l.ops no_op)

-- nothing placed holds nothing
pub held_nothing : (l : Loop) (f : Placing) → ((o : ℕ) → f o ≡ none) → (s : ℕ) → held_on l f s ≡ 0
unfolding held_on
held_nothing l f h s = sum_none _ 0 (size l) (λ o a b. ap (placed_on s (op_at l o)) (h o))

-- an operation more holds the durations of its uses besides
pub held_place : (l : Loop) (f : Placing) (o t : ℕ) → o < size l → f o ≡ none → (s : ℕ) → held_on l (place_at f o t) s ≡ op_on s (op_at l o) + held_on l f s
unfolding held_on
held_place l f o t inside open_yet s = sum_placed (λ p x. placed_on s (op_at l p) x) f (size l) o t inside open_yet refl

-- ---- what is free

-- the numbers are 24, and number i is that of slot i + 1
pub free_length : (ii : ℕ) (rows : List ℕ) → length (free_rows ii rows) ≡ 24
unfolding free_rows
free_length ii rows = length_tabulate (free_of ii rows) 1 24

pub free_at : (ii : ℕ) (rows : List ℕ) (i : ℕ) → i < 24 → get_or (free_rows ii rows) i 0 ≡ free_of ii rows (suc i)
unfolding free_rows
free_at ii rows i l = get_or_tabulate (free_of ii rows) 1 24 i 0 l ∙ ap (free_of ii rows) (omega arith)

-- 24 numbers that are so are those of the table
pub free_same : (ii : ℕ) (rows xs : List ℕ) → length xs ≡ 24 → ((i : ℕ) → i < 24 → get_or xs i 0 ≡ free_of ii rows (suc i)) → xs ≡ free_rows ii rows
unfolding free_rows
free_same ii rows xs e h = sym (tabulate_is (free_of ii rows) 1 24 xs 0 (sym e) (λ i l. let next : 1 + i ≡ suc i = omega arith in ap (free_of ii rows) next ∙ sym (h i l)))

-- later rows play no part
pub free_take : (ii : ℕ) (xs ys : List ℕ) → take ii xs ≡ take ii ys → free_rows ii xs ≡ free_rows ii ys
unfolding free_rows free_of
free_take ii xs ys e = ap (λ (zs : List ℕ). map (λ s. count_if (λ x. eqb (digit_of row_base x s) 0) zs) (up_from 1 24)) e

pub free_front : (xs ys : List ℕ) (ii : ℕ) → length xs ≡ ii → free_rows ii (xs ++ ys) ≡ free_rows ii xs
free_front xs ys ii e = free_take ii (xs ++ ys) xs (take_at xs ys ii e ∙ sym (take_all ii xs (omega arith)))

-- rows that hold a table have its numbers
pub free_table : (ii : ℕ) (cells : List Cell) (rows : List ℕ) → IsTable row_base ii cells rows → free_rows ii rows ≡ free_rows ii (table_of row_base ii cells)
free_table ii cells rows held =
    free_take ii rows (table_of row_base ii cells)
    (table_take row_base ii cells rows held ∙ sym (take_all ii (table_of row_base ii cells) (omega (arith, length_table row_base ii cells))))

module _ (l : Loop) (ii : ℕ) (f : Placing) (rows : List ℕ) (ok : LoopOk l) (pos : 1 ≤ ii) (fine : legal_at l ii f ≡ true) (held : IsTable row_base ii (cells_of l ii f) rows) where
  -- no cell occurs twice
  once : (s r : ℕ) → count_of s r (cells_of l ii f) ≤ 1
  unfolding legal_at
  once = apart_once l ii f ok (and_right (meets l ii f) (apart l ii f) fine)

  -- the law: the rows that are free and the durations that are held make up the interval
  pub free_held : (s : ℕ) → 1 ≤ s → s ≤ 24 → free_of ii rows s + held_on l f s ≡ ii
  unfolding free_of table_of
  free_held s lo hi =
      omega (
        arith,
        ap (count_if (λ x. eqb (digit_of row_base x s) 0)) (table_take row_base ii (cells_of l ii f) rows held)
            ∙ count_map (λ x. eqb (digit_of row_base x s) 0) (row_number row_base (cells_of l ii f)) (up_from 0 ii)
            ∙ ap (λ (g : ℕ → ℕ). count_if (λ r. eqb (g r) 0) (up_from 0 ii)) (fun_ext (λ r. row_digit row_base s r (cells_of l ii f) lo hi (λ t. omega (arith, once t r)))),
        zeros_sum (λ r. count_of s r (cells_of l ii f)) 0 ii (λ r a b. once s r),
        rows_held ii s l f ok pos,
      )

  -- so each number of the table makes up the interval with what is held of its slot
  pub is_free : (xs : List ℕ) → xs ≡ free_rows ii rows → (i : ℕ) → i < 24 → get_or xs i 0 + held_on l f (suc i) ≡ ii
  is_free xs e i l = omega (arith, ap (λ (ys : List ℕ). get_or ys i 0) e ∙ free_at ii rows i l, free_held (suc i) (omega arith) (omega arith))

-- ---- calls that are not refused

module _ (u : Setup) (st : State) (whole : length st.starts ≡ size u.loop) (s : ℕ) where
  -- placing holds besides what the operation holds
  pub held_placed : (o t : ℕ) → first_refusal (checks u (place o t) st) ≡ none
      → held_on u.loop (placed_in (effect u (place o t) st).0.starts) s ≡ op_on s (op_at u.loop o) + held_on u.loop (placed_in st.starts) s
  held_placed o t e =
      let n = new_passed u st o t _ e in
      ap (λ (f : Placing). held_on u.loop f s) (set_places (λ x. x) none st.starts o (some t) t (omega (arith, n.inside)) refl)
      ∙ held_place u.loop (placed_in st.starts) o t n.inside n.free s

  -- removing gives it back
  pub held_removed : (o : ℕ) → first_refusal (checks u (remove o) st) ≡ none
      → held_on u.loop (placed_in st.starts) s ≡ op_on s (op_at u.loop o) + held_on u.loop (placed_in (effect u (remove o) st).0.starts) s
  held_removed o e = there (get_or st.starts o none) refl (not-false _ (passes_head _ _ (passes_tail _ _ e)))
    where
      inside : o < size u.loop
      inside = leb-false _ _ (passes_head _ _ e)

      left : Starts
      left = set st.starts o none

      there : (x : Option ℕ) → get_or st.starts o none ≡ x → is_placed x ≡ true
          → held_on u.loop (placed_in st.starts) s ≡ op_on s (op_at u.loop o) + held_on u.loop (placed_in left) s
      there none q z = let y : ◌≡◌ {A = ℕ} 0 1 = cc in absurd (omega arith)
      there (some t) q z =
          ap (λ (xs : Starts). held_on u.loop (placed_in xs) s) (sym (set-set st.starts o none (some t) ∙ ap (set st.starts o) (sym q) ∙ set-get_or st.starts o none))
          ∙ ap (λ (f : Placing). held_on u.loop f s) (set_places (λ x. x) none left o (some t) t (omega (arith, length-set st.starts o none, inside)) refl)
          ∙ held_place u.loop (placed_in left) o t inside (get_or-set_same st.starts o none none (omega (arith, inside))) s

  -- what is in the way gives back what it holds
  pub held_without : (o t : ℕ) → held_on u.loop (placed_in st.starts) s
      ≡ held_on u.loop (placed_in (without u st.starts o t)) s + sum_of (λ p. cond (in_the_way u st.starts o t p) (op_on s (op_at u.loop p)) 0) (up_from 0 (size u.loop))
  unfolding held_on in_the_way
  held_without o t =
      sum_same _ (λ p. stays p + goes p) 0 (size u.loop) (λ p a b. rw (without_at u st.starts o t p) (part p (get_or st.starts p none) _))
      ∙ sum_add stays goes (up_from 0 (size u.loop))
    where
      stays : ℕ → ℕ
      stays p = placed_on s (op_at u.loop p) (get_or (without u st.starts o t) p none)

      goes : ℕ → ℕ
      goes p = cond (in_the_way u st.starts o t p) (op_on s (op_at u.loop p)) 0

      part : (p : ℕ) (x : Option ℕ) (b : Bool) → placed_on s (op_at u.loop p) x
          ≡ placed_on s (op_at u.loop p) (cond (is_placed x && b) none x) + cond (is_placed x && b) (op_on s (op_at u.loop p)) 0
      part p none b = refl
      part p (some y) true = omega arith
      part p (some y) false = omega arith

  -- forcing does both
  pub held_forced : (o t : ℕ) → first_refusal (checks u (force o t) st) ≡ none
      → held_on u.loop (placed_in (effect u (force o t) st).0.starts) s
      + sum_of (λ p. cond (in_the_way u st.starts o t p) (op_on s (op_at u.loop p)) 0) (up_from 0 (size u.loop))
      ≡ op_on s (op_at u.loop o) + held_on u.loop (placed_in st.starts) s
  held_forced o t e =
      let n = new_passed u st o t _ e in
      let left : Starts = without u st.starts o t in
      omega (
        arith,
        ap (λ (f : Placing). held_on u.loop f s) (set_places (λ x. x) none left o (some t) t (omega (arith, without_length u st.starts o t, n.inside)) refl)
            ∙ held_place u.loop (placed_in left) o t n.inside (without_at u st.starts o t o ∙ stays_none (in_the_way u st.starts o t o) (get_or st.starts o none) n.free) s,
        held_without o t,
      )
    where
      stays_none : (b : Bool) (x : Option ℕ) → x ≡ none → cond b none x ≡ none
      stays_none true x q = refl
      stays_none false x q = q
