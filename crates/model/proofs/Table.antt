-- Laws of the reservation table, over the base. Assumes nothing.
use mathlib.Core.Path.{◌≡◌, refl, sym, ap, ◌∙◌, fun_ext}
use mathlib.Core.Bool.{Bool, cond, and-false}
use mathlib.Core.Logic.{◌⊎◌, inl, inr}
use mathlib.Core.List.{List, [], ◌∷◌, ◌++◌, map, flat_map}
use mathlib.Core.Option.{none}
use Prim.Native.Nat.{ℕ, zero, suc, ◌+◌, ◌-◌, ◌*◌, ◌/◌, ◌%◌, ◌^◌, ◌≤◌, ◌<◌}
use native.Mathlib.Nat.{add-mul, zero-mul, one-mul, zero-add, add-zero, add_comm, mul_assoc, le_refl, le_of_suc-le-suc, not-suc-le-zero, eq-or-lt_of_le, mod-eq_of_lt, one-le-pow, add-mul-div_right, add-mul-mod_self_right, pow-zero, pow-succ', div-eq_of_lt, sub-add_cancel}
use native.Mathlib.Decide.{ℕ_discrete}
use native.Mathlib.Omega.{arith}
use borrow.Author.Tests.{le-leb, eq-eqb, ne_eqb}
use lib.Dec.{leb}
use lib.Arith.{digits_lt}
use lib.ListN.{length, get_or, set, take, replicate, length-set, length-replicate, get_or-replicate}
use lib.Pow.{pow-add}
use lib.Seq.{ext_get_or, get_or-take, get_or-set_same, get_or-set_other, length-take-le, take_all}
use Rattle.model.specs.Lists.{up_from, any_of, count_if}
use Rattle.model.specs.Loop.{Loop, size, op_at}
use Rattle.model.specs.Legality.{Placing, Cell, same_cell}
use Rattle.model.specs.Table.{count_of, number, row_number, table_of, op_cells, cells_of, covered_at, IsTable, digit_of, Digits}
use Rattle.model.proofs.Lists.{any_flat_map, any_count, count_append, length_tabulate, get_or_tabulate}

-- ---- the count of a cell

-- a cell in this slot and row adds one
pub count_cell_same : (s r : ℕ) (c : Cell) (cells : List Cell) → c.slot ≡ s → c.row ≡ r → count_of s r (c ∷ cells) ≡ suc (count_of s r cells)
unfolding count_if
count_cell_same s r c cells p q = rw (eq-eqb s c.slot (sym p), eq-eqb r c.row (sym q)) (omega arith)

-- a cell in another slot adds nothing
pub count_cell_slot : (s r : ℕ) (c : Cell) (cells : List Cell) → (c.slot ≡ s → ⊥) → count_of s r (c ∷ cells) ≡ count_of s r cells
unfolding count_if
count_cell_slot s r c cells n = rw (ne_eqb s c.slot (λ e. n (sym e))) (zero-add (count_of s r cells))

-- a cell in another row adds nothing
pub count_cell_row : (s r : ℕ) (c : Cell) (cells : List Cell) → (c.row ≡ r → ⊥) → count_of s r (c ∷ cells) ≡ count_of s r cells
unfolding count_if
count_cell_row s r c cells n = rw (ne_eqb r c.row (λ e. n (sym e)), and-false) (zero-add (count_of s r cells))

-- where a cell stands in the list does not matter
pub count_middle : (s r : ℕ) (c : Cell) (a b : List Cell) → count_of s r (c ∷ (a ++ b)) ≡ count_of s r (a ++ (c ∷ b))
unfolding count_if
count_middle s r c a b = simp count_append (omega arith)

-- ---- a number by its digits

-- digits added place by place give the sum of the numbers
pub number_add : (base : ℕ) (f g : ℕ → ℕ) (n : ℕ) → number base (λ j. f j + g j) n ≡ number base f n + number base g n
unfolding number
number_add base f g zero = refl
number_add base f g (suc n) = rw (number_add base f g n, add-mul (f n) (g n) (base ^ n)) (omega arith)

-- where every digit is 0 the number is 0
pub number_none : (base : ℕ) (f : ℕ → ℕ) (n : ℕ) → ((j : ℕ) → j < n → f j ≡ 0) → number base f n ≡ 0
unfolding number
number_none base f zero h = refl
number_none base f (suc n) h = rw (number_none base f n (λ j l. h j (omega arith)), h n (le_refl (suc n)), zero-mul)

-- one digit 1 among zeros is a power of the base
pub number_single : (base : ℕ) (f : ℕ → ℕ) (k n : ℕ) → k < n → f k ≡ 1 → ((j : ℕ) → (j ≡ k → ⊥) → f j ≡ 0) → number base f n ≡ base ^ k
unfolding number
number_single base f k zero l e h = absurd (not-suc-le-zero l)
number_single base f k (suc n) l e h = pick (eq-or-lt_of_le (le_of_suc-le-suc l)) (number_single base f k n)
  where
    pick : (k ≡ n) ⊎ (k < n) → (k < n → f k ≡ 1 → ((j : ℕ) → (j ≡ k → ⊥) → f j ≡ 0) → number base f n ≡ base ^ k)
        → number base f n + f n * base ^ n ≡ base ^ k
    pick (inl q) ih = rw (number_none base f n (λ j l. h j (omega arith)), ← q, e, one-mul) (zero-add (base ^ k))
    pick (inr q) ih = rw (ih q e h, h n (omega arith), zero-mul) (add-zero (base ^ k))

-- n digits below the base give a number below base ^ n
pub number_lt : (base : ℕ) (f : ℕ → ℕ) (n : ℕ) → ((j : ℕ) → j < n → f j < base) → number base f n < base ^ n
unfolding number
number_lt base f zero h = rw pow-zero (le_refl 1)
number_lt base f (suc n) h =
    rw (add_comm (number base f n) (f n * base ^ n), pow-succ' base n)
    (digits_lt (h n (le_refl (suc n))) (number_lt base f n (λ j l. h j (omega arith))))

-- a multiple of a higher power of the base leaves the digit alone
digit_high : (base x y k m : ℕ) → 0 < base → k < m → (x + y * base ^ m) / base ^ k % base ≡ x / base ^ k % base
digit_high base x y k m p l =
    rw (eq, add-mul-div_right x (y * base ^ (m - suc k) * base) (one-le-pow k base p), add-mul-mod_self_right)
  where
    eq : y * base ^ m ≡ y * base ^ (m - suc k) * base * base ^ k
    eq =
        ap (λ (e : ℕ). y * base ^ e) (sym (sub-add_cancel l))
        ∙ ap (λ (e : ℕ). y * e) (pow-add base (m - suc k) (suc k))
        ∙ simp (pow-succ', mul_assoc)

-- the digits of the number are the digits that it was made of, where all are below the base
pub number_digit : (base : ℕ) (f : ℕ → ℕ) (k n : ℕ) → k < n → ((j : ℕ) → j < n → f j < base) → number base f n / base ^ k % base ≡ f k
unfolding number
number_digit base f k zero l h = absurd (not-suc-le-zero l)
number_digit base f k (suc n) l h =
    pick (eq-or-lt_of_le (le_of_suc-le-suc l)) (λ q. number_digit base f k n q (λ j l. h j (omega arith)))
  where
    pos : 0 < base
    pos = omega (arith, h k l)

    pick : (k ≡ n) ⊎ (k < n) → (k < n → number base f n / base ^ k % base ≡ f k) → (number base f n + f n * base ^ n) / base ^ k % base ≡ f k
    pick (inl q) ih =
        rw (← q, add-mul-div_right (number base f k) (f k) (one-le-pow k base pos), div-eq_of_lt (number_lt base f k (λ j w. h j (omega arith))), zero-add)
        (mod-eq_of_lt (h k l))
    pick (inr q) ih = digit_high base (number base f n) (f n) k n pos q ∙ ih q

-- ---- rows

-- the counts in a row determine its number
pub row_counts : (base r : ℕ) (a b : List Cell) → ((s : ℕ) → count_of s r a ≡ count_of s r b) → row_number base a r ≡ row_number base b r
unfolding row_number
row_counts base r a b h = ap (λ (f : ℕ → ℕ). number base f 24) (fun_ext (λ j. h (suc j)))

-- cells put together add their numbers
pub row_append : (base r : ℕ) (a b : List Cell) → row_number base (a ++ b) r ≡ row_number base a r + row_number base b r
unfolding row_number
row_append base r a b = simp count_append (number_add base (λ j. count_of (suc j) r a) (λ j. count_of (suc j) r b) 24)

-- without cells every row is 0
pub row_nil : (base r : ℕ) → row_number base [] r ≡ 0
unfolding row_number count_if
row_nil base r = number_none base (λ j. count_of (suc j) r []) 24 (λ j l. refl)

-- a cell adds base ^ (slot - 1) to its own row
pub row_same : (base s r : ℕ) (c : Cell) (cells : List Cell) → c.slot ≡ s → c.row ≡ r → 1 ≤ s → s ≤ 24
    → row_number base (c ∷ cells) r ≡ row_number base cells r + base ^ (s - 1)
unfolding row_number count_if
row_same base s r c cells p q lo hi =
    row_append base r (c ∷ []) cells
    ∙ ap (λ (x : ℕ). x + row_number base cells r)
    (number_single base (λ j. count_of (suc j) r (c ∷ [])) (s - 1) 24 (omega arith) (count_cell_same (suc (s - 1)) r c [] (omega arith) q)
    (λ j n. count_cell_slot (suc j) r c [] (λ e. n (omega arith))))
    ∙ add_comm (base ^ (s - 1)) (row_number base cells r)

-- and no other row changes
pub row_other : (base r : ℕ) (c : Cell) (cells : List Cell) → (c.row ≡ r → ⊥) → row_number base (c ∷ cells) r ≡ row_number base cells r
row_other base r c cells n = row_counts base r (c ∷ cells) cells (λ s. count_cell_row s r c cells n)

-- digit s - 1 of a row is the count of slot s, where every count is a digit
pub row_digit : (base s r : ℕ) (cells : List Cell) → 1 ≤ s → s ≤ 24 → ((t : ℕ) → count_of t r cells < base)
    → digit_of base (row_number base cells r) s ≡ count_of s r cells
unfolding row_number
row_digit base s r cells lo hi h =
    number_digit base (λ j. count_of (suc j) r cells) (s - 1) 24 (omega arith) (λ j l. h (suc j))
    ∙ ap (λ (t : ℕ). count_of t r cells) (omega arith)

-- a row of 24 digits is below base ^ 24
pub row_lt : (base r : ℕ) (cells : List Cell) → ((t : ℕ) → count_of t r cells < base) → row_number base cells r < base ^ 24
unfolding row_number
row_lt base r cells h = number_lt base (λ j. count_of (suc j) r cells) 24 (λ j l. h (suc j))

-- ---- the whole table

-- it has ii rows
pub length_table : (base ii : ℕ) (cells : List Cell) → length (table_of base ii cells) ≡ ii
unfolding table_of
length_table base ii cells = length_tabulate (row_number base cells) 0 ii

-- its row r is the number of row r
pub get_or_table : (base ii : ℕ) (cells : List Cell) (r : ℕ) → r < ii → get_or (table_of base ii cells) r 0 ≡ row_number base cells r
unfolding table_of
get_or_table base ii cells r l = get_or_tabulate (row_number base cells) 0 ii r 0 l ∙ ap (row_number base cells) (zero-add r)

-- equal counts give equal tables, so neither order nor grouping of the cells matters
pub table_counts : (base ii : ℕ) (a b : List Cell) → ((s r : ℕ) → count_of s r a ≡ count_of s r b) → table_of base ii a ≡ table_of base ii b
unfolding table_of
table_counts base ii a b h = ap (λ (f : ℕ → ℕ). map f (up_from 0 ii)) (fun_ext (λ r. row_counts base r a b (λ s. h s r)))

-- two lists of cells may change places
pub table_swap : (base ii : ℕ) (a b : List Cell) → table_of base ii (a ++ b) ≡ table_of base ii (b ++ a)
table_swap base ii a b = table_counts base ii (a ++ b) (b ++ a) (λ s r. simp count_append (omega arith))

-- a cell may stand anywhere
pub table_middle : (base ii : ℕ) (c : Cell) (a b : List Cell) → table_of base ii (c ∷ (a ++ b)) ≡ table_of base ii (a ++ (c ∷ b))
table_middle base ii c a b = table_counts base ii (c ∷ (a ++ b)) (a ++ (c ∷ b)) (λ s r. count_middle s r c a b)

-- ---- rows that are the table of some cells

-- such rows begin with the table
pub table_take : (base ii : ℕ) (cells : List Cell) (rows : List ℕ) → IsTable base ii cells rows → take ii rows ≡ table_of base ii cells
table_take base ii cells rows t =
    let e : length (take ii rows) ≡ ii = length-take-le ii rows t.long in
    ext_get_or 0 (take ii rows) (table_of base ii cells) (e ∙ sym (length_table base ii cells))
    (λ r l. let m : r < ii = omega arith in get_or-take ii rows r 0 m ∙ t.at r m ∙ sym (get_or_table base ii cells r m))

-- rows of zeros are the table of no cells
pub table_nil : (base ii : ℕ) (rows : List ℕ) → ii ≤ length rows → ((r : ℕ) → r < ii → get_or rows r 0 ≡ 0) → IsTable base ii [] rows
table_nil base ii rows long h = record { long = long; at = λ r l. h r l ∙ sym (row_nil base r) }

-- the table of no cells is ii zeros
pub table_nil_all : (base ii : ℕ) → table_of base ii [] ≡ replicate ii 0
table_nil_all base ii =
    let zeros : List ℕ = replicate ii 0 in
    let e : length zeros ≡ ii = length-replicate ii 0 in
    sym (table_take base ii [] zeros (table_nil base ii zeros (omega arith) (λ r l. get_or-replicate ii r 0 0 l))) ∙ take_all ii zeros (omega arith)

-- other cells of the same counts have the same rows
pub table_same : (base ii : ℕ) (a b : List Cell) (rows : List ℕ) → ((s r : ℕ) → count_of s r a ≡ count_of s r b) → IsTable base ii a rows → IsTable base ii b rows
table_same base ii a b rows h t = record { long = t.long; at = λ r l. t.at r l ∙ row_counts base r a b (λ s. h s r) }

-- row r set to its number in the table of other cells, which differ from these in row r alone
table_set : (base ii r v : ℕ) (a b : List Cell) (rows : List ℕ) → r < ii → v ≡ row_number base b r
    → ((q : ℕ) → (r ≡ q → ⊥) → row_number base a q ≡ row_number base b q) → IsTable base ii a rows → IsTable base ii b (set rows r v)
table_set base ii r v a b rows inside e others t = record { long = rw length-set t.long; at = λ q l. pick q l (ℕ_discrete r q) }
  where
    pick : (q : ℕ) → q < ii → Dec (r ≡ q) → get_or (set rows r v) q 0 ≡ row_number base b q
    pick q l (yes p) = rw (← p, get_or-set_same rows r v 0 (omega (arith, t.long))) e
    pick q l (no n) = get_or-set_other rows r q v 0 (λ p. n (sym p)) ∙ t.at q l ∙ others q n

module _ (base ii s r : ℕ) (cells : List Cell) (rows : List ℕ) (inside : r < ii) (lo : 1 ≤ s) (hi : s ≤ 24) where
  -- one cell more: its row gains base ^ (s - 1)
  pub table_add : IsTable base ii cells rows → IsTable base ii (record { slot = s; row = r } ∷ cells) (set rows r (get_or rows r 0 + base ^ (s - 1)))
  table_add t =
      let c : Cell = record { slot = s; row = r } in
      table_set base ii r (get_or rows r 0 + base ^ (s - 1)) cells (c ∷ cells) rows inside
      (omega (arith, t.at r inside, row_same base s r c cells refl refl lo hi)) (λ q n. sym (row_other base q c cells n)) t

  -- one cell less: its row loses base ^ (s - 1)
  pub table_drop : IsTable base ii (record { slot = s; row = r } ∷ cells) rows → IsTable base ii cells (set rows r (get_or rows r 0 - base ^ (s - 1)))
  table_drop t =
      let c : Cell = record { slot = s; row = r } in
      table_set base ii r (get_or rows r 0 - base ^ (s - 1)) (c ∷ cells) cells rows inside
      (omega (arith, t.at r inside, row_same base s r c cells refl refl lo hi)) (λ q n. row_other base q c cells n) t

-- ---- what is read from such rows, where every count is a digit

-- the digit is the count
pub digit_count : (base ii s r : ℕ) (cells : List Cell) (rows : List ℕ) → IsTable base ii cells rows → Digits base cells → r < ii → 1 ≤ s → s ≤ 24
    → digit_of base (get_or rows r 0) s ≡ count_of s r cells
digit_count base ii s r cells rows t d l lo hi = rw (t.at r l) (row_digit base s r cells lo hi (λ u. d u r))

-- a count of at most 1 says whether there is one
count_any : {A : Type 0} (p : A → Bool) (xs : List A) → count_if p xs ≤ 1 → count_if p xs ≡ cond (any_of p xs) 1 0
count_any p xs l = rw (any_count p xs) (go (count_if p xs) l)
  where
    go : (n : ℕ) → n ≤ 1 → n ≡ cond (leb 1 n) 1 0
    go zero h = refl
    go (suc n) h = rw (le-leb 1 (suc n) (omega arith)) (omega arith)

-- so a cell that occurs at most once occurs where a placed operation covers that slot and row
pub count_covered : (l : Loop) (ii : ℕ) (f : Placing) (s r : ℕ) → count_of s r (cells_of l ii f) ≤ 1 → count_of s r (cells_of l ii f) ≡ cond (covered_at l ii f s r) 1 0
unfolding cells_of covered_at
count_covered l ii f s r h =
    let same : Cell → Bool = same_cell (record { slot = s; row = r }) in
    let cells : ℕ → List Cell = λ o. op_cells ii (op_at l o) (f o) in
    count_any same (flat_map cells (up_from 0 (size l))) h ∙ ap (λ (b : Bool). cond b 1 0) (any_flat_map same cells (up_from 0 (size l)))

-- in base 2 a bit is 1 exactly where a placed operation covers that slot and row
pub bit_covered : (l : Loop) (ii : ℕ) (f : Placing) (rows : List ℕ) → IsTable 2 ii (cells_of l ii f) rows → Digits 2 (cells_of l ii f)
    → (s r : ℕ) → r < ii → 1 ≤ s → s ≤ 24 → digit_of 2 (get_or rows r 0) s ≡ cond (covered_at l ii f s r) 1 0
bit_covered l ii f rows t d s r m lo hi = digit_count 2 ii s r (cells_of l ii f) rows t d m lo hi ∙ count_covered l ii f s r (omega (arith, d s r))

-- and no bit stands above those of the 24 slots
pub bits_end : (ii : ℕ) (cells : List Cell) (rows : List ℕ) → IsTable 2 ii cells rows → Digits 2 cells → (r : ℕ) → r < ii → get_or rows r 0 < 2 ^ 24
bits_end ii cells rows t d r m = rw (t.at r m) (row_lt 2 r cells (λ u. d u r))

-- ---- nothing placed

-- where nothing is placed there are no cells
pub cells_nothing : (l : Loop) (ii : ℕ) (f : Placing) → ((o : ℕ) → f o ≡ none) → cells_of l ii f ≡ []
unfolding cells_of flat_map
cells_nothing l ii f h = none_of (up_from 0 (size l))
  where
    none_of : (os : List ℕ) → flat_map (λ o. op_cells ii (op_at l o) (f o)) os ≡ []
    none_of [] = refl
    none_of (o ∷ os) = rw (h o) (none_of os)
