-- Lists of records of one width: a row of values as its records, the length, and where a record stands. Assumes nothing.
use mathlib.Core.Path.{◌≡◌, refl, sym, ap, ap₂, ◌∙◌}
use mathlib.Core.List.{List, [], ◌∷◌, ◌++◌, map, flat_map}
use Prim.Native.Nat.{ℕ, zero, suc, ◌+◌, ◌*◌, ◌≤◌, ◌<◌}
use native.Mathlib.Nat.{zero-add, mul-zero, mul-suc, not-suc-le-zero, le_of_suc-le-suc}
use native.Mathlib.Omega.{arith}
use lib.ListN.{length, get_or, length-append, get_or-append}
use lib.Seq.{get_or-append-add}
use Rattle.model.specs.Lists.{up_from}
use Rattle.model.proofs.Rows.{row_join, row_is, flat_grows}

-- ---- a row of values, from value a on, as records of w values: g j is record j

module _ {B : Type 0} (b : ℕ → B) (w a : ℕ) (g : ℕ → List B) where
  -- u records and n more: records that follow others, as the uses of an operation do, need not begin a row
  pub records_more : (u n : ℕ) → ((j : ℕ) → u ≤ j → j < u + n → g j ≡ map b (up_from (a + w * j) w))
      → map b (up_from a (w * u)) ++ flat_map g (up_from u n) ≡ map b (up_from a (w * (u + n)))
  records_more u n h =
      flat_grows (λ j. map b (up_from a (w * j))) g u n
      (λ j l m. ap (λ (r : List B). map b (up_from a (w * j)) ++ r) (h j l m) ∙ row_join b a (w * j) (a + w * j) w (w * suc j) refl (mul-suc w j))

  -- n records from the beginning: what is said record by record is said value by value
  pub records_are : (n : ℕ) → ((j : ℕ) → j < n → g j ≡ map b (up_from (a + w * j) w)) → flat_map g (up_from 0 n) ≡ map b (up_from a (w * n))
  unfolding up_from
  records_are n h = rw (mul-zero w, zero-add n) at (records_more 0 n (λ j l m. h j (omega arith)))

-- a list of w * n elements is its n records
pub records_list : {B : Type 0} (xs : List B) (d : B) (w n : ℕ) (g : ℕ → List B) → length xs ≡ w * n → ((j : ℕ) → j < n → g j ≡ map (λ i. get_or xs i d) (up_from (w * j) w))
    → flat_map g (up_from 0 n) ≡ xs
records_list xs d w n g e h = records_are (λ i. get_or xs i d) w 0 g n (λ j l. rw zero-add (h j l)) ∙ rw (← e) (row_is xs d)

-- ---- records of w elements, one after the other

module _ {A B : Type 0} (g : A → List B) (w : ℕ) (wide : (x : A) → length (g x) ≡ w) where
  -- their number of elements
  pub length_records : (xs : List A) → length (flat_map g xs) ≡ w * length xs
  unfolding flat_map
  length_records [] = sym (mul-zero w)
  length_records (x ∷ xs) = length-append (g x) (flat_map g xs) ∙ ap₂ ◌+◌ (wide x) (length_records xs) ∙ rw (mul-suc w (length xs)) (omega arith)

  -- place k is element i of record j
  pub record_at : (xs : List A) (k j i : ℕ) (a : A) (d : B) → k ≡ w * j + i → j < length xs → i < w → get_or (flat_map g xs) k d ≡ get_or (g (get_or xs j a)) i d
  unfolding flat_map
  record_at [] k j i a d e l m = absurd (not-suc-le-zero l)
  record_at (x ∷ xs) k zero i a d e l m =
      let h : k ≡ i = e ∙ rw (mul-zero w) (zero-add i) in
      rw h (get_or-append (g x) (flat_map g xs) d i (rw (wide x) m))
  record_at (x ∷ xs) k (suc j) i a d e l m =
      let h : k ≡ length (g x) + (w * j + i) = e ∙ rw (wide x, mul-suc w j) (omega arith) in
      rw h (get_or-append-add (g x) (flat_map g xs) (w * j + i) d ∙ record_at xs (w * j + i) j i a d refl (le_of_suc-le-suc l) m)
