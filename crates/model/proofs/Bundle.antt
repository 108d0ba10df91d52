-- The table of a bundle's checks, entry by entry, and what a passed table says of each file. Assumes nothing.
use mathlib.Core.Path.{◌≡◌, refl, sym, ap, ◌∙◌}
use mathlib.Core.Bool.{true, false, not}
use mathlib.Core.List.{List, [], ◌∷◌, ◌++◌, map}
use mathlib.Core.Option.{Option, none, some}
use Prim.Native.Nat.{ℕ, zero, suc, ◌+◌, ◌-◌, ◌*◌, ◌≤◌, ◌<◌}
use native.Mathlib.Omega.{arith}
use native.Mathlib.Numerals.{add-one}
use lib.Dec.{eqb}
use lib.ListN.{length, get_or, take, drop, get_or-eq_default}
use borrow.Author.Tests.{lt-ltb, le-ltb, eq-eqb, ne_eqb, eqb-true, ltb-false, not-false}
use Rattle.model.specs.Lists.{up_from}
use Rattle.model.specs.Refusals.{Refusal, Check, outside, first_refusal, Answer, answered, refused, settled}
use Rattle.model.proofs.Lists.{length_tabulate, get_or_tabulate}
use Rattle.model.proofs.Checks.{refusal_append, refusal_early, row_refused, passes_head, passes_tail, passes_left, passes_each, at_most}
use Rattle.model.specs.Bundle.{file_count, entry_at, offset_at, length_at, begin_at, place_checks, places_checks, bundle_checks, file_in, read_bundle, files_if, files, file_at, count_in}

-- a refusal of a bundle
abbrev pub refusal : ℕ → Refusal
refusal detail = record { number = 21; detail = detail }

-- where the first file begins, and the one after file i
pub begin_first : (b : List ℕ) → begin_at b 0 ≡ 1 + 4 * file_count b
unfolding begin_at
begin_first b = refl

pub begin_next : (b : List ℕ) (i : ℕ) → begin_at b (i + 1) ≡ begin_at b i + length_at b i
unfolding begin_at
begin_next b i = rw (add-one i)

-- ---- entry i

module _ (b : List ℕ) (i : ℕ) where
  pub cut_off : length b < entry_at i + 4 → first_refusal (place_checks b i) ≡ some (refusal (i + 1))
  unfolding place_checks first_refusal
  cut_off h = rw (lt-ltb _ _ h)

  pub elsewhere : entry_at i + 4 ≤ length b → (offset_at b i ≡ begin_at b i → ⊥) → first_refusal (place_checks b i) ≡ some (refusal (i + 1))
  unfolding place_checks first_refusal
  elsewhere h n = rw (le-ltb _ _ h, ne_eqb _ _ n)

  pub past : entry_at i + 4 ≤ length b → offset_at b i ≡ begin_at b i → length b < begin_at b i + length_at b i → first_refusal (place_checks b i) ≡ some (refusal (i + 1))
  unfolding place_checks first_refusal
  past h e l = rw (le-ltb _ _ h, eq-eqb _ _ e, lt-ltb _ _ l)

  pub passed : entry_at i + 4 ≤ length b → offset_at b i ≡ begin_at b i → begin_at b i + length_at b i ≤ length b → first_refusal (place_checks b i) ≡ none
  unfolding place_checks first_refusal
  passed h e l = rw (le-ltb _ _ h, eq-eqb _ _ e, le-ltb _ _ l)

-- an entry that is passed
pub record Entry (b : List ℕ) (i : ℕ) : Type 0 where
  pub whole : entry_at i + 4 ≤ length b
  pub placed : offset_at b i ≡ begin_at b i
  pub inside : begin_at b i + length_at b i ≤ length b

entry_ok : (b : List ℕ) (i : ℕ) → first_refusal (place_checks b i) ≡ none → Entry b i
unfolding place_checks
entry_ok b i e = record {
  whole = ltb-false _ _ (passes_head _ _ e);
  placed = eqb-true _ _ (not-false _ (passes_head _ _ (passes_tail _ _ e)));
  inside = ltb-false _ _ (passes_head _ _ (passes_tail _ _ (passes_tail _ _ e)));
}

-- ---- the whole table

module _ (b : List ℕ) where
  abbrev last_check : List Check
  last_check = record { fails = not (eqb (begin_at b (file_count b)) (length b)); gives = refusal (file_count b) } ∷ []

  past_count : outside 32 (file_count b) ≡ false → first_refusal (bundle_checks b) ≡ first_refusal (places_checks b (file_count b) ++ last_check)
  unfolding bundle_checks first_refusal
  past_count e = rw e

  settled_some : {r : Refusal} → first_refusal (bundle_checks b) ≡ some r → refused r ≡ count_in (read_bundle b)
  unfolding read_bundle
  settled_some e = sym (ap (λ (o : Option Refusal). count_in (settled o (map (file_in b) (up_from 0 (file_count b))))) e)

  pub wrong_count : outside 32 (file_count b) ≡ true → refused (refusal 0) ≡ count_in (read_bundle b)
  unfolding bundle_checks first_refusal
  wrong_count e = settled_some (rw e)

  pub missing_count : length b < 1 → refused (refusal 0) ≡ count_in (read_bundle b)
  missing_count h = wrong_count (rw (get_or-eq_default b 0 {n = 0} (omega arith)))

  pub wrong_entry : outside 32 (file_count b) ≡ false → (i : ℕ) → i < file_count b → first_refusal (places_checks b i) ≡ none → first_refusal (place_checks b i) ≡ some (refusal (i + 1))
      → refused (refusal (i + 1)) ≡ count_in (read_bundle b)
  wrong_entry o i l p q = settled_some (past_count o ∙ refusal_early (places_checks b (file_count b)) last_check _ (row_refused (place_checks b) i (file_count b) _ l p q))

  pub wrong_end : outside 32 (file_count b) ≡ false → first_refusal (places_checks b (file_count b)) ≡ none → (begin_at b (file_count b) ≡ length b → ⊥)
      → refused (refusal (file_count b)) ≡ count_in (read_bundle b)
  unfolding first_refusal
  wrong_end o p n = settled_some (past_count o ∙ refusal_append (places_checks b (file_count b)) last_check p ∙ rw (ne_eqb _ _ n))

  pub all_right : outside 32 (file_count b) ≡ false → first_refusal (places_checks b (file_count b)) ≡ none → begin_at b (file_count b) ≡ length b
      → answered (file_count b) ≡ count_in (read_bundle b)
  unfolding first_refusal read_bundle
  all_right o p e =
      let none_met : first_refusal (bundle_checks b) ≡ none = past_count o ∙ refusal_append (places_checks b (file_count b)) last_check p ∙ rw (eq-eqb _ _ e) in
      sym (ap (λ (o : Option Refusal). count_in (settled o (map (file_in b) (up_from 0 (file_count b))))) none_met ∙ ap answered (length_tabulate (file_in b) 0 (file_count b)))

-- ---- from the answer to the files

-- the number that an answer gives
abbrev pub size_of : Answer ℕ → ℕ
size_of (answered n) = n
size_of (refused r) = 0

pub size_files : (b : List ℕ) → size_of (count_in (read_bundle b)) ≡ length (files b)
unfolding files
size_files b = pick (read_bundle b)
  where
    pick : (a : Answer (List (List ℕ))) → size_of (count_in a) ≡ length (files_if a)
    pick (answered fs) = refl
    pick (refused r) = refl

-- where the reading gives a refusal, it is that of the table
pub read_refused : (b : List ℕ) (r : Refusal) → count_in (read_bundle b) ≡ refused r → first_refusal (bundle_checks b) ≡ some r
unfolding read_bundle
read_refused b r e = pick (first_refusal (bundle_checks b)) e
  where
    pick : (o : Option Refusal) → count_in (settled o (map (file_in b) (up_from 0 (file_count b)))) ≡ refused r → o ≡ some r
    pick none e = let z : ◌≡◌ {A = ℕ} 0 1 = cc in absurd (omega arith)
    pick (some x) e = cc

-- where it gives a number, nothing is refused, and there are so many files
pub read_accepted : (b : List ℕ) (n : ℕ) → count_in (read_bundle b) ≡ answered n → (first_refusal (bundle_checks b) ≡ none) × (n ≡ length (files b))
unfolding read_bundle files
read_accepted b n e = pick (first_refusal (bundle_checks b)) e
  where
    pick : (o : Option Refusal) → count_in (settled o (map (file_in b) (up_from 0 (file_count b)))) ≡ answered n → (o ≡ none) × (n ≡ length (files_if (settled o (map (file_in b) (up_from 0 (file_count b))))))
    pick none e = (refl, cc)
    pick (some x) e = let z : ◌≡◌ {A = ℕ} 0 1 = cc in absurd (omega arith)

-- a bundle that has a file passes its table, and its files are those of its entries
pub record Good (b : List ℕ) : Type 0 where
  pub accepted : first_refusal (bundle_checks b) ≡ none
  pub files_are : files b ≡ map (file_in b) (up_from 0 (file_count b))

pub some_files : (b : List ℕ) (i : ℕ) → i < length (files b) → Good b
unfolding files read_bundle
some_files b i l = pick (first_refusal (bundle_checks b)) refl l
  where
    pick : (o : Option Refusal) → first_refusal (bundle_checks b) ≡ o → i < length (files_if (settled o (map (file_in b) (up_from 0 (file_count b))))) → Good b
    pick none e l = record { accepted = e; files_are = ap (λ (o : Option Refusal). files_if (settled o (map (file_in b) (up_from 0 (file_count b))))) e }
    pick (some r) e l = absurd (omega arith)

module _ (b : List ℕ) (g : Good b) where
  pub length_files : length (files b) ≡ file_count b
  length_files = ap length g.files_are ∙ length_tabulate (file_in b) 0 (file_count b)

  pub in_count : outside 32 (file_count b) ≡ false
  unfolding bundle_checks
  in_count = passes_head _ _ g.accepted

  pub entry_of : (i : ℕ) → i < file_count b → Entry b i
  unfolding bundle_checks
  entry_of i l = entry_ok b i (passes_each (place_checks b) 0 (file_count b) i (passes_left _ (last_check b) (passes_tail _ _ g.accepted)) (omega arith) (omega arith))

  pub file_of_lem : (i : ℕ) → i < file_count b → file_at b i ≡ file_in b i
  file_of_lem i l = ap (λ (fs : List (List ℕ)). get_or fs i []) g.files_are ∙ get_or_tabulate (file_in b) 0 (file_count b) i [] l ∙ ap (file_in b) (omega arith)

-- no bundle has more than 32 files
pub few_files : (b : List ℕ) → length (files b) < 33
few_files b = pick (length (files b)) refl
  where
    pick : (n : ℕ) → length (files b) ≡ n → length (files b) < 33
    pick zero e = omega arith
    pick (suc n) e = let g = some_files b n (omega arith) in omega (arith, length_files b g, at_most 32 (file_count b) (in_count b g))

-- the entry of a file that there is
pub entry_at_lem : (b : List ℕ) (i : ℕ) → i < length (files b) → Entry b i
entry_at_lem b i l = let g = some_files b i l in entry_of b g i (omega (arith, length_files b g))

-- a file as the code takes it: from where its entry says, to where the entry's length ends
pub part_is : (b : List ℕ) (i start end : ℕ) → i < length (files b) → start ≡ offset_at b i → end ≡ start + length_at b i → take (end - start) (drop start b) ≡ file_at b i
unfolding file_in
part_is b i start end l s e =
    let g = some_files b i l in
    let m : i < file_count b = omega (arith, length_files b g) in
    let p : start ≡ begin_at b i = s ∙ (entry_of b g i m).placed in
    let q : end - start ≡ length_at b i = omega arith in
    ap (λ (n : ℕ). take n (drop start b)) q ∙ ap (λ (n : ℕ). take (length_at b i) (drop n b)) p ∙ sym (file_of_lem b g i m)

-- past the last file there is the empty one
pub no_part : (b : List ℕ) (i : ℕ) → length (files b) ≤ i → file_at b i ≡ []
no_part b i l = get_or-eq_default (files b) [] {n = i} l
