-- Lists of numbers that pass the writer's checks: what they obey, and that they are the numbers of the loop that they describe. Assumes nothing.
use mathlib.Core.Path.{◌≡◌, refl, sym, ap, ◌∙◌}
use mathlib.Core.Bool.{Bool, true, false, not, ◌&&◌}
use mathlib.Core.List.{List, ◌++◌, map, flat_map}
use mathlib.Core.Option.{none}
use Prim.Native.Nat.{ℕ, ◌+◌, ◌-◌, ◌*◌, ◌/◌, ◌%◌, ◌≤◌, ◌<◌}
use native.Mathlib.Nat.{zero-add}
use native.Mathlib.Numerals.{add-one, add-two, add-three}
use native.Mathlib.Omega.{arith}
use borrow.Author.Tests.{leb-true}
use lib.IntN.{ℤ, pos, negsuc}
use lib.ListN.{length}
use lib.Signed.{le_z}
use Rattle.model.specs.Lists.{up_from}
use Rattle.model.specs.Integers.{plus}
use Rattle.model.specs.Refusals.{first_refusal}
use Rattle.model.specs.Loop.{size, all_uses}
use Rattle.model.specs.File.{signed_byte, Section, use_width, oper, deps, not_up_to, not_below, not_between, op_checks, use_checks, dep_checks, size_checks}
use Rattle.model.specs.Writer.{Fields, op_fields, use_fields, dep_fields, fields_of, byte_of, file_by, file_of, field_at, op_total, use_total, dep_total, uses_given, first_given, use_from, op_from, dep_from, loop_from, op_given_checks, slot_before, use_given_checks, op_uses_given_checks, uses_given_checks, dep_given_checks, given_checks}
use Rattle.model.proofs.Lists.{true_false, and_left, length_tabulate}
use Rattle.model.proofs.Rows.{row_is, flat_map_lem, flat_flat, flat_grows}
use Rattle.model.proofs.Checks.{passes_each, to_pass}
use Rattle.model.proofs.Signed.{byte_low, byte_high}
use Rattle.model.proofs.Sums.{total_le, total_few}
use Rattle.model.proofs.File.{passing, op_few}
use Rattle.model.proofs.Records.{records_more, records_list, length_records}

-- ---- one number

-- a number that is not below 0
abbrev pub Natural : ℤ → Type 0
Natural z = pos (plus z) ≡ z

-- such is a number that passes a test which no number below 0 passes
natural : (fails : ℤ → Bool) → ((n : ℕ) → fails (negsuc n) ≡ true) → (z : ℤ) → fails z ≡ false → Natural z
natural fails h (pos n) e = refl
natural fails h (negsuc n) e = true_false (sym (h n) ∙ e)

-- a delay in range comes back from its byte, as the reader reads it
delay_back : (z : ℤ) → not (le_z (negsuc 63) z && le_z z (pos 64)) ≡ false → signed_byte (byte_of z) ≡ z
delay_back (pos n) e = let h : n ≤ 64 = search (passing, leb-true) in byte_low n (omega arith)
delay_back (negsuc n) e =
    let h : n ≤ 63 = search (passing, and_left, leb-true) in
    let k : 255 - (255 - n) ≡ n = omega arith in
    byte_high (255 - n) (omega arith) ∙ ap negsuc k

-- ---- one record that passes

-- the numbers of an operation: all that the reader makes of bytes are natural
pub op_numbers : (xs : List ℤ) (o : ℕ) → first_refusal (op_given_checks xs o) ≡ none → Natural (field_at xs (2 * o)) × Natural (field_at xs (2 * o + 1))
unfolding op_checks
op_numbers xs o p = (
  natural (not_up_to 64) (λ n. refl) (field_at xs (2 * o)) (search passing),
  natural (not_up_to 4) (λ n. refl) (field_at xs (2 * o + 1)) (search passing),
)

-- of a use
pub use_numbers : (xs : List ℤ) (below u : ℕ) → first_refusal (use_given_checks xs below u) ≡ none → Natural (field_at xs (use_width * u)) × Natural (field_at xs (use_width * u + 1))
unfolding use_checks
use_numbers xs below u p = (
  natural (not_between below 24) (λ n. refl) (field_at xs (use_width * u)) (search passing),
  natural (not_between 0 16) (λ n. refl) (field_at xs (use_width * u + 1)) (search passing),
)

-- of a dependence, whose delay is read as a signed byte
pub dep_numbers : (xs : List ℤ) (n e : ℕ) → first_refusal (dep_given_checks xs n e) ≡ none
    → Natural (field_at xs (4 * e)) × Natural (field_at xs (4 * e + 1)) × (signed_byte (byte_of (field_at xs (4 * e + 2))) ≡ field_at xs (4 * e + 2)) × Natural (field_at xs (4 * e + 3))
unfolding dep_checks
dep_numbers xs n e p = (
  natural (not_below n) (λ k. refl) (field_at xs (4 * e)) (search passing),
  natural (not_below n) (λ k. refl) (field_at xs (4 * e + 1)) (search passing),
  delay_back (field_at xs (4 * e + 2)) (search passing),
  natural (not_up_to 15) (λ k. refl) (field_at xs (4 * e + 3)) (search passing),
)

-- the uses of an operation stand before those of the operations after it
pub first_le : (xs : List ℤ) (o n : ℕ) → o < n → first_given xs o + uses_given xs o ≤ first_given xs n
unfolding first_given
first_le xs o n l = total_le (first_given xs) (uses_given xs) (λ k. refl) o n l

-- a body of whole records, as many as the section may have, passes
pub size_passes : (s : Section) (n : ℕ) → n % s.width ≡ 0 → s.least ≤ n / s.width → n / s.width ≤ s.most → first_refusal (size_checks s n) ≡ none
size_passes s n a b c = search to_pass

-- ---- lists of numbers that pass

-- the number of operation o's first use among all uses
abbrev pub first : Fields → ℕ → ℕ
first d o = first_given d.ops o

-- its number of uses
abbrev pub count : Fields → ℕ → ℕ
count d o = uses_given d.ops o

-- what lists that pass obey: their lengths, and the tables that they pass, record by record
pub record Passing (d : Fields) : Type 0 where
  pub oper_size : first_refusal (size_checks oper (length d.ops)) ≡ none
  pub deps_size : first_refusal (size_checks deps (length d.deps)) ≡ none
  pub few : op_total d ≤ 64
  pub sparse : dep_total d ≤ 256
  pub ops_whole : length d.ops ≡ 2 * op_total d
  pub uses_whole : length d.uses ≡ use_width * first d (op_total d)
  pub deps_whole : length d.deps ≡ 4 * dep_total d
  pub of_op : (o : ℕ) → o < op_total d → first_refusal (op_given_checks d.ops o) ≡ none
  pub of_use : (o j : ℕ) → o < op_total d → j < count d o → first_refusal (use_given_checks d.uses (slot_before d.uses (first d o) j) (first d o + j)) ≡ none
  pub of_dep : (e : ℕ) → e < dep_total d → first_refusal (dep_given_checks d.deps (op_total d) e) ≡ none

-- they do
given_passing : (d : Fields) → first_refusal (given_checks d) ≡ none → Passing d
unfolding given_checks uses_given_checks op_uses_given_checks
given_passing d p =
    let x : first_refusal (flat_map (op_given_checks d.ops) (up_from 0 (op_total d))) ≡ none = search passing in
    let y : first_refusal (uses_given_checks d) ≡ none = search passing in
    let z : first_refusal (flat_map (dep_given_checks d.deps (op_total d)) (up_from 0 (dep_total d))) ≡ none = search passing in
    let w : first_refusal (flat_map (λ o. op_uses_given_checks d.uses (first d o) (count d o)) (up_from 0 (op_total d))) ≡ none = search passing in
    let a : length d.ops % 2 ≡ 0 = search passing in
    let b : length d.deps % 4 ≡ 0 = search passing in
    record {
      oper_size = search passing;
      deps_size = search passing;
      few = search passing;
      sparse = search passing;
      ops_whole = omega arith;
      uses_whole = search passing;
      deps_whole = omega arith;
      of_op = λ o l. passes_each (op_given_checks d.ops) 0 (op_total d) o x (omega arith) (omega arith);
      of_use = λ o j l m. passes_each (λ k. use_given_checks d.uses (slot_before d.uses (first d o) k) (first d o + k)) 0 (count d o) j
          (passes_each (λ q. op_uses_given_checks d.uses (first d q) (count d q)) 0 (op_total d) o w (omega arith) (omega arith)) (omega arith) (omega arith);
      of_dep = λ e l. passes_each (dep_given_checks d.deps (op_total d)) 0 (dep_total d) e z (omega arith) (omega arith);
    }

module _ (d : Fields) (p : first_refusal (given_checks d) ≡ none) where
  -- the facts of these lists
  pub given : Passing d
  given = given_passing d p

  -- the numbers of a use of operation o
  pub own_use : (o u : ℕ) → o < op_total d → first d o ≤ u → u < first d o + count d o → Natural (field_at d.uses (use_width * u)) × Natural (field_at d.uses (use_width * u + 1))
  own_use o u l a b =
      let e : first d o + (u - first d o) ≡ u = omega arith in
      rw e at (use_numbers d.uses _ _ (given.of_use o (u - first d o) l (omega arith)))

  -- each operation has at most four uses
  few_uses : first d (op_total d) ≤ 4 * op_total d
  unfolding first_given
  few_uses = total_few (first_given d.ops) (uses_given d.ops) (λ k. refl) 4 (op_total d) refl (λ o l. op_few _ _ _ _ (given.of_op o l))

  -- so the lists are short
  pub given_few : (length d.ops ≤ 128) × (length d.uses ≤ 512) × (length d.deps ≤ 1024)
  given_few = let s : Passing d = given in (omega arith, omega (arith, few_uses), omega arith)

  -- ---- they are the numbers of the loop that they describe

  -- the list of operations
  ops_back : flat_map op_fields (map (op_from d) (up_from 0 (op_total d))) ≡ d.ops
  unfolding up_from
  ops_back =
      flat_map_lem op_fields (op_from d) (up_from 0 (op_total d))
      ∙ records_list d.ops (pos 0) 2 (op_total d) (λ o. op_fields (op_from d o)) given.ops_whole
      (λ o l. let n = op_numbers d.ops o (given.of_op o l) in rw (length_tabulate (use_from d.uses) (first d o) (count d o), n.0, n.1, add-one (2 * o)))

  -- of uses, which the operations divide among them
  uses_back : flat_map use_fields (flat_map (λ q. q.uses) (map (op_from d) (up_from 0 (op_total d)))) ≡ d.uses
  unfolding up_from first_given
  uses_back =
      flat_flat use_fields (λ q. q.uses) (map (op_from d) (up_from 0 (op_total d)))
      ∙ flat_map_lem (λ q. flat_map use_fields q.uses) (op_from d) (up_from 0 (op_total d))
      ∙ flat_grows before (λ o. flat_map use_fields (op_from d o).uses) 0 (op_total d)
      (λ o l m. ap (λ (r : List ℤ). before o ++ r) (flat_map_lem use_fields (use_from d.uses) (up_from (first d o) (count d o)))
      ∙ records_more (field_at d.uses) use_width 0 (λ u. use_fields (use_from d.uses u)) (first d o) (count d o)
      (λ u a b. let n = own_use o u (omega arith) a b in rw (zero-add (use_width * u), n.0, n.1, add-one (use_width * u))))
      ∙ rw (zero-add (op_total d), ← given.uses_whole) (row_is d.uses (pos 0))
    where
      before : ℕ → List ℤ
      before o = map (field_at d.uses) (up_from 0 (use_width * first d o))

  -- of dependences
  deps_back : flat_map dep_fields (map (dep_from d.deps) (up_from 0 (dep_total d))) ≡ d.deps
  unfolding up_from
  deps_back =
      flat_map_lem dep_fields (dep_from d.deps) (up_from 0 (dep_total d))
      ∙ records_list d.deps (pos 0) 4 (dep_total d) (λ e. dep_fields (dep_from d.deps e)) given.deps_whole
      (λ e l. let n = dep_numbers d.deps (op_total d) e (given.of_dep e l) in rw (n.0, n.1, n.3, add-one (4 * e), add-two (4 * e), add-three (4 * e)))

  -- all three
  pub fields_back : fields_of (loop_from d) ≡ d
  unfolding fields_of loop_from all_uses
  fields_back = rw (ops_back, uses_back, deps_back)

  -- so the file of that loop is the file of their bytes: what the code writes
  pub given_file : file_of (loop_from d) ≡ file_by d
  given_file = ap file_by fields_back

  -- the loop has as many operations, uses and dependences as the lists have records
  pub given_counts : (size (loop_from d) ≡ op_total d) × (length (all_uses (loop_from d)) ≡ use_total d) × (length (loop_from d).deps ≡ dep_total d)
  unfolding fields_of loop_from
  given_counts = (
    length_tabulate (op_from d) 0 (op_total d),
    omega (arith, length_records use_fields use_width (λ u. refl) (all_uses (loop_from d)), ap (λ (e : Fields). length e.uses) fields_back),
    length_tabulate (dep_from d.deps) 0 (dep_total d),
  )
