-- What an accepted file's loop obeys, and how the loop is read off the bytes. Assumes nothing.
use mathlib.Core.Path.{◌≡◌, refl, sym, ap, ap₂, ◌∙◌, subst}
use mathlib.Core.Bool.{true, false}
use mathlib.Core.List.{List, map, flat_map}
use mathlib.Core.Option.{none}
use Prim.Native.Nat.{ℕ, zero, suc, ◌+◌, ◌*◌, ◌%◌, ◌≤◌, ◌<◌}
use native.Mathlib.Nat.{zero-add}
use native.Mathlib.Omega.{arith}
use borrow.Author.Tests.{ltb-false, leb-false, eqb-true, not-false}
use lib.Dec.{T}
use lib.IntN.{ℤ, pos, negsuc}
use lib.ListN.{length, get_or}
use lib.Signed.{le_z, le_z_yes, ◌≤ℤ◌}
use Rattle.model.specs.Lists.{up_from, sum_of}
use Rattle.model.specs.Integers.{plus}
use Rattle.model.specs.Refusals.{first_refusal}
use Rattle.model.specs.Loop.{Op, no_use, no_op, all_uses, first_use_of, no_dep, size, op_at, dep_at, use_at, UseOk, OpOk, DepOk, LoopOk}
use Rattle.model.specs.File.{byte_at, Section, use_width, longest, oper, uses, deps, length_of, records_of, end_at, op_count, dep_count, op_record, uses_of, first_use, use_record, dep_record, use_in, op_in, dep_in, loop_of, not_up_to, not_between, length_checks, head_checks, entry_checks, contents_checks, op_checks, op_checks_at, slot_below, use_checks, use_checks_at, op_use_checks, uses_checks, dep_checks, dep_checks_at, file_checks, Accepted}
use Rattle.model.proofs.Lists.{true_false, length_tabulate, get_or_tabulate, and_left, and_right, or_false_left, or_false_right}
use Rattle.model.proofs.Rows.{row_join, flat_map_lem, flat_grows}
use Rattle.model.proofs.Sums.{total_le}
use Rattle.model.proofs.Loop.{first_next}
use Rattle.model.proofs.Checks.{passes_left, passes_right, passes_head, passes_tail, passes_each}

-- ---- the loop read off the bytes

-- the loop has the file's number of operations
pub size_is : (f : List ℕ) → size (loop_of f) ≡ op_count f
unfolding loop_of
size_is f = length_tabulate (op_in f) 0 (op_count f)

-- the loop has the file's number of dependences
pub deps_is : (f : List ℕ) → length (loop_of f).deps ≡ dep_count f
unfolding loop_of
deps_is f = length_tabulate (dep_in f) 0 (dep_count f)

-- operation o of the loop is operation o of the file
pub op_is : (f : List ℕ) (o : ℕ) → o < op_count f → op_at (loop_of f) o ≡ op_in f o
unfolding loop_of
op_is f o l = get_or_tabulate (op_in f) 0 (op_count f) o no_op l ∙ ap (op_in f) (zero-add o)

-- dependence e of the loop is dependence e of the file
pub dep_is : (f : List ℕ) (e : ℕ) → e < dep_count f → dep_at (loop_of f) e ≡ dep_in f e
unfolding loop_of
dep_is f e l = get_or_tabulate (dep_in f) 0 (dep_count f) e no_dep l ∙ ap (dep_in f) (zero-add e)

-- operation o has the number of uses that its record gives
pub uses_is : (f : List ℕ) (o : ℕ) → length (op_in f o).uses ≡ uses_of f o
uses_is f o = length_tabulate (use_in f) (first_use f o) (uses_of f o)

-- use j of operation o stands j records after the operation's first use
pub use_is : (f : List ℕ) (o j : ℕ) → j < uses_of f o → use_at (op_in f o) j ≡ use_in f (first_use f o + j)
use_is f o j l = get_or_tabulate (use_in f) (first_use f o) (uses_of f o) j no_use l

-- the uses of the loop are those of the file, one after the other
pub all_uses_is : (f : List ℕ) → all_uses (loop_of f) ≡ map (use_in f) (up_from 0 (first_use f (op_count f)))
unfolding all_uses loop_of up_from first_use
all_uses_is f =
    flat_map_lem (λ p. p.uses) (op_in f) (up_from 0 (op_count f))
    ∙ flat_grows (λ o. map (use_in f) (up_from 0 (first_use f o))) (λ o. (op_in f o).uses) 0 (op_count f)
    (λ o l m. row_join (use_in f) 0 (first_use f o) (first_use f o) (uses_of f o) (first_use f o + uses_of f o) (omega arith) refl)
    ∙ ap (λ (n : ℕ). map (use_in f) (up_from 0 (first_use f n))) (zero-add (op_count f))

-- operation o's first use among all uses is where the file counts it
pub first_use_is : (f : List ℕ) (o : ℕ) → o ≤ op_count f → first_use_of (loop_of f) o ≡ first_use f o
unfolding first_use_of first_use sum_of
first_use_is f zero h = refl
first_use_is f (suc o) h =
    first_next (loop_of f) o (rw size_is h) ∙ ap₂ ◌+◌ (first_use_is f o (omega arith)) (ap (λ (p : Op). length p.uses) (op_is f o h) ∙ uses_is f o)

-- ---- the layout

-- what an accepted file's length, contents and counts obey
pub record Layout (f : List ℕ) : Type 0 where
  pub long : 26 ≤ length f
  pub short : length f ≤ longest
  pub version : byte_at f 0 ≡ 1
  pub oper_some : 1 ≤ op_count f
  pub oper_few : op_count f ≤ 64
  pub uses_few : records_of f uses ≤ 256
  pub deps_few : dep_count f ≤ 256
  pub oper_whole : length_of f oper ≡ 2 * op_count f
  pub uses_whole : length_of f uses ≡ use_width * first_use f (op_count f)
  pub deps_whole : length_of f deps ≡ 4 * dep_count f
  pub ends : end_at f ≡ length f

-- from a table that is passed to what its checks say
pub ruleset passing = (passes_left, passes_right, passes_head, passes_tail, or_false_left, or_false_right, not-false, eqb-true, ltb-false, leb-false)

-- a number that is one of 0 .. most, and one that is of below + 1 .. most
up_to_most : (most : ℕ) (z : ℤ) → not_up_to most z ≡ false → plus z ≤ most
up_to_most most (pos n) e = ltb-false most n e
up_to_most most (negsuc n) e = true_false e

between_most : (below most : ℕ) (z : ℤ) → not_between below most z ≡ false → plus z ≤ most
between_most below most (pos n) e = search passing
between_most below most (negsuc n) e = true_false e

-- an operation that passes its checks has at most four uses, whatever the details are
pub op_few : (latency uses : ℤ) (a b : ℕ) → first_refusal (op_checks latency uses a b) ≡ none → plus uses ≤ 4
unfolding op_checks
op_few latency uses a b p = up_to_most 4 uses (search passing)

-- and a use a slot of at most 24
pub slot_few : (below : ℕ) (slot duration : ℤ) (a b : ℕ) → first_refusal (use_checks below slot duration a b) ≡ none → plus slot ≤ 24
unfolding use_checks
slot_few below slot duration a b p = between_most below 24 slot (search passing)

-- the tables of an accepted file, each passed
pub record Passed (f : List ℕ) : Type 0 where
  pub of_length : first_refusal (length_checks f) ≡ none
  pub of_head : first_refusal (head_checks f) ≡ none
  pub of_contents : first_refusal (contents_checks f) ≡ none
  pub of_ops : first_refusal (flat_map (λ o. op_checks_at f (op_record o)) (up_from 0 (op_count f))) ≡ none
  pub of_uses : first_refusal (uses_checks f) ≡ none
  pub of_deps : first_refusal (flat_map (λ e. dep_checks_at f (op_count f) (dep_record f e)) (up_from 0 (dep_count f))) ≡ none

-- an accepted file passes each table
pub passed : (f : List ℕ) → Accepted f → Passed f
unfolding file_checks
passed f a = search passing

-- the entry of a section in accepted contents: whole records, in the number that the section may have
record Entry (f : List ℕ) (s : Section) : Type 0 where
  whole : length_of f s % s.width ≡ 0
  enough : s.least ≤ records_of f s
  few : records_of f s ≤ s.most

-- a section's entry that passes its table
entry : (f : List ℕ) (s : Section) (start : ℕ) → first_refusal (entry_checks f s start) ≡ none → Entry f s
unfolding entry_checks
entry f s start e = search passing

-- what the lengths obey in contents that pass their table
pub record Shape (f : List ℕ) : Type 0 where
  pub oper_some : 1 ≤ op_count f
  pub oper_few : op_count f ≤ 64
  pub uses_few : records_of f uses ≤ 256
  pub deps_few : dep_count f ≤ 256
  pub oper_whole : length_of f oper ≡ 2 * op_count f
  pub uses_even : length_of f uses ≡ 2 * records_of f uses
  pub deps_whole : length_of f deps ≡ 4 * dep_count f
  pub ends : end_at f ≡ length f

-- contents that pass their table are so
pub shape : (f : List ℕ) → first_refusal (contents_checks f) ≡ none → Shape f
unfolding contents_checks
shape f e =
    let a : Entry f oper = search (passing, entry) in
    let b : Entry f uses = search (passing, entry) in
    let c : Entry f deps = search (passing, entry) in
    let d : end_at f ≡ length f = search passing in
    record {
      oper_some = a.enough;
      oper_few = a.few;
      uses_few = b.few;
      deps_few = c.few;
      oper_whole = omega (arith, a.whole);
      uses_even = omega (arith, b.whole);
      deps_whole = omega (arith, c.whole);
      ends = d;
    }

-- an accepted file has the layout
pub layout : (f : List ℕ) → Accepted f → Layout f
unfolding length_checks head_checks uses_checks
layout f a =
    let p : Passed f = passed f a in
    let c : Shape f = shape f p.of_contents in
    search (passing, arith)

-- the uses of an operation stand before those of the operations after it
pub first_use_le : (f : List ℕ) (o n : ℕ) → o < n → first_use f o + uses_of f o ≤ first_use f n
unfolding first_use
first_use_le f o n l = total_le (first_use f) (uses_of f) (λ k. refl) o n l

-- the record of an operation lies inside the file
pub op_inside : (f : List ℕ) (o : ℕ) → Layout f → o < op_count f → op_record o + 1 < length f
op_inside f o y l = omega arith

-- the record of a use lies inside the file
pub use_inside : (f : List ℕ) (o j : ℕ) → Layout f → o < op_count f → j < uses_of f o → use_record f (first_use f o + j) + 1 < length f
use_inside f o j y l m = omega (arith, first_use_le f o (op_count f) l)

-- the record of a dependence lies inside the file
pub dep_inside : (f : List ℕ) (e : ℕ) → Layout f → e < dep_count f → dep_record f e + 3 < length f
dep_inside f e y l = omega arith

-- ---- the ranges

-- use j of operation o: in range, and above the slot of the operation's use before
record UseIs (f : List ℕ) (o j : ℕ) : Type 0 where
  ok : UseOk (use_in f (first_use f o + j))
  above : slot_below f (use_record f (first_use f o)) j < byte_at f (use_record f (first_use f o + j))

-- every use of an accepted file is so
use_passes : (f : List ℕ) (o j : ℕ) → Passed f → o < op_count f → j < uses_of f o → UseIs f o j
unfolding uses_checks op_use_checks use_checks
use_passes f o j p l m =
    let first : ℕ = use_record f (first_use f o) in
    let at : ℕ = use_record f (first_use f o + j) in
    let all : first_refusal (flat_map (λ q. op_use_checks f (use_record f (first_use f q)) (uses_of f q)) (up_from 0 (op_count f))) ≡ none = search passing in
    let own : first_refusal (op_use_checks f first (uses_of f o)) ≡ none =
    passes_each (λ q. op_use_checks f (use_record f (first_use f q)) (uses_of f q)) 0 (op_count f) o all (omega arith) (omega arith) in
    let there : first + use_width * j ≡ at = omega arith in
    let one : first_refusal (use_checks_at f (slot_below f first j) at) ≡ none =
    rw there at (passes_each (λ k. use_checks_at f (slot_below f first k) (first + use_width * k)) 0 (uses_of f o) j own (omega arith) (omega arith)) in
    let above : slot_below f first j < byte_at f at = search passing in
    let brief : byte_at f (at + 1) ≤ 16 = search passing in
    record { ok = record { slot_low = omega arith; slot_high = search passing; long = search passing; ends = omega arith }; above = above }

-- every operation of an accepted file is in range
op_passes : (f : List ℕ) (o : ℕ) → Passed f → o < op_count f → OpOk (op_in f o)
unfolding op_checks
op_passes f o p l =
    let e : first_refusal (op_checks_at f (op_record o)) ≡ none = passes_each (λ q. op_checks_at f (op_record q)) 0 (op_count f) o p.of_ops (omega arith) (omega arith) in
    record {
      quick = search passing;
      few = rw uses_is (search passing);
      each = λ j m. let k : j < uses_of f o = rw uses_is at m in rw (use_is f o j k) (use_passes f o j p l k).ok;
      rising = λ j m. let k : suc j < uses_of f o = rw uses_is at m in let i : j < uses_of f o = omega arith in
          let there : use_record f (first_use f o) + use_width * j ≡ use_record f (first_use f o + j) = omega arith in
          rw (use_is f o j i, use_is f o (suc j) k) (rw there at (use_passes f o (suc j) p l k).above);
    }

-- a test of order that is true
pub le_z_true : (a b : ℤ) → le_z a b ≡ true → a ≤ℤ b
le_z_true a b e = le_z_yes (subst T (sym e) tt)

-- every dependence of an accepted file is in range
dep_passes : (f : List ℕ) (e : ℕ) → Passed f → e < dep_count f → DepOk (op_count f) (dep_in f e)
unfolding dep_checks
dep_passes f e p l =
    let c : first_refusal (dep_checks_at f (op_count f) (dep_record f e)) ≡ none = passes_each (λ d. dep_checks_at f (op_count f) (dep_record f d)) 0 (dep_count f) e p.of_deps (omega arith) (omega arith) in
    search (passing, and_left, and_right, le_z_true)

-- an accepted file's loop is in range
pub accepted_ok : (f : List ℕ) → Accepted f → LoopOk (loop_of f)
accepted_ok f a =
    let p : Passed f = passed f a in
    let y : Layout f = layout f a in
    record {
      some = rw size_is y.oper_some;
      few = rw size_is y.oper_few;
      op_ok = λ o l. let k : o < op_count f = rw size_is at l in rw (op_is f o k) (op_passes f o p k);
      sparse = rw deps_is y.deps_few;
      dep_ok = λ e l. let k : e < dep_count f = rw deps_is at l in rw (size_is f, dep_is f e k) (dep_passes f e p k);
    }

-- the uses of a row have no offset, nor has what stands past its end
row_at_once : (f : List ℕ) (a n j : ℕ) → (get_or (map (use_in f) (up_from a n)) j no_use).offset ≡ 0
unfolding up_from
row_at_once f a zero j = refl
row_at_once f a (suc n) zero = refl
row_at_once f a (suc n) (suc j) = row_at_once f (suc a) n j

-- nor have those of a row of operations
ops_at_once : (f : List ℕ) (a n o j : ℕ) → (use_at (get_or (map (op_in f) (up_from a n)) o no_op) j).offset ≡ 0
unfolding up_from
ops_at_once f a zero o j = refl
ops_at_once f a (suc n) zero j = row_at_once f (first_use f a) (uses_of f a) j
ops_at_once f a (suc n) (suc o) j = ops_at_once f (suc a) n o j

-- version 1 of the file has no offsets: every use of a file's loop begins with its operation
pub at_once : (f : List ℕ) (o j : ℕ) → (use_at (op_at (loop_of f) o) j).offset ≡ 0
unfolding loop_of
at_once f o j = ops_at_once f 0 (op_count f) o j
