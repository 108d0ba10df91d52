-- The file of the bytes of lists that pass the writer's checks: the reader accepts it and reads the loop that they describe. Assumes nothing.
use mathlib.Core.Path.{◌≡◌, refl, sym, ap, ap₂, ◌∙◌}
use mathlib.Core.Bool.{true}
use mathlib.Core.List.{List, [], ◌++◌, map, flat_map, append-nil, append_assoc}
use mathlib.Core.Option.{none}
use Prim.Native.Nat.{ℕ, zero, suc, ◌+◌, ◌*◌, ◌/◌, ◌≤◌, ◌<◌}
use native.Mathlib.Omega.{arith}
use lib.IntN.{ℤ, pos}
use lib.ListN.{length, length-append, length-map, get_or-append, get_or-map}
use lib.Seq.{get_or-append-add}
use Rattle.model.specs.Lists.{up_from}
use Rattle.model.specs.Integers.{plus}
use Rattle.model.specs.Refusals.{first_refusal}
use Rattle.model.specs.Loop.{Use, Op, Dep, Loop, LoopOk}
use Rattle.model.specs.File.{byte_at, value_at, signed_byte, Section, use_width, longest, oper, uses, deps, oper_at, uses_at, deps_at, end_at, length_of, offset_of, op_count, dep_count, op_record, uses_of, first_use, use_record, dep_record, use_in, op_in, dep_in, loop_of, op_checks, use_checks, dep_checks, length_checks, head_checks, stands_at, size_checks, entry_checks, contents_checks, op_checks_at, slot_below, use_checks_at, op_use_checks, uses_checks, dep_checks_at, file_checks, Accepted}
use Rattle.model.specs.Writer.{head_bytes, Fields, byte_of, file_by, file_of, AtOnce, field_at, op_total, dep_total, first_given, use_from, op_from, dep_from, loop_from, slot_before, given_checks}
use Rattle.model.proofs.Rows.{map_same}
use Rattle.model.proofs.Checks.{to_pass, pass_cons, pass_each, same_passes, same_tests}
use Rattle.model.proofs.File.{accepted_ok, at_once}
use Rattle.model.proofs.Given.{Natural, op_numbers, dep_numbers, first_le, size_passes, first, count, given, own_use, given_few, given_file}

-- ---- the file of the numbers' bytes

-- an entry of the contents: tag, offset and length
record EntryIs (f : List ℕ) (s : Section) (start long : ℕ) : Type 0 where
  tagged : stands_at f s.entry s.tag ≡ true
  begins : offset_of f s ≡ start
  spans : length_of f s ≡ long

-- a file whose bodies are the bytes of the three lists, by its contents and the place of each number
record MadeOf (d : Fields) (f : List ℕ) : Type 0 where
  head : first_refusal (head_checks f) ≡ none
  oper_entry : EntryIs f oper oper_at (length d.ops)
  uses_entry : EntryIs f uses (uses_at f) (length d.uses)
  deps_entry : EntryIs f deps (deps_at f) (length d.deps)
  long : length f ≡ oper_at + length d.ops + length d.uses + length d.deps
  op_at_lem : (k i : ℕ) → k ≡ oper_at + i → i < length d.ops → byte_at f k ≡ byte_of (field_at d.ops i)
  use_at_lem : (k i : ℕ) → k ≡ uses_at f + i → i < length d.uses → byte_at f k ≡ byte_of (field_at d.uses i)
  dep_at_lem : (k i : ℕ) → k ≡ deps_at f + i → i < length d.deps → byte_at f k ≡ byte_of (field_at d.deps i)

-- number i of a list, in a body between two parts of a file
body_at : (before after : List ℕ) (xs : List ℤ) (k i : ℕ) → k ≡ length before + i → i < length xs → byte_at (before ++ map byte_of xs ++ after) k ≡ byte_of (field_at xs i)
body_at before after xs k i e l =
    rw e (get_or-append (before ++ map byte_of xs) after 0 (length before + i) (rw length-append (omega (arith, length-map xs byte_of)))
    ∙ get_or-append-add before (map byte_of xs) i 0 ∙ get_or-map byte_of xs i (pos 0))

-- the file of the numbers' bytes is one
by_made : (d : Fields) → MadeOf d (file_by d)
unfolding file_by stands_at head_checks first_refusal
by_made d =
    let x : List ℕ = map byte_of d.ops in
    let y : List ℕ = map byte_of d.uses in
    let z : List ℕ = map byte_of d.deps in
    let h : List ℕ = head_bytes (length x) (length y) (length z) in
    let a : length x ≡ length d.ops = length-map d.ops byte_of in
    let b : length y ≡ length d.uses = length-map d.uses byte_of in
    let c : length z ≡ length d.deps = length-map d.deps byte_of in
    record {
      head = refl;
      oper_entry = record { tagged = refl; begins = omega arith; spans = omega arith };
      uses_entry = record { tagged = refl; begins = omega arith; spans = omega arith };
      deps_entry = record { tagged = refl; begins = omega arith; spans = omega arith };
      long = rw (length-append, length-append, length-append) (omega arith);
      op_at_lem = λ k i e l. ap (λ (f : List ℕ). byte_at f k) (append_assoc (h ++ x) y z) ∙ body_at h (y ++ z) d.ops k i e l;
      use_at_lem = λ k i e l. body_at (h ++ x) z d.uses k i (omega (arith, length-append h x)) l;
      dep_at_lem = λ k i e l. ap (λ (f : List ℕ). byte_at f k) (sym (append-nil (file_by d)))
          ∙ body_at (h ++ x ++ y) [] d.deps k i (omega (arith, length-append h x, length-append (h ++ x) y)) l;
    }

-- ---- what is asked of values

-- what is asked of an operation's values does not depend on the details: the writer gives the record's number, the reader the places of its bytes
op_anyhow : (x y : ℤ) (a b c e : ℕ) → first_refusal (op_checks x y a b) ≡ none → first_refusal (op_checks x y c e) ≡ none
unfolding op_checks
op_anyhow x y a b c e p = same_tests _ _ refl p

-- nor what is asked of a use's
use_anyhow : (below : ℕ) (x y : ℤ) (a b c e : ℕ) → first_refusal (use_checks below x y a b) ≡ none → first_refusal (use_checks below x y c e) ≡ none
unfolding use_checks
use_anyhow below x y a b c e p = same_tests _ _ refl p

-- nor of a dependence's
dep_anyhow : (n : ℕ) (x y z w : ℤ) (a b c e a' b' c' e' : ℕ) → first_refusal (dep_checks n x y z w a b c e) ≡ none → first_refusal (dep_checks n x y z w a' b' c' e') ≡ none
unfolding dep_checks
dep_anyhow n x y z w a b c e a' b' c' e' p = same_tests _ _ refl p

module _ (d : Fields) (p : first_refusal (given_checks d) ≡ none) where
  -- the file of these lists
  made : MadeOf d (file_by d)
  made = by_made d

  -- and has this length: what the code compares with the buffer's
  pub given_length : length (file_of (loop_from d)) ≡ 26 + length d.ops + length d.uses + length d.deps
  given_length = ap length (given_file d p) ∙ made.long

  -- ---- the values that the reader sees are the numbers

  -- the file
  abbrev f : List ℕ
  f = file_by d

  -- its numbers of operations and of dependences
  op_count_lem : op_count f ≡ op_total d
  op_count_lem = ap (λ (k : ℕ). k / 2) made.oper_entry.spans

  dep_count_lem : dep_count f ≡ dep_total d
  dep_count_lem = ap (λ (k : ℕ). k / 4) made.deps_entry.spans

  -- at the byte of a natural number
  value_is : (k : ℕ) (z : ℤ) → byte_at f k ≡ byte_of z → Natural z → value_at f k ≡ z
  value_is k z e n = ap pos (e ∙ ap byte_of (sym n)) ∙ n

  -- in the record of an operation
  op_values : (o : ℕ) → o < op_total d → (value_at f (op_record o) ≡ field_at d.ops (2 * o)) × (value_at f (op_record o + 1) ≡ field_at d.ops (2 * o + 1))
  op_values o l =
      let n = op_numbers d.ops o ((given d p).of_op o l) in
      let s : length d.ops ≡ 2 * op_total d = (given d p).ops_whole in
      (value_is (op_record o) _ (made.op_at_lem _ (2 * o) refl (omega arith)) n.0, value_is (op_record o + 1) _ (made.op_at_lem _ (2 * o + 1) (omega arith) (omega arith)) n.1)

  -- so an operation has as many uses, and its first is the same one of all
  count_is : (o : ℕ) → o < op_total d → uses_of f o ≡ count d o
  count_is o l = ap plus (op_values o l).1

  first_is : (o : ℕ) → o ≤ op_total d → first_use f o ≡ first d o
  unfolding first_use first_given
  first_is zero l = refl
  first_is (suc o) l = ap₂ ◌+◌ (first_is o (omega arith)) (count_is o l)

  -- in the record of a use
  use_values : (o u : ℕ) → o < op_total d → first d o ≤ u → u < first d o + count d o
      → (value_at f (use_record f u) ≡ field_at d.uses (use_width * u)) × (value_at f (use_record f u + 1) ≡ field_at d.uses (use_width * u + 1))
  use_values o u l a b =
      let n = own_use d p o u l a b in
      let i : use_width * u + 1 < length d.uses =
      omega (arith, first_le d.ops o (op_total d) l, (given d p).uses_whole) in
      (value_is (use_record f u) _ (made.use_at_lem _ (use_width * u) refl (omega arith)) n.0, value_is (use_record f u + 1) _ (made.use_at_lem _ (use_width * u + 1) (omega arith) i) n.1)

  -- in the record of a dependence
  dep_values : (e : ℕ) → e < dep_total d → (value_at f (dep_record f e) ≡ field_at d.deps (4 * e)) × (value_at f (dep_record f e + 1) ≡ field_at d.deps (4 * e + 1))
      × (signed_byte (byte_at f (dep_record f e + 2)) ≡ field_at d.deps (4 * e + 2)) × (value_at f (dep_record f e + 3) ≡ field_at d.deps (4 * e + 3))
  dep_values e l =
      let n = dep_numbers d.deps (op_total d) e ((given d p).of_dep e l) in
      let s : length d.deps ≡ 4 * dep_total d = (given d p).deps_whole in (
        value_is (dep_record f e) _ (made.dep_at_lem _ (4 * e) refl (omega arith)) n.0,
        value_is (dep_record f e + 1) _ (made.dep_at_lem _ (4 * e + 1) (omega arith) (omega arith)) n.1,
        ap signed_byte (made.dep_at_lem _ (4 * e + 2) (omega arith) (omega arith)) ∙ n.2,
        value_is (dep_record f e + 3) _ (made.dep_at_lem _ (4 * e + 3) (omega arith) (omega arith)) n.3,
      )

  -- ---- so the reader reads the loop that they describe

  -- each operation, with its uses
  op_same : (o : ℕ) → o < op_total d → op_in f o ≡ op_from d o
  op_same o l =
      ap₂ {C = Op} (λ (x : ℤ) (us : List Use). record { latency = plus x; uses = us }) (op_values o l).0
      (ap₂ (λ (a b : ℕ). map (use_in f) (up_from a b)) (first_is o (omega arith)) (count_is o l)
      ∙ map_same (use_in f) (use_from d.uses) (first d o) (count d o)
      (λ u a b. let v = use_values o u l a b in ap₂ {C = Use} (λ (x y : ℤ). record { slot = plus x; offset = 0; duration = plus y }) v.0 v.1))

  -- each dependence
  dep_same : (e : ℕ) → e < dep_total d → dep_in f e ≡ dep_from d.deps e
  dep_same e l = let v = dep_values e l in rw (ap plus v.0, ap plus v.1, v.2, ap plus v.3)

  -- all of them
  pub by_loop : loop_of (file_by d) ≡ loop_from d
  unfolding loop_of loop_from
  by_loop =
      rw (op_count_lem, dep_count_lem)
      (ap₂ {C = Loop} (λ (ps : List Op) (es : List Dep). record { ops = ps; deps = es })
      (map_same (op_in f) (op_from d) 0 (op_total d) (λ o a b. op_same o (omega arith)))
      (map_same (dep_in f) (dep_from d.deps) 0 (dep_total d) (λ e a b. dep_same e (omega arith))))

  -- ---- and accepts the file: of each record it asks what the writer asked

  -- an entry whose length passes
  entry_passes : (s : Section) (start long : ℕ) → EntryIs f s start long → first_refusal (size_checks s long) ≡ none → first_refusal (entry_checks f s start) ≡ none
  unfolding entry_checks
  entry_passes s start long e q = pass_cons _ _ (rw e.tagged) (pass_cons _ _ (same_passes _ _ e.begins) (rw e.spans q))

  -- the contents
  contents_pass : first_refusal (contents_checks f) ≡ none
  unfolding contents_checks
  contents_pass =
      let x : first_refusal (entry_checks f oper oper_at) ≡ none = entry_passes oper oper_at (length d.ops) made.oper_entry (given d p).oper_size in
      let y : first_refusal (entry_checks f uses (uses_at f)) ≡ none =
      entry_passes uses (uses_at f) (length d.uses) made.uses_entry (size_passes uses (length d.uses) (omega (arith, (given d p).uses_whole)) (omega arith) (omega (arith, (given_few d p).1))) in
      let z : first_refusal (entry_checks f deps (deps_at f)) ≡ none = entry_passes deps (deps_at f) (length d.deps) made.deps_entry (given d p).deps_size in
      let e : end_at f ≡ length f = omega (arith, made.oper_entry.spans, made.uses_entry.spans, made.deps_entry.spans, made.long) in
      search to_pass

  -- an operation
  op_read : (o : ℕ) → o < op_total d → first_refusal (op_checks_at f (op_record o)) ≡ none
  op_read o l = let v = op_values o l in rw (v.0, v.1) (op_anyhow _ _ _ _ _ _ ((given d p).of_op o l))

  -- use j of an operation, with a slot above that of the use before
  use_read : (o j : ℕ) → o < op_total d → j < count d o → first_refusal (use_checks_at f (slot_below f (use_record f (first d o)) j) (use_record f (first d o) + use_width * j)) ≡ none
  use_read o j l m = let v = value j m in rw (below j m, v.0, v.1) (use_anyhow _ _ _ _ _ _ _ ((given d p).of_use o j l m))
    where
      value : (j : ℕ) → j < count d o → (value_at f (use_record f (first d o) + use_width * j) ≡ field_at d.uses (use_width * (first d o + j)))
          × (value_at f (use_record f (first d o) + use_width * j + 1) ≡ field_at d.uses (use_width * (first d o + j) + 1))
      value j m =
          let there : use_record f (first d o) + use_width * j ≡ use_record f (first d o + j) = omega arith in
          rw there (use_values o (first d o + j) l (omega arith) (omega arith))

      below : (j : ℕ) → j < count d o → slot_below f (use_record f (first d o)) j ≡ slot_before d.uses (first d o) j
      below zero m = refl
      below (suc j) m = ap plus (value j (omega arith)).0

  -- the uses of all operations
  uses_pass : first_refusal (uses_checks f) ≡ none
  unfolding uses_checks op_use_checks
  uses_pass =
      let e : length_of f uses ≡ use_width * first_use f (op_count f) = rw (op_count_lem, first_is (op_total d) (omega arith)) (made.uses_entry.spans ∙ (given d p).uses_whole) in
      pass_cons _ _ (same_passes _ _ e)
      (rw op_count_lem (pass_each _ 0 (op_total d) (λ o a b. let l : o < op_total d = omega arith in
      rw (first_is o (omega arith), count_is o l) (pass_each _ 0 (count d o) (λ j x y. use_read o j l (omega arith))))))

  -- a dependence
  dep_read : (e : ℕ) → e < dep_total d → first_refusal (dep_checks_at f (op_total d) (dep_record f e)) ≡ none
  dep_read e l = let v = dep_values e l in rw (v.0, v.1, v.2, v.3) (dep_anyhow _ _ _ _ _ _ _ _ _ _ _ _ _ ((given d p).of_dep e l))

  -- the whole file
  pub by_accepted : Accepted (file_by d)
  unfolding file_checks length_checks
  by_accepted =
      let n = given_few d p in
      let a : 26 ≤ length f = omega (arith, made.long) in
      let b : length f ≤ longest = omega (arith, made.long) in
      let x : first_refusal (flat_map (λ o. op_checks_at f (op_record o)) (up_from 0 (op_count f))) ≡ none = rw op_count_lem (pass_each _ 0 (op_total d) (λ o q r. op_read o (omega arith))) in
      let z : first_refusal (flat_map (λ e. dep_checks_at f (op_count f) (dep_record f e)) (up_from 0 (dep_count f))) ≡ none =
      rw (op_count_lem, dep_count_lem) (pass_each _ 0 (dep_total d) (λ e q r. dep_read e (omega arith))) in
      search (to_pass, contents_pass, uses_pass, made.head)

  -- ---- so the loop is in range, and version 1 can hold it

  -- for an accepted file's loop is
  pub given_ok : LoopOk (loop_from d)
  given_ok = rw by_loop at (accepted_ok (file_by d) by_accepted)

  -- for the reader knows no offsets
  pub given_once : AtOnce (loop_from d)
  given_once = rw by_loop at (at_once (file_by d))
