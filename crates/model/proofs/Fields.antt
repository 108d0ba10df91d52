-- The numbers of a loop in range: they pass the writer's checks and describe the loop. Numbers that pass have bytes. Assumes nothing.
use mathlib.Core.Path.{◌≡◌, refl, sym, ap, ap₂, ◌∙◌}
use mathlib.Core.Bool.{Bool, false, not, ◌&&◌}
use mathlib.Core.List.{List, flat_map}
use mathlib.Core.Option.{none}
use Prim.Native.Nat.{ℕ, zero, suc, ◌+◌, ◌*◌, ◌≤◌, ◌<◌}
use native.Mathlib.Nat.{zero-add}
use native.Mathlib.Omega.{arith}
use borrow.Author.Tests.{le-leb}
use lib.Dec.{leb→le}
use lib.Ieee.Bits.{is_true}
use lib.IntN.{ℤ, pos, negsuc}
use lib.ListN.{length, get_or}
use lib.Signed.{le_z, ◌≤ℤ◌}
use Rattle.model.specs.Lists.{any_of, sum_of}
use Rattle.model.specs.Integers.{plus}
use Rattle.model.specs.Refusals.{first_refusal}
use Rattle.model.specs.Loop.{Use, Op, Dep, Loop, no_use, no_op, no_dep, size, op_at, dep_at, use_at, all_uses, first_use_of, UseOk, OpOk, DepOk, LoopOk}
use Rattle.model.specs.File.{use_width, oper, deps, op_checks, use_checks, dep_checks, size_checks}
use Rattle.model.specs.Writer.{Fields, op_fields, use_fields, dep_fields, fields_of, HaveBytes, AtOnce, field_at, op_total, dep_total, uses_given, first_given, use_from, op_from, dep_from, loop_from, op_given_checks, slot_before, use_given_checks, op_uses_given_checks, uses_given_checks, dep_given_checks, given_checks}
use Rattle.model.proofs.Lists.{and_left, and_right, any_each, any_flat_map, at_any}
use Rattle.model.proofs.Rows.{tabulate_is}
use Rattle.model.proofs.Checks.{to_pass, pass_cons, pass_append, pass_each, same_passes}
use Rattle.model.proofs.Loop.{use_among, use_within, first_next, first_last, all_ok}
use Rattle.model.proofs.File.{passing, le_z_true}
use Rattle.model.proofs.Records.{length_records, record_at}
use Rattle.model.proofs.Given.{size_passes, fields_back}
use Rattle.model.proofs.GivenFile.{given_ok}

-- ---- one record in range, whatever the details

-- an operation passes
op_asks : (latency count a b : ℕ) → latency ≤ 64 → count ≤ 4 → first_refusal (op_checks (pos latency) (pos count) a b) ≡ none
unfolding op_checks
op_asks latency count a b h k = search to_pass

-- a use
use_asks : (below slot duration a b : ℕ) → below < slot → slot ≤ 24 → 1 ≤ duration → duration ≤ 16 → first_refusal (use_checks below (pos slot) (pos duration) a b) ≡ none
unfolding use_checks
use_asks below slot duration a b h k m n = search to_pass

-- a dependence
dep_asks : (n src dst : ℕ) (delay : ℤ) (distance a b c e : ℕ) → src < n → dst < n → negsuc 63 ≤ℤ delay → delay ≤ℤ pos 64 → distance ≤ 15
    → first_refusal (dep_checks n (pos src) (pos dst) delay (pos distance) a b c e) ≡ none
unfolding dep_checks
dep_asks n src dst delay distance a b c e h k low high near = rw (is_true (le_z (negsuc 63) delay) low.le, is_true (le_z delay (pos 64)) high.le) (search to_pass)

module _ (l : Loop) where
  -- the numbers of the loop
  abbrev d : Fields
  d = fields_of l

  -- ---- where they stand

  -- the length of each list
  ops_long : length d.ops ≡ 2 * size l
  unfolding fields_of
  ops_long = length_records op_fields 2 (λ p. refl) l.ops

  uses_long : length d.uses ≡ use_width * length (all_uses l)
  unfolding fields_of
  uses_long = length_records use_fields use_width (λ u. refl) (all_uses l)

  deps_long : length d.deps ≡ 4 * length l.deps
  unfolding fields_of
  deps_long = length_records dep_fields 4 (λ e. refl) l.deps

  -- so there are as many records as operations and dependences
  op_total_lem : op_total d ≡ size l
  op_total_lem = omega (arith, ops_long)

  dep_total_lem : dep_total d ≡ length l.deps
  dep_total_lem = omega (arith, deps_long)

  -- the numbers of an operation
  op_values : (o : ℕ) → o < size l → (field_at d.ops (2 * o) ≡ pos (op_at l o).latency) × (field_at d.ops (2 * o + 1) ≡ pos (length (op_at l o).uses))
  unfolding fields_of
  op_values o h =
      let nth = record_at op_fields 2 (λ p. refl) l.ops in
      (nth (2 * o) o 0 no_op (pos 0) (omega arith) h (omega arith), nth (2 * o + 1) o 1 no_op (pos 0) refl h (omega arith))

  -- so the operations divide the uses among them as the loop does
  count_of : (o : ℕ) → o < size l → uses_given d.ops o ≡ length (op_at l o).uses
  count_of o h = ap plus (op_values o h).1

  first_of : (o : ℕ) → o ≤ size l → first_given d.ops o ≡ first_use_of l o
  unfolding first_given first_use_of sum_of
  first_of zero h = refl
  first_of (suc o) h = ap₂ ◌+◌ (first_of o (omega arith)) (count_of o h) ∙ sym (first_next l o h)

  -- the numbers of use j of operation o
  use_values : (o j : ℕ) → o < size l → j < length (op_at l o).uses → (field_at d.uses (use_width * (first_given d.ops o + j)) ≡ pos (use_at (op_at l o) j).slot)
      × (field_at d.uses (use_width * (first_given d.ops o + j) + 1) ≡ pos (use_at (op_at l o) j).duration)
  unfolding fields_of
  use_values o j h m =
      let u : ℕ = first_use_of l o + j in
      let k : u < length (all_uses l) = omega (arith, use_within l o h) in
      let is : get_or (all_uses l) u no_use ≡ use_at (op_at l o) j = use_among l o j h m in
      let nth = record_at use_fields use_width (λ u. refl) (all_uses l) in
      rw (first_of o (omega arith))
      (rw is at (nth (use_width * u) u 0 no_use (pos 0) (omega arith) k (omega arith)), rw is at (nth (use_width * u + 1) u 1 no_use (pos 0) refl k (omega arith)))

  -- the numbers of a dependence
  dep_values : (e : ℕ) → e < length l.deps → (field_at d.deps (4 * e) ≡ pos (dep_at l e).src) × (field_at d.deps (4 * e + 1) ≡ pos (dep_at l e).dst)
      × (field_at d.deps (4 * e + 2) ≡ (dep_at l e).delay) × (field_at d.deps (4 * e + 3) ≡ pos (dep_at l e).distance)
  unfolding fields_of
  dep_values e h =
      let nth = record_at dep_fields 4 (λ e. refl) l.deps in (
        nth (4 * e) e 0 no_dep (pos 0) (omega arith) h (omega arith),
        nth (4 * e + 1) e 1 no_dep (pos 0) refl h (omega arith),
        nth (4 * e + 2) e 2 no_dep (pos 0) refl h (omega arith),
        nth (4 * e + 3) e 3 no_dep (pos 0) refl h (omega arith),
      )

  -- ---- they pass the writer's checks, where the loop is in range

  module _ (ok : LoopOk l) where
    -- each operation
    op_pass : (o : ℕ) → o < size l → first_refusal (op_given_checks d.ops o) ≡ none
    op_pass o h =
        let v = op_values o h in
        let p : OpOk (op_at l o) = ok.op_ok o h in
        rw (v.0, v.1) (op_asks _ _ _ _ p.quick p.few)

    -- each use: the slots of an operation rise
    rises : (o j : ℕ) → o < size l → j < length (op_at l o).uses → slot_before d.uses (first_given d.ops o) j < (use_at (op_at l o) j).slot
    rises o zero h k = ((ok.op_ok o h).each 0 k).slot_low
    rises o (suc j) h k = rw (use_values o j h (omega arith)).0 ((ok.op_ok o h).rising j k)

    use_pass_lem : (o j : ℕ) → o < size l → j < length (op_at l o).uses → first_refusal (use_given_checks d.uses (slot_before d.uses (first_given d.ops o) j) (first_given d.ops o + j)) ≡ none
    use_pass_lem o j h k =
        let v = use_values o j h k in
        let p : UseOk (use_at (op_at l o) j) = (ok.op_ok o h).each j k in
        rw (v.0, v.1) (use_asks _ _ _ _ _ (rises o j h k) p.slot_high p.long (omega (arith, p.ends)))

    -- each dependence
    dep_pass : (e : ℕ) → e < length l.deps → first_refusal (dep_given_checks d.deps (size l) e) ≡ none
    dep_pass e h =
        let v = dep_values e h in
        let p : DepOk (size l) (dep_at l e) = ok.dep_ok e h in
        rw (v.0, v.1, v.2, v.3) (dep_asks _ _ _ _ _ _ _ _ _ p.source p.target p.early p.late p.near)

    -- all of them, and the lengths
    pub loop_passes : first_refusal (given_checks (fields_of l)) ≡ none
    unfolding given_checks uses_given_checks op_uses_given_checks
    loop_passes =
        let n : op_total d ≡ size l = op_total_lem in
        let m : dep_total d ≡ length l.deps = dep_total_lem in
        let c : length d.uses ≡ use_width * first_given d.ops (op_total d) = rw (n, first_of (size l) (omega arith), first_last l) uses_long in
        pass_append _ _ (pass_append _ _ (pass_append _ _ (pass_append (size_checks oper (length d.ops)) (size_checks deps (length d.deps))
        (size_passes oper (length d.ops) (omega (arith, ops_long)) (omega (arith, ok.some)) (omega (arith, ok.few)))
        (size_passes deps (length d.deps) (omega (arith, deps_long)) (omega arith) (omega (arith, ok.sparse))))
        (pass_each (op_given_checks d.ops) 0 (op_total d) (λ o q r. op_pass o (omega arith))))
        (pass_cons _ _ (same_passes _ _ c) (pass_each _ 0 (op_total d) (λ o q r. let h : o < size l = omega arith in
        pass_each _ 0 (uses_given d.ops o) (λ j s t. use_pass_lem o j h (omega (arith, count_of o h)))))))
        (pass_each _ 0 (dep_total d) (λ e q r. rw n (dep_pass e (omega arith))))

    -- ---- and describe the loop, where version 1 can hold it

    module _ (once : AtOnce l) where
      -- each use
      use_back : (o j : ℕ) → o < size l → j < length (op_at l o).uses → use_from d.uses (first_given d.ops o + j) ≡ use_at (op_at l o) j
      use_back o j h k =
          let v = use_values o j h k in
          rw (v.0, v.1) (ap {B = Use} (λ (x : ℕ). record { slot = (use_at (op_at l o) j).slot; offset = x; duration = (use_at (op_at l o) j).duration }) (sym (once o j)))

      -- each operation, with its uses
      op_back : (o : ℕ) → o < size l → op_from d o ≡ op_at l o
      op_back o h =
          ap₂ {C = Op} (λ (x : ℤ) (us : List Use). record { latency = plus x; uses = us }) (op_values o h).0
          (tabulate_is (use_from d.uses) (first_given d.ops o) (uses_given d.ops o) (op_at l o).uses no_use (count_of o h) (λ j k. use_back o j h (rw (count_of o h) at k)))

      -- each dependence
      dep_back : (e : ℕ) → e < length l.deps → dep_from d.deps e ≡ dep_at l e
      dep_back e h = let v = dep_values e h in rw (v.0, v.1, v.2, v.3)

      -- all of them
      pub loop_back : loop_from (fields_of l) ≡ l
      unfolding loop_from
      loop_back =
          ap₂ {C = Loop} (λ (ps : List Op) (es : List Dep). record { ops = ps; deps = es })
          (tabulate_is (op_from d) 0 (op_total d) l.ops no_op op_total_lem (λ o h. rw zero-add (op_back o (omega (arith, op_total_lem)))))
          (tabulate_is (dep_from d.deps) 0 (dep_total d) l.deps no_dep dep_total_lem (λ e h. rw zero-add (dep_back e (omega (arith, dep_total_lem)))))

-- ---- they have bytes

-- z has no byte of its own
abbrev far : ℤ → Bool
far z = not (le_z (negsuc 127) z && le_z z (pos 255))

-- a number from 0 to 255 has one
near : (n : ℕ) → n ≤ 255 → far (pos n) ≡ false
near n h = rw (le-leb n 255 h)

-- and a delay in range
delay_near : (z : ℤ) → negsuc 63 ≤ℤ z → z ≤ℤ pos 64 → far z ≡ false
delay_near (pos n) h k = near n (omega (arith, leb→le n 64 k.le))
delay_near (negsuc n) h k = rw (le-leb n 127 (omega (arith, leb→le n 63 h.le)))

-- a list has bytes where each of its records has none without
records_near : {A : Type 0} (g : A → List ℤ) (xs : List A) (a : A) → ((j : ℕ) → j < length xs → any_of far (g (get_or xs j a)) ≡ false) → HaveBytes (flat_map g xs)
records_near g xs a h i =
    let p : far (field_at (flat_map g xs) i) ≡ false =
    any_each far (flat_map g xs) (pos 0) (any_flat_map far g xs ∙ at_any (λ x. any_of far (g x)) xs a h) refl i in
    search (passing, and_left, and_right, le_z_true)

-- the numbers of a loop in range have bytes
loop_bytes : (l : Loop) → LoopOk l → HaveBytes (fields_of l).ops × HaveBytes (fields_of l).uses × HaveBytes (fields_of l).deps
unfolding fields_of any_of
loop_bytes l ok = (
  records_near op_fields l.ops no_op (λ o h. let p : OpOk (op_at l o) = ok.op_ok o h in
      rw (near (op_at l o).latency (omega (arith, p.quick)), near (length (op_at l o).uses) (omega (arith, p.few)))),
  records_near use_fields (all_uses l) no_use (λ u h. let p : UseOk (get_or (all_uses l) u no_use) = all_ok l ok u h in
      rw (near (get_or (all_uses l) u no_use).slot (omega (arith, p.slot_high)), near (get_or (all_uses l) u no_use).duration (omega (arith, p.ends)))),
  records_near dep_fields l.deps no_dep (λ e h. let p : DepOk (size l) (dep_at l e) = ok.dep_ok e h in
      rw (
        near (dep_at l e).src (omega (arith, p.source, ok.few)),
        near (dep_at l e).dst (omega (arith, p.target, ok.few)),
        delay_near (dep_at l e).delay p.early p.late,
        near (dep_at l e).distance (omega (arith, p.near)),
      )),
)

-- numbers that pass have bytes: what the code's casts need
pub passes_bytes : (d : Fields) → first_refusal (given_checks d) ≡ none → HaveBytes d.ops × HaveBytes d.uses × HaveBytes d.deps
passes_bytes d p = rw (fields_back d p) at (loop_bytes (loop_from d) (given_ok d p))
