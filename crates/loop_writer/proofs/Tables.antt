-- How the tables of the lists join to the table of all, part by part. Assumes nothing.
use mathlib.Core.Path.{◌≡◌, sym, ap, ◌∙◌}
use mathlib.Core.Bool.{false, ◌||◌}
use mathlib.Core.List.{List, ◌++◌, flat_map, append_assoc}
use mathlib.Core.Option.{none, some}
use Prim.Native.Nat.{ℕ, ◌*◌, ◌/◌, ◌≤◌}
use borrow.Author.Tests.{eq-eqb, ne_eqb, ltb-false}
use lib.Dec.{ltb}
use lib.ListN.{length}
use Rattle.std.specs.Prelude.{Result, Ok}
use Rattle.model.specs.Lists.{up_from}
use Rattle.model.specs.Refusals.{Check, first_refusal}
use Rattle.model.specs.File.{Section, use_width, oper, deps, size_checks}
use Rattle.model.specs.Writer.{Fields, op_total, use_total, dep_total, uses_given, first_given, op_given_checks, op_uses_given_checks, uses_given_checks, dep_given_checks, given_checks}
use Rattle.model.proofs.Lists.{or_false_left, or_false_right}
use Rattle.model.proofs.Checks.{passes_head, passes_tail}
use Rattle.refusals.specs.Told.{refusal, refusal_of}
use Rattle.refusals.specs.declared.Refusal.{Refusal}
use Rattle.refusals.proofs.Tables.{fine_passes, rest_decides}

-- a list that passes the check of its length has as many records as its section may have
size_range : (s : Section) (n : ℕ) → first_refusal (size_checks s n) ≡ none → (s.least ≤ n / s.width) × (n / s.width ≤ s.most)
size_range s n e =
    let k : ℕ = n / s.width in
    let f : (ltb k s.least || ltb s.most k) ≡ false = passes_head _ _ (passes_tail _ _ e) in
    (ltb-false k s.least (or_false_left (ltb k s.least) (ltb s.most k) f), ltb-false s.most k (or_false_right (ltb k s.least) (ltb s.most k) f))

module _ (d : Fields) where
  -- the tables of the two lengths, of the operations, of the uses, and of the dependences
  abbrev pub op_size : List Check
  op_size = size_checks oper (length d.ops)

  abbrev pub dep_size : List Check
  dep_size = size_checks deps (length d.deps)

  abbrev pub ops_table : List Check
  ops_table = flat_map (op_given_checks d.ops) (up_from 0 (op_total d))

  abbrev pub uses_table : List Check
  uses_table = flat_map (λ o. op_uses_given_checks d.uses (first_given d.ops o) (uses_given d.ops o)) (up_from 0 (op_total d))

  abbrev pub deps_table : List Check
  deps_table = flat_map (dep_given_checks d.deps (op_total d)) (up_from 0 (dep_total d))

  -- what is left of the table after the operations, after the number of dependences, and after the number of operations
  abbrev pub after_ops : List Check
  after_ops = uses_given_checks d ++ deps_table

  abbrev pub after_sizes : List Check
  after_sizes = ops_table ++ after_ops

  abbrev pub after_op_size : List Check
  after_op_size = dep_size ++ after_sizes

  -- the whole
  pub whole : first_refusal (op_size ++ after_op_size) ≡ first_refusal (given_checks d)
  unfolding given_checks
  whole =
      ap
      first_refusal
      (sym (append_assoc (op_size ++ dep_size ++ ops_table) (uses_given_checks d) deps_table ∙ append_assoc (op_size ++ dep_size) ops_table after_ops ∙ append_assoc op_size dep_size after_sizes))

  -- another number of uses than the operations say
  pub number_refused : (length d.uses ≡ use_width * first_given d.ops (op_total d) → ⊥) → some (refusal 5 (use_total d)) ≡ first_refusal after_ops
  unfolding uses_given_checks first_refusal
  number_refused n = rw (ne_eqb (length d.uses) (use_width * first_given d.ops (op_total d)) n)

  -- that number: the uses decide
  pub number_right : length d.uses ≡ use_width * first_given d.ops (op_total d) → first_refusal uses_table ≡ first_refusal (uses_given_checks d)
  unfolding uses_given_checks first_refusal
  number_right e = rw (eq-eqb (length d.uses) (use_width * first_given d.ops (op_total d)) e)

  -- where the number of operations is right, there are 1 to 64, and the rest of the table decides
  module _ {A : Type 0} {c : Result A Refusal} {a : A} (sized : refusal_of c ≡ first_refusal op_size) (fine : c ≡ Ok a) where
    pub few : (1 ≤ op_total d) × (op_total d ≤ 64)
    few = size_range oper (length d.ops) (fine_passes op_size fine sized)

    pub from_op_size : first_refusal after_op_size ≡ first_refusal (given_checks d)
    from_op_size = sym (rest_decides op_size after_op_size sized fine) ∙ whole

    -- where that of the dependences is
    module _ {e : Result A Refusal} (paired : refusal_of e ≡ first_refusal dep_size) (even : e ≡ Ok a) where
      pub from_sizes : first_refusal after_sizes ≡ first_refusal (given_checks d)
      from_sizes = sym (rest_decides dep_size after_sizes paired even) ∙ from_op_size

      -- and the operations are
      pub from_ops : {o : Result A Refusal} → refusal_of o ≡ first_refusal ops_table → o ≡ Ok a → first_refusal after_ops ≡ first_refusal (given_checks d)
      from_ops listed right = sym (rest_decides ops_table after_ops listed right) ∙ from_sizes
