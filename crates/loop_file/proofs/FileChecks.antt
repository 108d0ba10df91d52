-- How the tables of the file's parts join to the table of the whole file. Assumes nothing.
use mathlib.Core.Path.{◌≡◌, ap}
use mathlib.Core.List.{List, ◌++◌, append_assoc}
use mathlib.Core.Option.{none, some}
use Prim.Native.Nat.{ℕ, ◌*◌, ◌≤◌}
use borrow.Author.Tests.{eq-eqb, ne_eqb, ltb-false}
use lib.ListN.{length}
use Rattle.model.proofs.Lists.{or_false_left}
use Rattle.model.proofs.Checks.{passes_left, passes_head}
use Rattle.refusals.proofs.Tables.{fine_passes}
use Rattle.model.specs.Refusals.{Check, first_refusal}
use Rattle.model.specs.File.{uses, length_of, uses_at, deps_at, op_count, dep_count, first_use, length_checks, head_checks, contents_checks, uses_checks, file_checks}
use Rattle.refusals.specs.Told.{refusal}
use Rattle.loop_file.specs.Read.{ops_table, uses_table, deps_table, body_checks}

-- ---- the uses: their number, then each

-- USES has another number of uses than the operations say
pub sum_refused : (f : List ℕ) → (length_of f uses ≡ 2 * first_use f (op_count f) → ⊥) → first_refusal (uses_checks f) ≡ some (refusal 5 (uses_at f))
unfolding uses_checks first_refusal
sum_refused f n = rw (ne_eqb (length_of f uses) (2 * first_use f (op_count f)) n)

-- it has that number: what is left is the table of the uses
pub sum_right : (f : List ℕ) → length_of f uses ≡ 2 * first_use f (op_count f) → first_refusal (uses_checks f) ≡ first_refusal (uses_table f (uses_at f) (op_count f))
unfolding uses_checks first_refusal
sum_right f e = rw (eq-eqb (length_of f uses) (2 * first_use f (op_count f)) e)

-- ---- the tables, each with what comes after it

module _ (f : List ℕ) where
  abbrev pub ops_part : List Check
  ops_part = ops_table f (op_count f)

  abbrev pub deps_part : List Check
  deps_part = deps_table f (op_count f) (deps_at f) (dep_count f)

  -- the bodies: operations, uses, dependences
  pub bodies_whole : first_refusal (ops_part ++ (uses_checks f ++ deps_part)) ≡ first_refusal (body_checks f)
  bodies_whole = ap first_refusal (rw append_assoc)

  -- the file: head, contents, bodies
  pub file_whole : first_refusal ((length_checks f ++ head_checks f) ++ (contents_checks f ++ body_checks f)) ≡ first_refusal (file_checks f)
  unfolding file_checks
  file_whole = ap first_refusal (simp append_assoc)

-- a file whose head is right has 26 bytes
pub long : (f : List ℕ) → first_refusal (length_checks f ++ head_checks f) ≡ none → 26 ≤ length f
unfolding length_checks
long f e = ltb-false (length f) 26 (or_false_left _ _ (passes_head _ _ (passes_left (length_checks f) (head_checks f) e)))

-- what the parts after the head need
pub ruleset from_head = (long, fine_passes)
