-- What the reader's answers say, in document 01's numbers. Assumes nothing.
use mathlib.Core.List.{List, [], ◌∷◌, ◌++◌, flat_map}
use Rattle.std.specs.Prelude.{ℕ, ◌+◌, ◌*◌, length, get_or, Result}
use Rattle.model.specs.Lists.{up_from}
use Rattle.model.specs.Refusals.{Check, Answer, answered, refused}
use Rattle.model.specs.Loop.{Loop, size, all_uses}
use Rattle.model.specs.File.{Section, op_count, dep_count, deps_at, use_width, op_record, uses_of, first_use, op_checks_at, op_use_checks, uses_checks, dep_checks_at}
use Rattle.refusals.specs.declared.Refusal.{Refusal}
use Rattle.refusals.specs.Told.{answer_of}
use Rattle.loop_file.specs.declared.Counts as code

-- ---- the reader's answer

-- the numbers of operations, uses and dependences
pub record Counts : Type 0 where
  pub ops : ℕ
  pub uses : ℕ
  pub deps : ℕ

-- what `read` says
abbrev pub reading_of : Result code.Counts Refusal → Answer Counts
reading_of = answer_of (λ c. record { ops = c.operations; uses = c.uses; deps = c.dependences })

-- the numbers of a loop, or the refusal: what `read` says of the model's reading
abbrev pub counted : Answer Loop → Answer Counts
counted (answered l) = answered (record { ops = size l; uses = length (all_uses l); deps = length l.deps })
counted (refused r) = refused r

-- ---- its parts

-- what a part of the reader says: a number for the next part, or the refusal
abbrev pub part_of : Result ℕ Refusal → Answer ℕ
part_of = answer_of (λ n. n)

-- the four bytes of a tag
abbrev pub four_of : List ℕ → List ℕ
four_of tag = get_or tag 0 0 ∷ get_or tag 1 0 ∷ get_or tag 2 0 ∷ get_or tag 3 0 ∷ []

-- a section by its numbers
abbrev pub section_as : ℕ → List ℕ → ℕ → ℕ → ℕ → Section
section_as entry tag width least most = record { entry = entry; tag = tag; width = width; least = least; most = most }

-- the checks of the first n operations
abbrev pub ops_table : List ℕ → ℕ → List Check
ops_table f n = flat_map (λ o. op_checks_at f (op_record o)) (up_from 0 n)

-- the checks of the uses of the first n operations, where the body begins at `start`
abbrev pub uses_table : List ℕ → ℕ → ℕ → List Check
uses_table f start n = flat_map (λ o. op_use_checks f (start + use_width * first_use f o) (uses_of f o)) (up_from 0 n)

-- the checks of the first m dependences between n operations, where the body begins at `start`
abbrev pub deps_table : List ℕ → ℕ → ℕ → ℕ → List Check
deps_table f n start m = flat_map (λ e. dep_checks_at f n (start + 4 * e)) (up_from 0 m)

-- the checks of the three bodies, 4 to 6
abbrev pub body_checks : List ℕ → List Check
body_checks f = ops_table f (op_count f) ++ uses_checks f ++ deps_table f (op_count f) (deps_at f) (dep_count f)
