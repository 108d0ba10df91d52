-- The verifier of a proposed list of starts (document 01: the judge). Assumes nothing.
use Rattle.std.specs.Prelude.{cond, List, [], ◌∷◌, ◌++◌, ℕ, eqb, leb, length, get_or, take}
use Rattle.std.proofs.Math.Option.{Option, none, some}
use Rattle.model.specs.Lists.{up_from, pairs, first}
use Rattle.model.specs.Refusals.{Check, if_found, range, lent, Answer, settle}
use Rattle.model.specs.Loop.{Use, Loop, size, op_at, dep_at}
use Rattle.model.specs.File.{file_checks, loop_of}
use Rattle.model.specs.Legality.{placed, broken, pair_conflict}
use Rattle.model.specs.Counts.{number_of, own_clash, pair_clash}

-- legal; the number of a broken dependence; the two operations of a conflict, and the number of the first place in which the second meets the first
pub data Verdict : Type 0 where
  is_legal : Verdict
  breach : ℕ → Verdict
  clash : (a b place : ℕ) → Verdict

-- 15: the first of n starts that is not below 4,096 is the detail
abbrev pub late_start : List ℕ → ℕ → Check
late_start xs n = if_found 15 (first (λ o. leb 4096 (get_or xs o 0)) (up_from 0 n))

-- 7, 20, 15
unfoldable pub proposal_checks : Loop → ℕ → List ℕ → List Check
proposal_checks l ii xs = range 1 4096 ii ∷ lent (size l) (length xs) ∷ late_start xs (size l) ∷ []

-- 1 to 6, then these
unfoldable pub proposed_checks : List ℕ → ℕ → List ℕ → List Check
proposed_checks f ii xs = file_checks f ++ proposal_checks (loop_of f) ii xs

-- a pair that conflicts, with its place. (One that conflicts has a place: law `pair_place`.)
abbrev pub clash_at : ℕ × ℕ → Option ℕ → Verdict
clash_at p none = clash p.0 p.1 0
clash_at p (some n) = clash p.0 p.1 n

-- dependences come first, in number order; then pairs of operations, in dictionary order
abbrev pub judge : Option ℕ → Option (ℕ × ℕ) → (ℕ × ℕ → Option ℕ) → Verdict
judge (some e) p at = breach e
judge none (some p) at = clash_at p (at p)
judge none none at = is_legal

-- the first broken dependence
unfoldable pub first_broken : Loop → ℕ → List ℕ → Option ℕ
first_broken l ii xs = first (λ e. broken ii (placed xs) (dep_at l e)) (up_from 0 (length l.deps))

-- the first pair of operations that conflicts
unfoldable pub first_pair : Loop → ℕ → List ℕ → Option (ℕ × ℕ)
first_pair l ii xs = first (pair_conflict l ii (placed xs)) (pairs (size l))

-- the first place in which operation b of a pair (a, b) meets a or, where they are one operation, itself
unfoldable pub pair_place : Loop → ℕ → List ℕ → ℕ × ℕ → Option (ℕ × Use)
pair_place l ii xs p =
    cond (eqb p.0 p.1) (own_clash ii (op_at l p.1) (get_or xs p.1 0)) (pair_clash ii (op_at l p.0) (get_or xs p.0 0) (op_at l p.1) (get_or xs p.1 0))

-- the verdict on one start for each operation
unfoldable pub verdict : Loop → ℕ → List ℕ → Verdict
verdict l ii xs = judge (first_broken l ii xs) (first_pair l ii xs) (λ p. number_of (pair_place l ii xs p))

-- the answer for any file, interval and list: 1 to 6, 7, 20, 15, then the verdict on the first starts
unfoldable pub verify_file : List ℕ → ℕ → List ℕ → Answer Verdict
verify_file f ii xs =
    settle (proposed_checks f ii xs) (verdict (loop_of f) ii (take (size (loop_of f)) xs))
