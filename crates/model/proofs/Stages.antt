-- The stage count is one more than the largest stage of an occupied cycle, and no other number is. Assumes nothing.
use mathlib.Core.Path.{◌≡◌, refl}
use mathlib.Core.List.{List}
use Prim.Native.Nat.{ℕ, zero, suc, ◌≤◌}
use native.Mathlib.Nat.{div-zero, div-mul-le_self, le-div_iff_mul-le}
use native.Mathlib.Omega.{arith}
use Rattle.model.specs.Loop.{Loop, size}
use Rattle.model.specs.File.{loop_of, Accepted}
use Rattle.model.specs.Search.{stage, last_cycle, last_occupied, stage_count, Occupies, LastStage}
use Rattle.model.proofs.Sums.{max_above, max_one}
use Rattle.model.proofs.File.{accepted_ok}

-- a later cycle is in no earlier stage
later : (ii a b : ℕ) → a ≤ b → stage ii a ≤ stage ii b
later zero a b m = rw (div-zero a, div-zero b) (omega arith)
later (suc k) a b m = (le-div_iff_mul-le {k = suc k} (omega arith)).1 (omega (arith, div-mul-le_self a (suc k)))

-- no operation occupies a cycle after the last occupied one
not_after_lem : (l : Loop) (xs : List ℕ) (o t : ℕ) → Occupies l xs o t → t ≤ last_occupied l xs
unfolding last_occupied
not_after_lem l xs o t c = omega (arith, max_above (last_cycle l xs) 0 (size l) o (omega arith) (omega (arith, c.0)), c.2)

-- with at least one operation, the stage count is one more than the largest stage of an occupied cycle: the last stage is not empty
pub last_stage : (l : Loop) (ii : ℕ) (xs : List ℕ) → 1 ≤ size l → LastStage l ii xs (stage_count l ii xs)
unfolding stage_count last_occupied
last_stage l ii xs some =
    let w = max_one (last_cycle l xs) 0 (size l) some in
    record {
      within = λ o t c. omega (arith, later ii t (last_occupied l xs) (not_after_lem l xs o t c));
      op = w.0;
      at = last_occupied l xs;
      occupies = (omega (arith, w.1), omega (arith, w.2), omega (arith, w.2));
      is_last = refl;
    }

-- no other number is that
pub stages_only : (l : Loop) (ii : ℕ) (xs : List ℕ) (n : ℕ) → LastStage l ii xs n → n ≡ stage_count l ii xs
stages_only l ii xs n s =
    let own = last_stage l ii xs (omega (arith, s.occupies.0)) in
    omega (arith, own.within s.op s.at s.occupies, own.is_last, s.within own.op own.at own.occupies, s.is_last)

-- an accepted file has an operation, so the last stage of each schedule that is found for one is not empty
pub file_stages : (f : List ℕ) → Accepted f → (ii : ℕ) (xs : List ℕ) → LastStage (loop_of f) ii xs (stage_count (loop_of f) ii xs)
file_stages f a ii xs = last_stage (loop_of f) ii xs (accepted_ok f a).some
