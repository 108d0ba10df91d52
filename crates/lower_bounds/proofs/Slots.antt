-- No list of starts of all operations is legal at an interval below the resource bound: their cells of a slot, as many as the total on it, are in
-- different rows. Assumes nothing.
use mathlib.Core.Path.{◌≡◌}
use mathlib.Core.Bool.{true}
use mathlib.Core.List.{List}
use Prim.Native.Nat.{ℕ, ◌+◌, ◌-◌, ◌≤◌, max}
use native.Mathlib.Omega.{arith}
use lib.ListN.{length}
use Rattle.model.specs.Lists.{up_from, max_of}
use Rattle.model.specs.Loop.{Loop, size, LoopOk}
use Rattle.model.specs.Legality.{placed, meets, apart, legal_at, legal}
use Rattle.model.specs.Table.{count_of, cells_of}
use Rattle.model.specs.Bounds.{total_on, resource_bound}
use Rattle.model.proofs.Lists.{and_right}
use Rattle.model.proofs.Conflicts.{apart_once}
use Rattle.model.proofs.Free.{rows_held, held_all}
use Rattle.model.proofs.Sums.{sum_most, max_most, max_next}

-- where starts of all operations are legal the resource bound is at most the interval
pub resource_needed : (l : Loop) (ii : ℕ) (xs : List ℕ) → LoopOk l → 1 ≤ ii → length xs ≡ size l → legal l ii xs ≡ true → resource_bound l ≤ ii
unfolding resource_bound legal_at
resource_needed l ii xs ok h e k =
    omega (
      arith,
      max_most (total_on l) ii (up_from 1 24) (λ s.
          omega (
            arith,
            rows_held ii s l (placed xs) ok h,
            held_all l xs s e,
            sum_most (λ r. count_of s r (cells_of l ii (placed xs))) 1 0 ii (λ r a b. apart_once l ii (placed xs) ok (and_right (meets l ii (placed xs)) (apart l ii (placed xs)) k) s r),
          )),
    )

-- the largest number, one place further
pub further : (f : ℕ → ℕ) (s : ℕ) → 1 ≤ s → max_of f (up_from 1 (s + 1 - 1)) ≡ max (max_of f (up_from 1 (s - 1))) (f s)
further f s h =
    let e : s + 1 - 1 ≡ s - 1 + 1 = omega arith in
    let g : 1 + (s - 1) ≡ s = omega arith in
    rw (e, max_next f 1 (s - 1), g)
