-- Use j of an operation, by its number among all uses of an accepted file. Assumes nothing.
use mathlib.Core.Path.{◌≡◌, sym, ap, ◌∙◌}
use mathlib.Core.Bool.{Bool, true, false}
use mathlib.Core.List.{List}
use mathlib.Core.Option.{none, some}
use Prim.Native.Nat.{ℕ, ◌+◌, ◌-◌, ◌≤◌, ◌<◌}
use native.Mathlib.Omega.{arith}
use lib.ListN.{length, get_or}
use Rattle.model.specs.Lists as lists
use Rattle.model.specs.Loop.{Use, no_use, size, op_at, use_at, all_uses, first_use_of}
use Rattle.model.specs.File.{longest, loop_of, Accepted}
use Rattle.model.proofs.File.{layout}
use Rattle.model.proofs.Firsts.{first_at, first_not}
use Rattle.model.proofs.Loop.{use_among, use_within}
use Rattle.loop_access.proofs.Records.{use_read}

-- number u is that of a use, inside the file, and stands for use j of operation o
pub record UseHere (f : List ℕ) (o j u : ℕ) : Type 0 where
  pub inside : u < length (all_uses (loop_of f))
  pub small : u < longest
  pub is : get_or (all_uses (loop_of f)) u no_use ≡ use_at (op_at (loop_of f) o) j

-- what the number of the first use and the count of the uses give
pub use_here : (f : List ℕ) (o j first n : ℕ) → Accepted f → o < size (loop_of f) → first ≡ first_use_of (loop_of f) o → n ≡ length (op_at (loop_of f) o).uses → j < n
    → UseHere f o j (first + j)
use_here f o j first n a l p q m =
    let i : first + j < length (all_uses (loop_of f)) = omega (arith, use_within (loop_of f) o l) in
    record {
      inside = i;
      small = omega (arith, (use_read f (first + j) (a, i)).inside, (layout f a).short);
      is = rw p (use_among (loop_of f) o j l (omega arith));
    }

-- ---- the uses of an operation, walked by their numbers among all uses

-- the uses of operation o are those from number `first` on, n of them
pub record OwnUses (f : List ℕ) (o first n : ℕ) : Type 0 where
  pub count : length (op_at (loop_of f) o).uses ≡ n
  pub is : (j : ℕ) → j < n → use_at (op_at (loop_of f) o) j ≡ get_or (all_uses (loop_of f)) (first + j) no_use

-- which the number of the first use and the count of the uses give
pub own_uses : (f : List ℕ) (o first n : ℕ) → Accepted f → o < size (loop_of f) → first ≡ first_use_of (loop_of f) o → n ≡ length (op_at (loop_of f) o).uses → OwnUses f o first n
own_uses f o first n a l p q = record { count = sym q; is = λ j m. rw p (sym (use_among (loop_of f) o j l (omega arith))) }

module _ {f : List ℕ} {o first n : ℕ} (own : OwnUses f o first n) where
  -- use number u is use u - first of the operation
  pub own_at : (u : ℕ) → first ≤ u → u < first + n → use_at (op_at (loop_of f) o) (u - first) ≡ get_or (all_uses (loop_of f)) u no_use
  own_at u low high =
      let e : first + (u - first) ≡ u = omega arith in
      own.is (u - first) (omega arith) ∙ ap (λ (v : ℕ). get_or (all_uses (loop_of f)) v no_use) e

  module _ (t : Use → Bool) where
    -- none before number u passes a test, and u does: it is the first
    pub own_first : (u : ℕ) → first ≤ u → u < first + n → ((v : ℕ) → v < u → first ≤ v → t (get_or (all_uses (loop_of f)) v no_use) ≡ false)
        → t (get_or (all_uses (loop_of f)) u no_use) ≡ true → lists.first t (op_at (loop_of f) o).uses ≡ some (get_or (all_uses (loop_of f)) u no_use)
    own_first u low high none_before here =
        let e = own_at u low high in
        first_at t (op_at (loop_of f) o).uses no_use (u - first) (omega (arith, own.count))
        (λ j m. ap t (own.is j (omega arith)) ∙ none_before (first + j) (omega arith) (omega arith)) (ap t e ∙ here)
        ∙ ap some e

    -- none passes, said of each
    pub own_each : ((v : ℕ) → v < first + n → first ≤ v → t (get_or (all_uses (loop_of f)) v no_use) ≡ false) → (j : ℕ) → j < length (op_at (loop_of f) o).uses → t (use_at (op_at (loop_of f) o) j) ≡ false
    own_each all j m = ap t (own.is j (omega (arith, own.count))) ∙ all (first + j) (omega (arith, own.count)) (omega arith)

    -- and of the first
    pub own_none : ((v : ℕ) → v < first + n → first ≤ v → t (get_or (all_uses (loop_of f)) v no_use) ≡ false) → lists.first t (op_at (loop_of f) o).uses ≡ none
    own_none all = first_not t (op_at (loop_of f) o).uses no_use (own_each all)
