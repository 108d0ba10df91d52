-- The records of an accepted file, as the loop's own items: each is read off its bytes, and its last byte lies inside the file.
-- Assumes nothing.
use mathlib.Core.Path.{◌≡◌, ap, ◌∙◌}
use mathlib.Core.List.{List}
use Prim.Native.Nat.{ℕ, ◌+◌, ◌<◌}
use native.Mathlib.Nat.{zero-add}
use native.Mathlib.Numerals.{add-one}
use native.Mathlib.Omega.{arith}
use lib.ListN.{length, get_or}
use Rattle.model.specs.Loop.{Op, no_use, size, op_at, dep_at, all_uses}
use Rattle.model.specs.File.{op_count, dep_count, first_use, op_record, use_record, dep_record, uses_of, use_in, op_in, dep_in, loop_of, Accepted}
use Rattle.model.proofs.Lists.{length_tabulate, get_or_tabulate}
use Rattle.model.proofs.File.{Layout, layout, size_is, deps_is, op_is, dep_is, uses_is, all_uses_is, first_use_is, first_use_le, op_inside, dep_inside}

-- the loop has as many uses as the file counts of all operations
pub uses_total : (f : List ℕ) → length (all_uses (loop_of f)) ≡ first_use f (op_count f)
uses_total f = ap length (all_uses_is f) ∙ length_tabulate (use_in f) 0 (first_use f (op_count f))

-- an item of the loop is what the bytes of its record say, and the record, whose last byte is `last`, lies inside the file
pub record ReadAs {A : Type 0} (f : List ℕ) (item bytes : A) (last : ℕ) : Type 0 where
  pub is : item ≡ bytes
  pub inside : last < length f

-- operation o is so
abbrev pub OpRead : List ℕ → ℕ → Type 0
OpRead f o = ReadAs f (op_at (loop_of f) o) (op_in f o) (op_record o + 1)

-- use u of all is so
abbrev pub UseRead : List ℕ → ℕ → Type 0
UseRead f u = ReadAs f (get_or (all_uses (loop_of f)) u no_use) (use_in f u) (use_record f u + 1)

-- dependence e is so
abbrev pub DepRead : List ℕ → ℕ → Type 0
DepRead f e = ReadAs f (dep_at (loop_of f) e) (dep_in f e) (dep_record f e + 3)

-- every operation of an accepted file is so
pub op_read : (f : List ℕ) (o : ℕ) → Accepted f × (o < size (loop_of f)) → OpRead f o
op_read f o (a, l) =
    let k : o < op_count f = rw size_is at l in
    record { is = op_is f o k; inside = op_inside f o (layout f a) k }

-- and every use
pub use_read : (f : List ℕ) (u : ℕ) → Accepted f × (u < length (all_uses (loop_of f))) → UseRead f u
use_read f u (a, l) =
    let k : u < first_use f (op_count f) = rw uses_total at l in
    let y : Layout f = layout f a in
    record {
      is = rw all_uses_is (get_or_tabulate (use_in f) 0 (first_use f (op_count f)) u no_use k ∙ ap (use_in f) (zero-add u));
      inside = omega arith;
    }

-- and every dependence
pub dep_read : (f : List ℕ) (e : ℕ) → Accepted f × (e < length (loop_of f).deps) → DepRead f e
dep_read f e (a, l) =
    let k : e < dep_count f = rw deps_is at l in
    record { is = dep_is f e k; inside = dep_inside f e (layout f a) k }

-- an operation has the number of uses that its record gives
pub uses_read : (f : List ℕ) (o : ℕ) → Accepted f × (o < size (loop_of f)) → length (op_at (loop_of f) o).uses ≡ uses_of f o
uses_read f o h = ap (λ (p : Op). length p.uses) (op_read f o h).is ∙ uses_is f o

-- what the bytes of an accepted file say of its loop, for the tactics
pub ruleset reads = (layout, size_is, deps_is, uses_total, op_read, use_read, dep_read, uses_read)

-- one operation more
pub first_use_next : (f : List ℕ) (o : ℕ) → first_use f (o + 1) ≡ first_use f o + uses_of f o
unfolding first_use
first_use_next f o = rw (add-one o)

-- and of how its uses are numbered
pub ruleset counts = (reads, first_use_is, first_use_le, first_use_next)
