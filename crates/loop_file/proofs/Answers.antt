-- The reader's answer and the model's reading. Assumes nothing.
use mathlib.Core.Path.{◌≡◌, refl, sym, ap, ◌∙◌}
use mathlib.Core.List.{List}
use mathlib.Core.Option.{Option, none, some}
use Prim.Native.Nat.{ℕ}
use native.Mathlib.Omega.{arith}
use lib.ListN.{length}
use Rattle.std.specs.Prelude.{Result, Ok, Err, IsErrAnd}
use Rattle.model.specs.Refusals.{first_refusal, settled}
use Rattle.model.specs.Loop.{size, all_uses}
use Rattle.model.specs.File.{read_file, file_checks, loop_of, Accepted, op_count, dep_count, first_use}
use Rattle.model.proofs.Lists.{length_tabulate}
use Rattle.model.proofs.File.{size_is, deps_is, all_uses_is}
use Rattle.refusals.specs.declared.Refusal.{Refusal}
use Rattle.refusals.specs.Told.{told, refusal_of}
use Rattle.loop_file.specs.Read.{Counts, reading_of, counted}
use Rattle.loop_file.specs.declared.Counts as code

-- ---- from the tables to the reader's answer

-- a file that is refused: the answer is the first refusal of its table
pub counted_refused : (P : Refusal → Type 0) (f : List ℕ) (r : Result code.Counts Refusal) → IsErrAnd r P → refusal_of r ≡ first_refusal (file_checks f) → reading_of r ≡ counted (read_file f)
unfolding read_file
counted_refused P f (Ok c) h p = absurd h
counted_refused P f (Err y) h p = rw (← p)

-- an accepted file, with the numbers that its bytes give
pub counted_accepted : (f : List ℕ) (c : code.Counts) → Accepted f → c.operations ≡ op_count f → c.uses ≡ first_use f (op_count f) → c.dependences ≡ dep_count f → reading_of (Ok c) ≡ counted (read_file f)
unfolding read_file
counted_accepted f c e p q r =
    let u : length (all_uses (loop_of f)) ≡ first_use f (op_count f) = ap length (all_uses_is f) ∙ length_tabulate _ 0 (first_use f (op_count f)) in
    rw (e, p, q, r, size_is f, u, deps_is f)

-- ---- from the reader's answer to the file: what callers go by

-- its refusal is the first of the file's table
pub read_first : (f : List ℕ) (r : Result code.Counts Refusal) → reading_of r ≡ counted (read_file f) → refusal_of r ≡ first_refusal (file_checks f)
unfolding read_file
read_first f (Ok c) e = pick (first_refusal (file_checks f)) e
  where
    pick : (o : Option _) → reading_of (Ok c) ≡ counted (settled o (loop_of f)) → none ≡ o
    pick none q = refl
    pick (some s) q = let z : ◌≡◌ {A = ℕ} 0 1 = cc in absurd (omega arith)
read_first f (Err y) e = pick (first_refusal (file_checks f)) e
  where
    pick : (o : Option _) → reading_of (Err y) ≡ counted (settled o (loop_of f)) → some (told y) ≡ o
    pick none q = let z : ◌≡◌ {A = ℕ} 0 1 = cc in absurd (omega arith)
    pick (some s) q = cc

-- the file is refused by this refusal
pub read_refused : (f : List ℕ) (e : Refusal) → reading_of (Err e) ≡ counted (read_file f) → first_refusal (file_checks f) ≡ some (told e)
read_refused f e h = sym (read_first f (Err e) h)

-- the file is accepted, and the numbers are those of its loop
pub record IsAccepted (f : List ℕ) (ops uses deps : ℕ) : Type 0 where
  pub file : Accepted f
  pub ops_are : ops ≡ size (loop_of f)
  pub uses_are : uses ≡ length (all_uses (loop_of f))
  pub deps_are : deps ≡ length (loop_of f).deps

pub read_accepted : (f : List ℕ) (c : code.Counts) → reading_of (Ok c) ≡ counted (read_file f) → IsAccepted f c.operations c.uses c.dependences
unfolding read_file
read_accepted f c e =
    let h : Accepted f = sym (read_first f (Ok c) e) in
    let g : ◌≡◌ {A = Counts} (record { ops = c.operations; uses = c.uses; deps = c.dependences }) (record { ops = size (loop_of f); uses = length (all_uses (loop_of f)); deps = length (loop_of f).deps }) =
    let q = rw h at e in cc in
    record { file = h; ops_are = ap (λ (n : Counts). n.ops) g; uses_are = ap (λ (n : Counts). n.uses) g; deps_are = ap (λ (n : Counts). n.deps) g }
