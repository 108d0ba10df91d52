-- What a part of the reader answers where a table of checks settles a number: from the answer to the table's first refusal and the number, and back. Assumes nothing.
use mathlib.Core.Path.{◌≡◌, sym, ap, ◌∙◌}
use mathlib.Core.List.{List, ◌++◌}
use mathlib.Core.Option.{Option, none, some}
use Prim.Native.Nat.{ℕ}
use native.Mathlib.Omega.{arith}
use Rattle.std.specs.Prelude.{Result, Ok, Err, IsErrAnd}
use Rattle.model.specs.Refusals as model
use Rattle.model.specs.Refusals.{Check, first_refusal, answered, refused, settled, settle}
use Rattle.model.proofs.Checks.{settled_answer}
use Rattle.refusals.proofs.Tables.{rest_decides}
use Rattle.refusals.specs.Told.{told, refusal_of}
use Rattle.refusals.specs.declared.Refusal.{Refusal}
use Rattle.loop_file.specs.Read.{part_of}

-- its refusal is the table's
pub part_refusal : (r : Result ℕ Refusal) (cs : List Check) (a : ℕ) → part_of r ≡ settle cs a → refusal_of r ≡ first_refusal cs
part_refusal (Ok v) cs a e = sym (settled_answer (first_refusal cs) a v (sym e)).0
part_refusal (Err y) cs a e = pick (first_refusal cs) e
  where
    pick : (o : Option _) → refused (told y) ≡ settled o a → some (told y) ≡ o
    pick none q = let z : ◌≡◌ {A = ℕ} 0 1 = cc in absurd (omega arith)
    pick (some s) q = cc

-- its number is the one that is settled
pub part_value : {r : Result ℕ Refusal} {v : ℕ} (cs : List Check) (a : ℕ) → r ≡ Ok v → part_of r ≡ settle cs a → v ≡ a
part_value {v = v} cs a e h = sym (settled_answer (first_refusal cs) a v (sym h ∙ ap part_of e)).1

-- where it has a number: that is the one that is settled, and of the table and the tables `rest` after it the rest decides
pub part_rest : {r : Result ℕ Refusal} {v : ℕ} (cs rest : List Check) (a : ℕ) → part_of r ≡ settle cs a → r ≡ Ok v → (v ≡ a) × (first_refusal rest ≡ first_refusal (cs ++ rest))
part_rest {r = r} cs rest a said h = (part_value cs a h said, sym (rest_decides cs rest (part_refusal r cs a said) h))

-- the ways back
pub part_fine : {v a : ℕ} (cs : List Check) → first_refusal cs ≡ none → v ≡ a → part_of (Ok v) ≡ settle cs a
part_fine cs p q = rw (p, q)

pub part_refused : {r : model.Refusal} (cs : List Check) (a : ℕ) → first_refusal cs ≡ some r → refused r ≡ settle cs a
part_refused cs a p = rw p

pub part_passed_on : (P : Refusal → Type 0) (r : Result ℕ Refusal) (cs : List Check) (a : ℕ) → IsErrAnd r P → refusal_of r ≡ first_refusal cs → part_of r ≡ settle cs a
part_passed_on P (Ok v) cs a h p = absurd h
part_passed_on P (Err y) cs a h p = part_refused cs a (sym p)
