-- Bytes put one after the other: a law on lists. Assumes nothing.
use Rattle.std.proofs.Common.{◌≡◌, ℕ, ◌<◌, List, [], length, get_or, sym, ap, arith}
use native.Mathlib.Decide.{dec_lt}
use lib.ListN.{get_or-eq_default}
use Rattle.trial.specs.Loops.{files, loop_file}
use lib.Seq.{sets}

-- a number that no loop has: nothing is put
none_there : (k : ℕ) → (0 < k → 14 < k) → Dec (0 < k) → get_or files k [] ≡ []
none_there k p (yes l) = get_or-eq_default files [] {n = k} (p l)
none_there k p (no g) = let e : k ≡ 0 = omega arith in ap (λ (n : ℕ). get_or files n []) e

pub no_bytes : (k : ℕ) → (0 < k → 14 < k) → [] ≡ loop_file k
unfolding loop_file
no_bytes k p = sym (none_there k p (dec_lt 0 k))

pub no_file : (k : ℕ) (old : List ℕ) → (0 < k → 14 < k) → (0 ≡ length (loop_file k)) × (old ≡ sets old 0 (loop_file k))
no_file k old p = (ap length (no_bytes k p), ap (sets old 0) (no_bytes k p))
