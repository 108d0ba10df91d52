-- Bytes put into a line. Assumes nothing.
use mathlib.Core.Path.{◌≡◌, ap, ◌∙◌}
use mathlib.Core.List.{List}
use Prim.Native.Nat.{ℕ, ◌≤◌}
use native.Mathlib.Omega.{arith}
use lib.ListN.{length}
use lib.Seq.{length-paste}
use Rattle.io.specs.Digits.{last_digits, IsDigitCount}
use Rattle.console.specs.Line.{fitting, written, after, Numbered}

-- a line stays as long as it was, and what is put at a place within it ends within it
pub put_within : (line : List ℕ) (at : ℕ) (bytes : List ℕ) {r : ℕ} {new : List ℕ} → (r ≡ after line at bytes) × (new ≡ written line at bytes) → at ≤ length line
    → (r ≤ length new) × (length new ≡ length line)
unfolding written after
put_within line at bytes {r} {new} p h =
    let e : length new ≡ length line = ap length p.1 ∙ length-paste line at bytes (fitting line at bytes) (omega arith) (omega arith) in
    (omega (arith, p.0), e)

-- bytes, and then the digits of n behind them
pub numbered : (line : List ℕ) (at : ℕ) (bytes : List ℕ) (n : ℕ) (k : ℕ) {mid new ds : List ℕ} {next r : ℕ} → IsDigitCount 10 1 n k → ds ≡ last_digits 10 k n
    → (next ≡ after line at bytes) × (mid ≡ written line at bytes) → (r ≡ after mid next ds) × (new ≡ written mid next ds) → Numbered line at bytes n new r
numbered line at bytes n k f d p q = record {
  count = k;
  fewest = f;
  stands = cc;
  place = cc;
}
