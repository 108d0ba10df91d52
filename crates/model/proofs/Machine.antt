-- Signed machine integers as differences of two naturals: what is needed so that a result fits, and what is read back. Assumes nothing.
use mathlib.Core.Path.{◌≡◌}
use mathlib.Core.Bool.{Bool}
use Prim.Native.Nat.{ℕ, ◌+◌, ◌^◌, ◌≤◌, ◌<◌}
use native.Mathlib.Omega.{arith}
use lib.IntN.{ℤ, pos, negsuc}
use lib.Signed.{mag, lt_z}
use mir.Syntax.{Width}
use mir.Val.{SFits, hbits, to_z, of_z}
use mir.ValLaws.{to_z_pos, to_z-of_z}
use Rattle.model.proofs.Signed.{Is, is_pos, is_of}

fits' : (w : Width) (z : ℤ) {a b : ℕ} → Is z a b → a < b + 2 ^ hbits w → b ≤ a + 2 ^ hbits w → SFits w z
fits' w (pos n) h p q = omega arith
fits' w (negsuc n) h p q = omega arith

-- a number in the width's range fits
pub is_fits : (w : Width) {z : ℤ} {a b : ℕ} → Is z a b → a < b + 2 ^ hbits w → b ≤ a + 2 ^ hbits w → SFits w z
is_fits w {z} h p q = fits' w z h p q

-- an unsigned number that was cast
pub is_cast : (w : Width) (n : ℕ) → n < 2 ^ hbits w → Is (to_z w n) n 0
is_cast w n h = rw (to_z_pos w n h) (is_pos n)

-- a signed number that fits, out of its bits
pub is_back : (w : Width) {z : ℤ} {a b : ℕ} → SFits w z → Is z a b → Is (to_z w (of_z w z)) a b
is_back w {z} f h = rw (to_z-of_z w z f) h

-- a call's result r, which is y: `.ok` and `.ensures` of the call
pub is_got : (w : Width) {r y : ℤ} {a b : ℕ} → mag r < 2 ^ hbits w → r ≡ y → Is y a b → Is (to_z w (of_z w r)) a b
is_got w f e h = is_back w (record { sfits = f }) (is_of e h)

-- a test of two numbers that fit, from the test of what the machine reads back
pub lt_plain : (w : Width) (a b : ℤ) {t : Bool} → SFits w a → SFits w b → lt_z (to_z w (of_z w a)) (to_z w (of_z w b)) ≡ t → lt_z a b ≡ t
lt_plain w a b f g e = rw (to_z-of_z w a f, to_z-of_z w b g) at e
