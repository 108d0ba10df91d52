-- Signed numbers as differences of two naturals: `Is z a b` says that z is a - b. Sums, orders and equations of such numbers are then facts
-- about naturals, which `omega` reads. Assumes nothing.
use mathlib.Core.Path.{◌≡◌, refl, sym, ap, ◌∙◌}
use mathlib.Core.Bool.{Bool, true, false, not, ◌&&◌, ◌||◌}
use Prim.Native.Nat.{ℕ, zero, suc, ◌+◌, ◌-◌, ◌*◌, ◌%◌, ◌^◌, ◌≤◌, ◌<◌}
use native.Mathlib.Omega.{arith}
use lib.IntN.{ℤ, pos, negsuc, nat_abs, neg_ℤ, sub_ℕ, ◌+ℤ◌, ◌-ℤ◌}
use lib.Dec.{T, leb, ltb, ltb→lt, lt→ltb, nltb→le, leb→le, le→leb, nleb→lt}
use lib.Signed.{non_neg, le_z, lt_z, ◌≤ℤ◌, ◌<ℤ◌, le_z_yes, lt_z_yes}
use borrow.Author.Tests.{ltb-true, lt-ltb, le-ltb, le-leb, lt-leb}
use mir.Syntax.{Width}
use mir.Val.{Fits, bits}
use Rattle.model.specs.Integers.{plus, minus, maxℤ}
use Rattle.model.specs.Loop.{Dep}
use Rattle.model.specs.File.{signed_byte}
use Rattle.model.specs.Legality.{holds}

-- z is a - b, by z's sign
abbrev pub IsT : ℤ → ℕ → ℕ → Type 0
IsT (pos n) a b = a ≡ n + b
IsT (negsuc n) a b = a + suc n ≡ b

pub record Is (z : ℤ) (a b : ℕ) : Type 0 where
  pub is : IsT z a b

-- by a test's outcome, which is remembered
pub by_test {ℓ} : {X : Type ℓ} (t : Bool) → (T t → X) → (T (not t) → X) → X
by_test true f g = f tt
by_test false f g = g tt

-- two tests are one
pub leb_same : (a b c d : ℕ) → (a ≤ b → c ≤ d) → (c ≤ d → a ≤ b) → leb a b ≡ leb c d
leb_same a b c d f g =
    by_test (leb a b)
    (λ s. le-leb a b (leb→le a b s) ∙ sym (le-leb c d (f (leb→le a b s))))
    (λ s. by_test (leb c d)
    (λ t. le-leb a b (g (leb→le c d t)) ∙ sym (le-leb c d (leb→le c d t)))
    (λ t. lt-leb a b (nleb→lt a b s) ∙ sym (lt-leb c d (nleb→lt c d t))))

sub' : (a b : ℕ) → IsT (sub_ℕ a b) a b
sub' a b =
    by_test (ltb a b)
    (λ t. let h : a < b = ltb→lt a b t in rw (lt-ltb a b h) (omega arith))
    (λ t. let h : b ≤ a = nltb→le a b t in rw (le-ltb a b h) (omega arith))

pub is_sub : (a b : ℕ) → Is (sub_ℕ a b) a b
is_sub a b = record { is = sub' a b }

pub is_pos : (n : ℕ) → Is (pos n) n 0
is_pos n = omega arith

pub is_negsuc : (n : ℕ) → Is (negsuc n) 0 (n + 1)
is_negsuc n = omega arith

-- the same number, by another difference
move' : (z : ℤ) {a b : ℕ} (c d : ℕ) → Is z a b → a + d ≡ c + b → Is z c d
move' (pos n) c d h e = omega arith
move' (negsuc n) c d h e = omega arith

pub move : {z : ℤ} {a b c d : ℕ} → Is z a b → a + d ≡ c + b → Is z c d
move {z} {c = c} {d = d} h e = move' z c d h e

-- equal numbers
same' : (x y : ℤ) {a b c d : ℕ} → Is x a b → Is y c d → a + d ≡ c + b → x ≡ y
same' (pos m) (pos n) h k e = ap pos (omega arith)
same' (pos m) (negsuc n) h k e = absurd (omega arith)
same' (negsuc m) (pos n) h k e = absurd (omega arith)
same' (negsuc m) (negsuc n) h k e = ap negsuc (omega arith)

pub is_eq : {x y : ℤ} {a b c d : ℕ} → Is x a b → Is y c d → a + d ≡ c + b → x ≡ y
is_eq {x} {y} h k e = same' x y h k e

add' : (x y : ℤ) {a b c d : ℕ} → Is x a b → Is y c d → Is (x +ℤ y) (a + c) (b + d)
add' (pos m) (pos n) h k = omega arith
add' (pos m) (negsuc n) h k = move (is_sub m (suc n)) (omega arith)
add' (negsuc m) (pos n) h k = move (is_sub n (suc m)) (omega arith)
add' (negsuc m) (negsuc n) h k = omega arith

pub is_add : {x y : ℤ} {a b c d : ℕ} → Is x a b → Is y c d → Is (x +ℤ y) (a + c) (b + d)
is_add {x} {y} h k = add' x y h k

neg' : (x : ℤ) {a b : ℕ} → Is x a b → Is (neg_ℤ x) b a
neg' (pos zero) h = omega arith
neg' (pos (suc n)) h = omega arith
neg' (negsuc n) h = omega arith

pub is_neg : {x : ℤ} {a b : ℕ} → Is x a b → Is (neg_ℤ x) b a
is_neg {x} h = neg' x h

pub is_subtract : {x y : ℤ} {a b c d : ℕ} → Is x a b → Is y c d → Is (x -ℤ y) (a + d) (b + c)
is_subtract h k = is_add h (is_neg k)

-- the tests
le' : (x y : ℤ) {a b c d : ℕ} → Is x a b → Is y c d → le_z x y ≡ leb (a + d) (c + b)
le' (pos m) (pos n) {a} {b} {c} {d} h k = leb_same m n (a + d) (c + b) (λ e. omega arith) (λ e. omega arith)
le' (pos m) (negsuc n) {a} {b} {c} {d} h k = sym (lt-leb (a + d) (c + b) (omega arith))
le' (negsuc m) (pos n) {a} {b} {c} {d} h k = sym (le-leb (a + d) (c + b) (omega arith))
le' (negsuc m) (negsuc n) {a} {b} {c} {d} h k = leb_same n m (a + d) (c + b) (λ e. omega arith) (λ e. omega arith)

pub is_le_z : {x y : ℤ} {a b c d : ℕ} → Is x a b → Is y c d → le_z x y ≡ leb (a + d) (c + b)
is_le_z {x} {y} h k = le' x y h k

lt' : (x y : ℤ) {a b c d : ℕ} → Is x a b → Is y c d → lt_z x y ≡ ltb (a + d) (c + b)
lt' (pos m) (pos n) {a} {b} {c} {d} h k = leb_same (suc m) n (suc (a + d)) (c + b) (λ e. omega arith) (λ e. omega arith)
lt' (pos m) (negsuc n) {a} {b} {c} {d} h k = sym (le-ltb (a + d) (c + b) (omega arith))
lt' (negsuc m) (pos n) {a} {b} {c} {d} h k = sym (lt-ltb (a + d) (c + b) (omega arith))
lt' (negsuc m) (negsuc n) {a} {b} {c} {d} h k = leb_same (suc n) m (suc (a + d)) (c + b) (λ e. omega arith) (λ e. omega arith)

pub is_lt_z : {x y : ℤ} {a b c d : ℕ} → Is x a b → Is y c d → lt_z x y ≡ ltb (a + d) (c + b)
is_lt_z {x} {y} h k = lt' x y h k

-- a test as a test of two naturals p and q, any that differ as the two numbers do
pub le_as : {x y : ℤ} {a b c d : ℕ} (p q : ℕ) → Is x a b → Is y c d → p + (c + b) ≡ q + (a + d) → le_z x y ≡ leb p q
le_as {a} {b} {c} {d} p q h k e = is_le_z h k ∙ leb_same (a + d) (c + b) p q (λ o. omega arith) (λ o. omega arith)

pub lt_as : {x y : ℤ} {a b c d : ℕ} (p q : ℕ) → Is x a b → Is y c d → p + (c + b) ≡ q + (a + d) → lt_z x y ≡ ltb p q
lt_as {a} {b} {c} {d} p q h k e = is_lt_z h k ∙ leb_same (suc (a + d)) (c + b) (suc p) q (λ o. omega arith) (λ o. omega arith)

-- an equal number
pub is_of : {x y : ℤ} {a b : ℕ} → x ≡ y → Is y a b → Is x a b
is_of e h = rw e h

-- the order of ℤ, each way
pub le_of : {x y : ℤ} {a b c d : ℕ} → Is x a b → Is y c d → x ≤ℤ y → a + d ≤ c + b
le_of {a = a} {b = b} {c = c} {d = d} h k o = leb→le (a + d) (c + b) (rw (is_le_z h k) at o.le)

pub of_le : {x y : ℤ} {a b c d : ℕ} → Is x a b → Is y c d → a + d ≤ c + b → x ≤ℤ y
of_le {a = a} {b = b} {c = c} {d = d} h k o = le_z_yes (rw (is_le_z h k) (le→leb (a + d) (c + b) o))

pub lt_of : {x y : ℤ} {a b c d : ℕ} → Is x a b → Is y c d → x <ℤ y → a + d < c + b
lt_of {a = a} {b = b} {c = c} {d = d} h k o = ltb→lt (a + d) (c + b) (rw (is_lt_z h k) at o.lt)

pub of_lt : {x y : ℤ} {a b c d : ℕ} → Is x a b → Is y c d → a + d < c + b → x <ℤ y
of_lt {a = a} {b = b} {c = c} {d = d} h k o = lt_z_yes (rw (is_lt_z h k) (lt→ltb (a + d) (c + b) o))

-- ---- tests and casts

-- at most is not above
leb_not : (a b : ℕ) → leb a b ≡ not (ltb b a)
leb_not a b =
    by_test (ltb b a)
    (λ t. let h : b < a = ltb→lt b a t in rw (lt-ltb b a h, lt-leb a b h))
    (λ t. let h : a ≤ b = nltb→le b a t in rw (le-ltb b a h, le-leb a b h))

pub le_z_not : (a b : ℤ) → le_z a b ≡ not (lt_z b a)
le_z_not (pos m) (pos n) = leb_not m n
le_z_not (pos m) (negsuc n) = refl
le_z_not (negsuc m) (pos n) = refl
le_z_not (negsuc m) (negsuc n) = leb_not n m

not_both : (a b : Bool) → not (not a && not b) ≡ (a || b)
not_both true b = refl
not_both false true = refl
not_both false false = refl

-- outside a range: below it or above it
pub outside_range : (a b z : ℤ) → not (le_z a z && le_z z b) ≡ (lt_z z a || lt_z b z)
outside_range a b z = rw (le_z_not a z, le_z_not z b) (not_both (lt_z z a) (lt_z b z))

-- a number below 0 is a difference of a smaller and a larger natural
pub below_zero : {z : ℤ} {a b : ℕ} → Is z a b → lt_z z (pos 0) ≡ true → a < b
below_zero {a = a} {b = b} h e = omega (arith, ltb-true (a + 0) (0 + b) (rw (is_lt_z h (is_pos 0)) at e))

-- the cast of a number that is not below 0 is the difference itself
cast' : (z : ℤ) → lt_z z (pos 0) ≡ false → {a b : ℕ} → Is z a b → a ≡ nat_abs z + b
cast' (pos n) e h = omega arith
cast' (negsuc n) e h = let z : ◌≡◌ {A = ℕ} 0 1 = cc in absurd (omega arith)

pub cast_is : {z : ℤ} {a b : ℕ} → Is z a b → lt_z z (pos 0) ≡ false → a ≡ nat_abs z + b
cast_is {z} h e = cast' z e h

-- and that cast is defined, where the width holds the difference
fits' : (w : Width) (z : ℤ) → lt_z z (pos 0) ≡ false → nat_abs z < 2 ^ bits w → T (non_neg z) × Fits w (nat_abs z)
fits' w (pos n) e l = (tt, omega arith)
fits' w (negsuc n) e l = let z : ◌≡◌ {A = ℕ} 0 1 = cc in absurd (omega arith)

pub cast_fits : (w : Width) {z : ℤ} {a b : ℕ} → Is z a b → lt_z z (pos 0) ≡ false → a < b + 2 ^ bits w → T (non_neg z) × Fits w (nat_abs z)
cast_fits w {z} h e l = fits' w z e (omega (arith, cast_is h e))

-- any number as a difference of its part above 0 and its part below, of which one is 0
pub parts : (z : ℤ) → Is z (plus z) (minus z)
parts (pos n) = omega arith
parts (negsuc n) = omega arith

pub plus_le : (z : ℤ) (b : ℕ) → z ≤ℤ pos b → plus z ≤ b
plus_le (pos n) b h = omega (arith, le_of (is_pos n) (is_pos b) h)
plus_le (negsuc n) b h = omega arith

-- the larger of two
pub max_right : (a b : ℤ) → lt_z a b ≡ true → maxℤ a b ≡ b
max_right a b e = rw e

pub max_left : (a b : ℤ) → lt_z a b ≡ false → maxℤ a b ≡ a
max_left a b e = rw e

-- ---- a byte as a signed number

pub byte_low : (n : ℕ) → n < 128 → signed_byte n ≡ pos n
unfolding signed_byte
byte_low n h = rw (lt-ltb n 128 h)

pub byte_high : (n : ℕ) → 128 ≤ n → signed_byte n ≡ negsuc (255 - n)
unfolding signed_byte
byte_high n h = rw (le-ltb n 128 h)

-- value + 128
abbrev pub byte_up : ℕ → ℕ
byte_up n = (n + 128) % 256

pub byte_is : (n : ℕ) → n < 256 → Is (signed_byte n) (byte_up n) 128
byte_is n f =
    by_test (ltb n 128)
    (λ t. let h : n < 128 = ltb→lt n 128 t in rw (byte_low n h) (omega arith))
    (λ t. let h : 128 ≤ n = nltb→le n 128 t in rw (byte_high n h) (omega arith))

-- value + 64: at most 128 exactly where the value is a delay of document 01, -64 to 64
abbrev pub delay_up : ℕ → ℕ
delay_up n = (n + 64) % 256

pub delay_is : (n : ℕ) → n < 256 → delay_up n ≤ 128 → Is (signed_byte n) (delay_up n) 64
delay_is n f h = move (byte_is n f) (omega arith)

pub delay_range : (n : ℕ) → n < 256 → negsuc 63 ≤ℤ signed_byte n → signed_byte n ≤ℤ pos 64 → delay_up n ≤ 128
delay_range n f p q = omega (arith, le_of (is_negsuc 63) (byte_is n f) p, le_of (byte_is n f) (is_pos 64) q)

-- ---- the bridge: the dependence inequality in naturals

-- for any delay, by its parts above and below 0
pub holds_parts : (ii : ℕ) (d : Dep) (s t : ℕ) → holds ii d s t ≡ leb (s + plus d.delay) (t + ii * d.distance + minus d.delay)
unfolding holds
holds_parts ii d s t =
    le_as (s + plus d.delay) (t + ii * d.distance + minus d.delay) (is_add (is_pos s) (parts d.delay)) (is_pos (t + ii * d.distance)) (omega arith)

-- for a delay that is a byte, by the byte's value + 64
pub holds_byte : (ii : ℕ) (d : Dep) (s t b : ℕ) → d.delay ≡ signed_byte b → b < 256 → delay_up b ≤ 128
    → holds ii d s t ≡ leb (s + delay_up b) (t + ii * d.distance + 64)
unfolding holds
holds_byte ii d s t b e f h =
    rw e (le_as (s + delay_up b) (t + ii * d.distance + 64) (is_add (is_pos s) (delay_is b f h)) (is_pos (t + ii * d.distance)) (omega arith))
