-- What is read is in range, since the file is accepted, so 32 bits hold the number that `raise` is given.
use mathlib.Core.Path.{◌≡◌}
use mathlib.Core.List.{List}
use Prim.Native.Nat.{ℕ, suc, ◌+◌, ◌*◌, ◌≤◌, ◌<◌}
use native.Mathlib.Nat.{mul-le-mul}
use native.Mathlib.Omega.{arith}
use lib.IntN.{ℤ, pos, negsuc, ◌+ℤ◌, ◌-ℤ◌}
use lib.ListN.{length, get_or}
use lib.Signed.{mag, ◌≤ℤ◌}
use mir.Syntax.{w32}
use mir.Val.{SFits, to_z, of_z}
use Rattle.model.specs.Integers.{plus, minus}
use Rattle.model.specs.Loop.{DepOk, size, dep_at}
use Rattle.model.specs.File.{loop_of, Accepted}
use Rattle.model.proofs.File.{accepted_ok}
use Rattle.model.proofs.Machine.{is_fits, is_cast, is_back}
use Rattle.model.proofs.Signed.{Is, is_pos, is_negsuc, is_add, is_subtract, is_eq, le_of, parts}
use Rattle.lower_bounds.proofs.recurrence.relax.Goals as goal

-- what bounds a number bounds its parts
mag_parts : (z : ℤ) → (plus z ≤ mag z) × (minus z ≤ suc (mag z))
mag_parts (pos n) = omega arith
mag_parts (negsuc n) = omega arith

-- a path length, a delay and a lag that are small
record Small (from delay : ℤ) (lag : ℕ) : Type 0 where
  near : mag from < 16777216
  early : negsuc 63 ≤ℤ delay
  late : delay ≤ℤ pos 64
  fits : mag delay < 2147483648
  short : lag ≤ 61440

-- the machine's from + delay - lag
module _ {from delay : ℤ} {lag : ℕ} (s : Small from delay lag) where
  abbrev sum : ℤ
  sum = to_z w32 (of_z w32 from) +ℤ to_z w32 (of_z w32 delay)

  abbrev less : ℤ
  less = to_z w32 (of_z w32 sum) -ℤ to_z w32 lag

  abbrev above : ℕ
  above = plus from + plus delay

  abbrev below : ℕ
  below = minus from + minus delay

  sum_is : Is sum above below
  sum_is = is_add (is_back w32 (record { sfits = omega arith }) (parts from)) (is_back w32 (record { sfits = s.fits }) (parts delay))

  about : (above < below + 16777280) × (below ≤ above + 16777280)
  about = omega (arith, mag_parts from, le_of (parts delay) (is_pos 64) s.late, le_of (is_negsuc 63) (parts delay) s.early)

  sum_fits : SFits w32 sum
  sum_fits = let h = about in is_fits w32 sum_is (omega arith) (omega arith)

  less_is : Is less (above + 0) (below + lag)
  less_is = is_subtract (is_back w32 sum_fits sum_is) (is_cast w32 lag (omega arith))

  less_fits : SFits w32 less
  less_fits = let h = about in is_fits w32 less_is (omega arith) (omega arith)

  exact : to_z w32 (of_z w32 less) ≡ from +ℤ delay -ℤ pos lag
  exact = is_eq (is_back w32 less_fits less_is) (is_subtract (is_add (parts from) (parts delay)) (is_pos lag)) (omega arith)

-- what is read of a dependence is in range
in_range : (f : List ℕ) (e : ℕ) → Accepted f → e < length (loop_of f).deps → DepOk (size (loop_of f)) (dep_at (loop_of f) e) × (size (loop_of f) ≤ 64)
in_range f e a h = let ok = accepted_ok f a in (ok.dep_ok e h, ok.few)

lag_short : {interval distance : ℕ} → interval ≤ 4096 → distance ≤ 15 → interval * distance ≤ 61440
lag_short h k = mul-le-mul {n₂ = 4096} {m₂ = 15} h k

small : (f : List ℕ) (x : List ℤ) (e interval : ℕ) {from distance : ℕ} {delay : ℤ}
    → Accepted f × (e < length (loop_of f).deps) × (interval ≤ 4096) × (mag (get_or x (dep_at (loop_of f) e).src (pos 0)) < 16777216)
    → from ≡ (dep_at (loop_of f) e).src → distance ≡ (dep_at (loop_of f) e).distance → delay ≡ (dep_at (loop_of f) e).delay → mag delay < 2147483648
    → Small (get_or x from (pos 0)) delay (interval * distance)
small f x e interval h p q r fits =
    let d = (in_range f e h.0 h.1).0 in
    record { near = rw p h.3; early = rw r d.early; late = rw r d.late; fits = fits; short = rw q (lag_short h.2 d.near) }

pub overflow_mul-lag : goal.overflow_mul-lag
overflow_mul-lag c =
    let d = (in_range c.args.file.now c.args.e c.requires.0 c.requires.1).0 in
    omega (arith, lag_short {distance = c.distance.result} c.requires.2 (omega arith))

pub bounds-x-from : goal.bounds-x-from
bounds-x-from c = let k = in_range c.args.file.now c.args.e c.requires.0 c.requires.1 in omega arith

pub offset_bounds-x-from : goal.offset_bounds-x-from
offset_bounds-x-from c = let k = in_range c.args.file.now c.args.e c.requires.0 c.requires.1 in omega arith

pub raise-requires : goal.raise-requires
raise-requires c = let k = in_range c.args.file.now c.args.e c.requires.0 c.requires.1 in omega arith

pub overflow_add-v : goal.overflow_add-v
overflow_add-v c = let a = c.args in sum_fits (small a.file.now a.x.now a.e a.interval c.requires c.source-from.ensures c.distance.ensures c.delay.ensures c.delay.type_inv)

pub overflow_cast-v : goal.overflow_cast-v
overflow_cast-v c =
    let d = (in_range c.args.file.now c.args.e c.requires.0 c.requires.1).0 in
    omega (arith, lag_short {distance = c.distance.result} c.requires.2 (omega arith))

pub overflow_sub-v : goal.overflow_sub-v
overflow_sub-v c = let a = c.args in less_fits (small a.file.now a.x.now a.e a.interval c.requires c.source-from.ensures c.distance.ensures c.delay.ensures c.delay.type_inv)

pub returns : goal.returns
returns c =
    let a = c.args in
    let e = exact (small a.file.now a.x.now a.e a.interval c.requires c.source-from.ensures c.distance.ensures c.delay.ensures c.delay.type_inv) in
    record { raised = rw (← c.source-from.ensures, ← c.target-to.ensures, ← c.distance.ensures, ← c.delay.ensures) (rw e at c.raise.ensures) }
