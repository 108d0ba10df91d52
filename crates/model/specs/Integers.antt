-- Numbers, beside the library. Assumes nothing.
use Rattle.std.specs.Prelude.{cond, ℕ, suc, ℤ, pos, negsuc}
use Rattle.std.specs.Int.Signed.{lt_z}

-- how far a signed number is above 0; 0 where it is not
abbrev pub plus : ℤ → ℕ
plus (pos n) = n
plus (negsuc n) = 0

-- how far it is below 0; 0 where it is not
abbrev pub minus : ℤ → ℕ
minus (pos n) = 0
minus (negsuc n) = suc n

-- the larger of two
abbrev pub maxℤ : ℤ → ℤ → ℤ
maxℤ a b = cond (lt_z a b) b a
