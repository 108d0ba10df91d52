-- Numbers in text. Assumes nothing.
use Rattle.std.specs.Prelude.{Bool, cond, ◌&&◌, List, [], ◌∷◌, ◌++◌, ℕ, zero, suc, ◌+◌, ◌*◌, ◌-◌, min, eqb, leb, drop}

-- how many spaces a text begins with
unfoldable pub blanks : List ℕ → ℕ
blanks [] = 0
blanks (b ∷ t) = cond (eqb b 32) (suc (blanks t)) 0

-- the byte is a decimal digit
abbrev pub is_figure : ℕ → Bool
is_figure b = leb 48 b && leb b 57

-- how many digits a text begins with
unfoldable pub figures : List ℕ → ℕ
figures [] = 0
figures (b ∷ t) = cond (is_figure b) (suc (figures t)) 0

-- the number n with those digits behind it, the largest number of 64 bits where it is larger
unfoldable pub value_from : ℕ → List ℕ → ℕ
value_from n [] = n
value_from n (b ∷ t) = cond (is_figure b) (value_from (min (10 * n + (b - 48)) 18446744073709551615) t) n

-- the first place from `at` on that holds no space
unfoldable pub begin : List ℕ → ℕ → ℕ
begin text at = at + blanks (drop at text)

-- the number behind any spaces at a place
unfoldable pub value_at : List ℕ → ℕ → ℕ
value_at text at = value_from 0 (drop (begin text at) text)

-- the place after its last digit
unfoldable pub next_at : List ℕ → ℕ → ℕ
next_at text at = begin text at + figures (drop (begin text at) text)

-- the place after n numbers, one behind the other
unfoldable pub places : ℕ → List ℕ → ℕ → ℕ
places zero text at = at
places (suc n) text at = next_at text (places n text at)

-- those numbers
unfoldable pub values : ℕ → List ℕ → ℕ → List ℕ
values zero text at = []
values (suc n) text at = values n text at ++ (value_at text (places n text at) ∷ [])
