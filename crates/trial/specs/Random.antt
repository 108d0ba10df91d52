-- What the random loops are drawn with. Assumes nothing.
use Rattle.std.specs.Prelude.{ℕ, ◌+◌, ◌*◌, ◌/◌, ◌%◌, ◌^◌, cond, ◌==◌}

-- the state behind a state
unfoldable pub next_of : ℕ → ℕ
next_of seed = (seed % 2147483648 * 1103515245 + 12345) % 2147483648

-- one of n numbers from the least on, by the higher bits of a state; the least where n is 0
unfoldable pub pick_of : ℕ → ℕ → ℕ → ℕ
pick_of seed least n = cond (n == 0) least ((seed / 65536 % n + least) % 2 ^ 64)
