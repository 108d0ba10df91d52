-- Changes of the 24 numbers by an amount for each slot: number i is that of slot i + 1. Assumes nothing.
use Rattle.std.specs.Prelude.{◌≡◌, Bool, cond, List, ℕ, suc, ◌+◌, ◌/◌, ◌%◌, ◌^◌, ◌≤◌, ◌<◌, eqb, length, get_or}
use Rattle.model.specs.Lists.{up_from, sum_of}
use Rattle.model.specs.Loop.{Loop, op_at, op_on}

-- what comes holds so much of each slot, and what goes held so much: each number can do without it, where it comes, and has room for it
pub record Room (comes : Bool) (amount : ℕ → ℕ) (free : List ℕ) : Type 0 where
  pub whole : length free ≡ 24
  pub enough : (i : ℕ) → i < 24 → cond comes (amount (suc i)) 0 ≤ get_or free i 0
  pub small : (i : ℕ) → i < 24 → get_or free i 0 + amount (suc i) < 65536

-- each number is less by it, where it comes, and more by it, where it goes
pub record Moved (comes : Bool) (amount : ℕ → ℕ) (free free' : List ℕ) : Type 0 where
  pub whole : length free' ≡ 24
  pub at : (i : ℕ) → i < 24 → get_or free' i 0 + cond comes (amount (suc i)) 0 ≡ get_or free i 0 + cond comes 0 (amount (suc i))

-- what those of the first n operations that a mask names hold of slot s, bit p for operation p
unfoldable pub named_on : Loop → (mask s n : ℕ) → ℕ
named_on l mask s n = sum_of (λ p. cond (eqb (mask / 2 ^ p % 2) 1) (op_on s (op_at l p)) 0) (up_from 0 n)
