-- The quotient of a closed walk: what document 01 says the recurrence bound is the largest of. Assumes nothing.
use Rattle.std.specs.Prelude.{List, ℕ, ◌+◌, ◌-◌, ◌/◌}
use Rattle.model.specs.Integers.{plus}
use Rattle.model.specs.Loop.{Loop}
use Rattle.model.specs.Bounds.{delay_of, distance_of}

-- a divided by b, rounded up
abbrev pub ceil_div : ℕ → ℕ → ℕ
ceil_div a b = (a + (b - 1)) / b

-- total delay divided by total distance, rounded up; 0 where the delay is below 0
abbrev pub quotient_up : Loop → List ℕ → ℕ
quotient_up l w = ceil_div (plus (delay_of l w)) (distance_of l w)
