-- The array holds the path lengths that the rounds so far raise from zeros, and rounds are left or a closed walk rules the interval out.
use Rattle.std.proofs.Common.{◌<◌}
use mathlib.Core.Logic.{◌⊎◌}
use Rattle.model.specs.Loop.{size}
use Rattle.model.specs.File.{loop_of}
use Rattle.lower_bounds.specs.Rounds.{rounds, Holds}
use Rattle.lower_bounds.specs.Walks.{Refuted}
use Rattle.lower_bounds.proofs.recurrence.feasible.Given as goal

abbrev pub invariant-loop : goal.invariant-loop
invariant-loop l =
    let m = loop_of l.file in
    Holds (size m) l.x (rounds m l.interval (size m) l.counter) × ((l.counter < size m) ⊎ Refuted m l.interval)
