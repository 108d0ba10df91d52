-- No more places did not change than were passed.
use Rattle.std.proofs.Common.{◌≤◌}
use Rattle.search_cases.proofs.memory.places.Given as goal

abbrev pub invariant-loop-start : goal.invariant-loop-start
invariant-loop-start l = l.kept ≤ l.start-index
