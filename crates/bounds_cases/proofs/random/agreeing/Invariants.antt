-- At most one loop is counted in a turn.
use Rattle.std.proofs.Common.{◌≤◌}
use Rattle.bounds_cases.proofs.random.agreeing.Given as goal

abbrev pub invariant-loop : goal.invariant-loop
invariant-loop l = l.agree ≤ l.counter
