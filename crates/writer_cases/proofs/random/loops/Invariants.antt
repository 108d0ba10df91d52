-- At most one loop is counted in a turn, and a file has at most 98 bytes.
use Rattle.std.proofs.Common.{◌*◌, ◌≤◌}
use Rattle.writer_cases.proofs.random.loops.Given as goal

abbrev pub invariant-loop : goal.invariant-loop
invariant-loop l = record { one_each : l.same ≤ l.counter; short : l.bytes ≤ 98 * l.counter }
