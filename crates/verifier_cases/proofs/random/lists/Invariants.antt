-- Each turn counts one verdict, and at most one that agrees.
use Rattle.std.proofs.Common.{◌≡◌, ◌+◌, ◌≤◌}
use Rattle.verifier_cases.proofs.random.lists.Given as goal

abbrev pub invariant-loop : goal.invariant-loop
invariant-loop l = record { agreeing : l.agree ≤ l.counter; each_one : l.legal + l.broken + l.of_two + l.with_itself + l.refused ≡ l.counter }
