-- The session and the rows stay those that calls take.
use Rattle.session.specs.View.{Valid}
use Rattle.session_cases.proofs.calls.Given as goal

abbrev pub invariant-loop-line : goal.invariant-loop-line
invariant-loop-line l = Valid l.s l.rows
