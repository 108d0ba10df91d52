-- The session and the rows stay those that calls take.
use Rattle.session.specs.View.{Valid}
use Rattle.session_random.proofs.all_turns.Given as goal

abbrev pub invariant-loop-i : goal.invariant-loop-i
invariant-loop-i l = Valid l.p.session l.rows
