-- The first i calls are made, and the session is one that calls take.
use Rattle.session.specs.View.{Valid}
use Rattle.replay.specs.Replay.{first_calls}
use Rattle.replay.proofs.Replays.{Walked}
use Rattle.replay.proofs.run.Given as goal

abbrev pub invariant-loop-i : goal.invariant-loop-i
invariant-loop-i l = record {
  valid : Valid l.session l.rows;
  walked : Walked (first_calls l.calls l.i) l.initial.session l.initial.rows l.initial.replies l.session l.rows l.replies;
}
