-- No call is made yet; a turn makes one more.
use Rattle.replay.proofs.Replays.{made_none, made_next}
use Rattle.replay.proofs.run.Goals as goal

pub loop-i-init : goal.loop-i-init
loop-i-init c = record { valid = c.requires.0; walked = made_none c.args.calls.now c.args.session.now c.args.rows.now c.args.replies.now }

pub loop-i-preserved : goal.loop-i-preserved
loop-i-preserved c = record {
  valid = c.make.ensures.valid;
  walked = made_next c.args.calls.now c.loop-i.i c.loop-i.invariant.walked (rw c.call_of-call.ensures at c.make.ensures) c.write_reply.ensures;
}
