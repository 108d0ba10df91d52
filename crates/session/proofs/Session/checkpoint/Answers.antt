-- The one checkpoint too many, and one more.
use Rattle.session.proofs.Steps.{full, stepped_checkpoint}
use Rattle.session.proofs.Session.checkpoint.Goals as goal

pub returns-then-n-ge16 : goal.returns-then-n-ge16
returns-then-n-ge16 c = full c.args.self.now c.args.rows.now c.requires c.if-n-ge16.true

pub returns : goal.returns
returns c = stepped_checkpoint c.args.self.now c.args.rows.now c.requires c.if-n-ge16.false
