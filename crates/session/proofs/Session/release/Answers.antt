-- No checkpoint, and one fewer.
use Rattle.session.proofs.Steps.{none_open, stepped_release}
use Rattle.session.proofs.Session.release.Goals as goal

pub returns-then-n-eq0 : goal.returns-then-n-eq0
returns-then-n-eq0 c = none_open c.args.self.now c.args.rows.now c.requires c.if-n-eq0.true

pub returns : goal.returns
returns c = stepped_release c.args.self.now c.args.rows.now c.requires c.if-n-eq0.false
