-- Where no operation is left, every one has a start.
use Rattle.descent.proofs.Steps.{leaf}
use Rattle.descent.proofs.choose.Goals as goal

pub returns-then-op-n-clause-done : goal.returns-then-op-n-clause-done
returns-then-op-n-clause-done c = leaf c.requires c.if-op-n.true
