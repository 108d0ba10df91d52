use borrow.Author.Tests.{lt-ltb, le-ltb}
use Rattle.model.specs.Refusals.{first_refusal}
use Rattle.refusals.proofs.lent.Goals as goal

pub returns-then-has-needs : goal.returns-then-has-needs
unfolding first_refusal
returns-then-has-needs c = let a = c.args in rw (lt-ltb a.has a.needs c.if-has-needs.true)

pub returns : goal.returns
unfolding first_refusal
returns c = let a = c.args in rw (le-ltb a.has a.needs c.if-has-needs.false)
