-- By where the number lies.
use Rattle.model.specs.Refusals.{first_refusal}
use Rattle.model.proofs.Checks.{too_small, too_large, in_range}
use Rattle.refusals.proofs.range.Goals as goal
use Rattle.refusals.proofs.range.Goals.{then-x-lt1-via-then-x-lt1, then-x-lt1-via-else-x-lt1+then-most-x}

pub returns-then-x-lt1 : goal.returns-then-x-lt1
unfolding first_refusal
returns-then-x-lt1 c =
    elim c.then-x-lt1.branch [
      | then-x-lt1-via-then-x-lt1 w ↦ rw (too_small c.args.most c.args.x w.if-x-lt1.true)
      | then-x-lt1-via-else-x-lt1+then-most-x w ↦ rw (too_large c.args.most c.args.x w.if-x-lt1.false w.if-most-x.true)
    ]

pub returns : goal.returns
unfolding first_refusal
returns c = rw (in_range c.args.most c.args.x c.if-x-lt1.false c.if-most-x.false)
