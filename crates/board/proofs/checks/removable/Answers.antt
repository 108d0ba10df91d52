-- One law of `Refusals` for each return.
use Rattle.std.proofs.Common.{sym, arith}
use Rattle.board.proofs.Refusals.{no_such, is_free, is_there}
use Rattle.board.proofs.checks.removable.Goals as goal

pub returns-then-op_count-op : goal.returns-then-op_count-op
returns-then-op_count-op c = sym (no_such _ _ _ (omega arith))

pub returns-then-starts-op : goal.returns-then-starts-op
returns-then-starts-op c = sym (is_free c.requires c.args.op (omega arith) c.if-starts-op.true)

pub returns : goal.returns
returns c = sym (is_there c.requires c.args.op (omega arith) c.if-starts-op.false)
