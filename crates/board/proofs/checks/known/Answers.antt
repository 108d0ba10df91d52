-- One law of `Refusals` for each return.
use Rattle.std.proofs.Common.{sym, arith}
use Rattle.board.proofs.Refusals.{no_such, is_taken, is_late, is_known}
use Rattle.board.proofs.checks.known.Goals as goal

pub returns-then-op_count-op : goal.returns-then-op_count-op
returns-then-op_count-op c = sym (no_such _ _ _ (omega arith))

pub returns-then-starts-op : goal.returns-then-starts-op
returns-then-starts-op c = sym (is_taken c.requires c.args.op (omega arith) c.args.horizon c.args.start c.if-starts-op.true)

pub returns-then-horizon-start : goal.returns-then-horizon-start
returns-then-horizon-start c = sym (is_late c.requires c.args.op (omega arith) c.args.horizon c.args.start c.if-starts-op.false c.if-horizon-start.true)

pub returns : goal.returns
returns c = sym (is_known c.requires c.args.op (omega arith) c.args.horizon c.args.start c.if-starts-op.false c.if-horizon-start.false)
