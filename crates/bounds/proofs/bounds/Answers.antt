-- The reader's refusal, or the bounds of the accepted file's loop.
use Rattle.model.specs.Bounds.{by_file, by_loop}
use Rattle.loop_file.proofs.Answers.{read_accepted, read_refused}
use Rattle.refusals.proofs.Tables.{answer_kept}
use Rattle.bounds.proofs.bounds.Goals as goal

pub returns-in_default : goal.returns-in_default
returns-in_default c = by_file _ (read_refused c.args.file.now _ c.in_default.ensures) (answer_kept _ c.read-reading.result c.passed_on.result c.in_default.is c.passed_on.ensures)

pub lower-requires : goal.lower-requires
lower-requires c = (read_accepted c.args.file.now c.in-Ok.field-0 c.in-Ok.ensures).file

pub returns : goal.returns
returns c = by_loop (read_accepted c.args.file.now c.in-Ok.field-0 c.in-Ok.ensures).file c.lower.ensures
