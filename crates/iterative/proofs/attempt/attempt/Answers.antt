-- An attempt begins with an empty board.
use Rattle.iterative.proofs.Schedules.{begins, attempted}
use Rattle.iterative.proofs.attempt.attempt.Goals as goal

pub put_all-requires : goal.put_all-requires
put_all-requires c = (begins c.requires c.clear_rows.ensures, c.requires.is_size)

pub returns : goal.returns
returns c = attempted c.requires c.clear_rows.ensures c.put_all.ensures
