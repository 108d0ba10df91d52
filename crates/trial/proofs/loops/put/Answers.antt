-- The bytes stand at the start of the array, as a run of stores would leave them (`sets-eq`). Assumes nothing.
use Rattle.std.proofs.Common.{◌≡◌, ◌+◌, sym, arith, length}
use Rattle.std.proofs.lemmas.List.Edits.{sets-eq}
use Rattle.trial.proofs.loops.put.Goals as goal

pub returns-clause-file_after : goal.returns-clause-file_after
returns-clause-file_after c =
    let bytes = c.args.bytes.now in
    let whole : 0 + length bytes ≡ length bytes = omega arith in
    rw c.copy_from_slice.ensures.after (rw whole at (sym (sets-eq bytes c.args.file.now 0 (omega arith))))
