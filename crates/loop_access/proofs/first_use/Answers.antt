-- The uses of operation `o` stand before the end of all, which lies inside the file.
use Rattle.std.proofs.Common.{arith}
use Rattle.model.specs.File.{op_count}
use Rattle.model.proofs.File.{layout, size_is, first_use_le}
use Rattle.loop_access.proofs.Records.{uses_read}
use Rattle.loop_access.proofs.first_use.Goals as goal

pub overflow_add-sum : goal.overflow_add-sum
overflow_add-sum c =
    let f = c.args.file.now in
    omega (arith, size_is f, uses_read f c.loop-o.o (c.requires.0, omega arith), layout f c.requires.0, first_use_le f c.loop-o.o (op_count f) (omega (arith, size_is f)))
