use Rattle.std.proofs.Common.{arith}
use Rattle.model.proofs.Bundle.{entry_at_lem}
use Rattle.bundle.proofs.offset.Goals as goal

-- the entry of a file that there is lies inside the bundle
pub word-requires : goal.word-requires
word-requires c = omega (arith, entry_at_lem c.args.bundle.now c.args.i (omega arith))
