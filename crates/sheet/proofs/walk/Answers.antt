-- Of at most 32 files, the sums are small.
use Rattle.std.proofs.Common.{arith}
use Rattle.model.proofs.Bundle.{few_files}
use Rattle.sheet.proofs.Walks.{upto_small}
use Rattle.sheet.proofs.walk.Goals as goal

pub add_line-sums-requires : goal.add_line-sums-requires
add_line-sums-requires c = (omega (arith, few_files c.args.bundle.now), upto_small _ _ _ c.loop-i.invariant)
