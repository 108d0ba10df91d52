-- Where a cycle meets operation b, this is the first pair that conflicts.
use Rattle.std.proofs.Common.{arith}
use Rattle.verifier.proofs.Pairs.{walk_found}
use Rattle.verifier.proofs.walk.first_pair.Goals as goal

pub returns-then-meets : goal.returns-then-meets
returns-then-meets c =
    walk_found _ c.requires.0 c.requires.1 c.first_use-first.ensures c.use_count.ensures (omega arith) (omega arith)
    _ _ (omega arith) (omega arith) (omega arith) c.if-meets.ensures c.pairs.invariant.1 c.loop-b.invariant.1
