use Rattle.std.proofs.Common.{arith}
use Rattle.model.proofs.File.{accepted_ok}
use Rattle.lower_bounds.proofs.Arrays.{turn}
use Rattle.lower_bounds.proofs.recurrence.round.Goals as goal

pub loop-e-preserved : goal.loop-e-preserved
loop-e-preserved c =
    let ok = accepted_ok c.args.file.now c.requires.0 in
    let t = turn _ ok _ _ (omega arith) _ _ _ _ _ c.loop-e.invariant.after c.loop-e.invariant.test c.relax-changed.ensures in
    record { after = t.0; test = t.1 }
