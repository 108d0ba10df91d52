-- One operation more: it is picked, or what was picked before is.
use Rattle.std.proofs.Common.{sym, ◌∙◌, arith}
use Rattle.model.proofs.Firsts.{get_or_within}
use Rattle.iterative.proofs.Picks.{pick_within, pick_past, pick_next}
use Rattle.iterative.proofs.priority.pick.Goals as goal
use Rattle.iterative.proofs.priority.pick.Goals.{then-starts-o, else-starts-o}

pub higher-requires : goal.higher-requires
higher-requires c = (pick_within _ c.loop-o.invariant (omega arith), omega arith)

pub loop-o-preserved : goal.loop-o-preserved
loop-o-preserved c =
    let here = get_or_within c.args.starts.now c.loop-o.o 65535 0 (omega arith) in
    elim c.if-starts-o.branch [
      | then-starts-o w ↦ rw w.best-is (pick_next (here ∙ w.if-starts-o.true) _ c.loop-o.invariant w.higher.ensures)
      | else-starts-o w ↦ rw w.best-is (pick_past c.loop-o.invariant (λ q. w.if-starts-o.false (sym here ∙ q)))
    ]
