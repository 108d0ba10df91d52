use mathlib.Core.Logic.{inl}
use Rattle.model.proofs.File.{accepted_ok}
use Rattle.lower_bounds.specs.Rounds.{rounds}
use Rattle.lower_bounds.proofs.Bisection.{zeros_hold, round_more}
use Rattle.lower_bounds.proofs.recurrence.feasible.Goals as goal

pub loop-init : goal.loop-init
unfolding rounds
loop-init c = let ok = accepted_ok c.args.file.now c.requires.0 in (zeros_hold _ 64 ok.few, inl ok.some)

pub loop-preserved : goal.loop-preserved
loop-preserved c =
    let ok = accepted_ok c.args.file.now c.requires.0 in
    round_more _ ok _ _ _ _ _ c.if-not-round.false c.loop.invariant.0 c.round.ensures
