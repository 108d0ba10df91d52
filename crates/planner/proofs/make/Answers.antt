-- A quick list at the larger bound is kept; else the exact search ends, and one of the laws of `Lists` says what that comes to.
use Rattle.std.proofs.Common.{ap, sym, ◌∙◌, arith}
use Rattle.planner.proofs.Lists.{is_ten, not_ten, is_least, keeps_bound, search_found, search_ended, keeps_quick}
use Rattle.planner.proofs.make.Goals as goal
use Rattle.planner.proofs.make.Goals.{in-NoSchedule, in_default-matches}

pub returns-then-eq : goal.returns-then-eq
returns-then-eq c =
    keeps_bound c.args.list.now c.args.rows.now c.requires c.larger-least.ensures (omega arith) c.place_all-quick.ensures (is_least _ _ (sym c.if-eq.ensures)) c.clear_rows.ensures c.keep.ensures

pub returns-in_default : goal.returns-in_default
returns-in_default c =
    search_ended c.args.list.now c.args.rows.now c.requires c.larger-least.ensures (omega arith) c.place_all-quick.ensures (sym c.if-eq.ensures) c.below.ensures c.in_default.is c.in-Err.ensures

pub returns-in-Ok : goal.returns-in-Ok
returns-in-Ok c =
    search_found c.args.list.now c.args.rows.now c.requires c.larger-least.ensures (omega arith) c.place_all-quick.ensures (sym c.if-eq.ensures) c.below.ensures c.in-Ok.ensures

pub returns-after-matches : goal.returns-after-matches
returns-after-matches c =
    keeps_quick c.args.list.now c.args.rows.now c.requires c.larger-least.ensures (omega arith) c.place_all-quick.ensures (sym c.if-eq.ensures) c.below.ensures c.in-Some.is c.in-Err.ensures
    (elim c.match-matches.branch [ in-NoSchedule w ↦ ap is_ten w.in-NoSchedule.is ∙ sym w.matches-is | in_default-matches w ↦ not_ten _ w.in_default-matches.not-NoSchedule ∙ sym w.matches-is ])
    c.keep-in-Err.ensures
