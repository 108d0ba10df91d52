-- The cleared table for the sweep, and its end or the list that is found.
use Rattle.std.proofs.Common.{refl, ◌∙◌, arith}
use Rattle.search.proofs.Attempts.{few, clears, finds, ends}
use Rattle.search.proofs.attempt.attempt.Goals as goal

pub sweep-swept-requires : goal.sweep-swept-requires
sweep-swept-requires c = clears _ _ _ c.args.bounds.resource _ c.requires refl c.clear_rows.ensures c.larger.ensures

pub returns-in_err-interval : goal.returns-in_err-interval
returns-in_err-interval c = ends c.args.n c.larger.result _ _ _ c.sweep-swept.new.starts _ c.from_residual.result c.from_residual.ensures.1 c.larger.ensures c.in_err-interval.ensures.done (c.sweep-swept.ensures.same ∙ c.clear_rows.ensures)

pub write_list-requires : goal.write_list-requires
write_list-requires c = (c.requires.room, omega (arith, few _ _ c.requires.accepted c.requires.is_size))

pub returns : goal.returns
returns c =
    finds c.larger.result _ _ _ _ _ _ _ _ _ c.requires c.larger.ensures (omega arith) c.in_ok-interval.ensures.done (c.sweep-swept.ensures.same ∙ c.clear_rows.ensures) c.write_list.ensures c.stage_count.ensures
