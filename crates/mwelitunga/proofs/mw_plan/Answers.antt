-- What the planner says, in numbers.
use mathlib.Core.Path.{refl}
use Rattle.mwelitunga.proofs.Words.{flag_is, plan_told, plan_ended}
use Rattle.mwelitunga.proofs.mw_plan.Goals as goal

pub returns-in-Ok : goal.returns-in-Ok
returns-in-Ok c = plan_told c.in-Ok.ensures refl (rw (flag_is c.in-Ok.p.smallest) at c.write_answer.ensures)

pub returns-in-Err : goal.returns-in-Err
returns-in-Err c = plan_ended _ c.in-Err.ensures c.write_unsolved.ensures
