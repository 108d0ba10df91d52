-- The refusal of the checks, or what is made.
use Rattle.std.proofs.Common.{rules}
use Rattle.search.proofs.Requests.{turned_away}
use Rattle.planner.proofs.Answers.{plans_not, by_make}
use Rattle.planner.proofs.plan.Goals as goal

pub returns-in_default : goal.returns-in_default
returns-in_default c = plans_not (turned_away c.admitted-checked.result _ (search rules) c.passed_on.ensures c.admitted-checked.ensures)

pub returns : goal.returns
returns c = by_make c.in-Ok.ensures c.make.ensures
