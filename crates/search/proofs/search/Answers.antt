-- The refusal of the checks, or what the attempt comes to.
use Rattle.std.proofs.Common.{rules}
use Rattle.search.proofs.Requests.{turned_away, searches_not, by_attempt}
use Rattle.search.proofs.search.Goals as goal

pub returns-in_default : goal.returns-in_default
returns-in_default c = searches_not (turned_away c.admitted-checked.result _ (search rules) c.passed_on.ensures c.admitted-checked.ensures)

pub returns : goal.returns
returns c = by_attempt c.in-Ok.ensures c.attempt.ensures
