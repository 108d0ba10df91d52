-- Each turn goes on past the end of its line, and the measure is what is left of the table.
use Rattle.std.proofs.Common.{◌-◌, length}
use Rattle.session_cases.proofs.replay.Given as goal

abbrev pub decreases-loop-at : goal.decreases-loop-at
decreases-loop-at l = length l.table - l.at
