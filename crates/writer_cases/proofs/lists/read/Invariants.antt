-- Each turn goes on past the end of its word, and the measure is what is left of the line.
use Rattle.std.proofs.Common.{◌-◌, length}
use Rattle.writer_cases.proofs.lists.read.Given as goal

abbrev pub decreases-loop-next : goal.decreases-loop-next
decreases-loop-next l = length l.line - l.next
