-- The first i files are done.
use Rattle.sheet.proofs.Walks.{Upto}
use Rattle.sheet.proofs.walk.Given as goal

abbrev pub invariant-loop-i : goal.invariant-loop-i
invariant-loop-i l = Upto l.bundle l.initial.lines l.initial.rows l.i l.sums l.lines l.rows
