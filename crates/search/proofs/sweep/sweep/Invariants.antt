-- The intervals that are left come to what all come to.
use Rattle.search.proofs.Tops.{Pass}
use Rattle.search.proofs.sweep.sweep.Given as goal

abbrev pub invariant-loop-ii : goal.invariant-loop-ii
invariant-loop-ii l = Pass l.fn.file l.fn.starts l.fn.rows l.fn.n l.fn.least l.fn.cap l.fn.horizon l.fn.budget l.starts l.rows l.left l.ii
