-- The entries for the dependences from `e` on are made.
use Rattle.model.specs.File.{loop_of}
use Rattle.descent.proofs.Links.{Linking}
use Rattle.descent.proofs.window.link.Given as goal

abbrev pub invariant-loop-e : goal.invariant-loop-e
invariant-loop-e l = Linking (loop_of l.file) l.links l.e
