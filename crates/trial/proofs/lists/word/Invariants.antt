-- The digits that the loop of `lists::word` has still to take complete the list. Assumes nothing.
use Rattle.std.proofs.Common.{◌≡◌}
use Rattle.trial.specs.Lists.{digits, word_of}
use Rattle.trial.proofs.lists.word.Given as goal

abbrev pub invariant-loop-i : goal.invariant-loop-i
invariant-loop-i l = word_of l.code l.k l.horizon ≡ digits l.h l.starts l.left l.i
