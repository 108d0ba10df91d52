-- The fractions of the first k slots are written.
use Rattle.std.proofs.Common.{◌≡◌}
use Rattle.model.specs.Lists.{written}
use Rattle.sheet.specs.Lines.{slot_words}
use Rattle.sheet.proofs.fraction.write_slots.Given as goal

abbrev pub invariant-loop-k : goal.invariant-loop-k
invariant-loop-k l = l.slots ≡ written 0 (slot_words l.fn.sums l.k) l.initial.slots
