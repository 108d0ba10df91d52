-- The checks of the uses so far refuse nothing, and `below` is the slot of the last of them.
use Rattle.std.proofs.Common.{◌≡◌}
use mathlib.Core.Option.{none}
use Rattle.model.specs.Refusals.{first_refusal}
use Rattle.model.specs.File.{slot_below, op_use_checks}
use Rattle.loop_file.proofs.reader.op_uses.Given as goal

abbrev pub invariant-loop-j : goal.invariant-loop-j
invariant-loop-j l = record {
  below_is : l.below ≡ slot_below l.file l.fn.first l.j;
  passed : first_refusal (op_use_checks l.file l.fn.first l.j) ≡ none;
}
