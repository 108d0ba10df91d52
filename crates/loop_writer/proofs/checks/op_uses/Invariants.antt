-- The checks of the uses passed refuse nothing, and `below` is the slot of the last of them.
use mathlib.Core.Path.{◌≡◌}
use mathlib.Core.List.{flat_map}
use mathlib.Core.Option.{none}
use Prim.Native.Nat.{◌≤◌}
use Rattle.model.specs.Lists.{up_from}
use Rattle.model.specs.Refusals.{first_refusal}
use Rattle.model.specs.Writer.{slot_before}
use Rattle.loop_writer.proofs.Rows.{use_table}
use Rattle.loop_writer.proofs.checks.op_uses.Given as goal

abbrev pub invariant-loop-j : goal.invariant-loop-j
invariant-loop-j l = record {
  slot : l.below ≡ slot_before l.uses l.first l.j;
  most : l.below ≤ 24;
  passed : first_refusal (flat_map (use_table l.uses l.first) (up_from 0 l.j)) ≡ none;
}
