-- The numbers before i stand as bytes from `at` on.
use mathlib.Core.Path.{◌≡◌}
use mathlib.Core.List.{map}
use lib.Seq.{paste}
use Rattle.model.specs.Writer.{byte_of}
use Rattle.loop_writer.proofs.put.body.Given as goal

abbrev pub invariant-loop-i : goal.invariant-loop-i
invariant-loop-i l = l.buffer ≡ paste l.initial.buffer l.at (map byte_of l.fields) l.i
