-- The loop of `scan::numbers`: the numbers before the index are read and stored, and the rest of the list is as it was. Assumes nothing.
use Rattle.std.proofs.Common.{◌≡◌, ◌++◌, drop}
use Rattle.console.specs.Scan.{places, values}
use Rattle.console.proofs.scan.numbers.Given as goal

abbrev pub invariant-loop-place : goal.invariant-loop-place
invariant-loop-place l =
    record {
      place : l.next ≡ places l.place-index l.text l.at;
      stored : l.list ≡ values l.place-index l.text l.at ++ drop l.place-index l.initial.list;
    }
