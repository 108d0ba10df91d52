-- The loop of `scan::take_digits`: the digits from i on, behind the number read so far, lead to the same place and number as those from `at` on. Assumes nothing.
use Rattle.std.proofs.Common.{◌≡◌, ◌+◌, ◌≤◌, max, drop, length}
use Rattle.console.specs.Scan.{figures, value_from}
use Rattle.console.proofs.scan.take_digits.Given as goal

abbrev pub invariant-loop-i : goal.invariant-loop-i
invariant-loop-i l =
    record {
      within : l.i ≤ max l.at (length l.text);
      place : l.i + figures (drop l.i l.text) ≡ l.at + figures (drop l.at l.text);
      number : value_from l.value (drop l.i l.text) ≡ value_from 0 (drop l.at l.text);
    }
