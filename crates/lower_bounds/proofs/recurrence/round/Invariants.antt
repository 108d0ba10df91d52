-- After e dependences the array holds the path lengths that those raise, and `changed` says whether one of them was not met.
use Rattle.std.proofs.Common.{◌≡◌, not}
use Rattle.model.specs.Loop.{size}
use Rattle.model.specs.File.{loop_of}
use Rattle.lower_bounds.specs.Rounds.{relax_to, met_to, Holds, nats}
use Rattle.lower_bounds.proofs.recurrence.round.Given as goal

abbrev pub invariant-loop-e : goal.invariant-loop-e
invariant-loop-e l =
    let m = loop_of l.file in
    let xs = nats (size m) l.initial.x in
    record { after : Holds (size m) l.x (relax_to m l.interval l.e xs); test : l.changed ≡ not (met_to m l.interval l.e xs) }
