-- `from` is the earliest start by the first e dependences.
use Rattle.model.specs.File.{loop_of}
use Rattle.iterative.specs.Timing.{EarliestStart}
use Rattle.iterative.proofs.timing.earliest_start.Given as goal

abbrev pub invariant-loop-e : goal.invariant-loop-e
invariant-loop-e l = EarliestStart (loop_of l.file) l.interval l.starts l.op l.e l.from
