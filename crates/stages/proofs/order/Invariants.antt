-- `n` of the operations below `p` come before the one.
use Rattle.std.proofs.Common.{◌≡◌, ◌≤◌}
use Rattle.model.specs.Lists.{up_from, count_if}
use Rattle.model.specs.Search.{earlier}
use Rattle.stages.proofs.order.Given as goal

abbrev pub invariant-loop-p : goal.invariant-loop-p
invariant-loop-p l = record { few : l.n ≤ l.p; counted : l.n ≡ count_if (earlier l.interval l.starts l.op) (up_from 0 l.p) }
