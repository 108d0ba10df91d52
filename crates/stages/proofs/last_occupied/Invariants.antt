-- `most` is the largest last cycle of the operations below `o`.
use Rattle.std.proofs.Common.{◌≡◌, ◌<◌}
use Rattle.model.specs.File.{loop_of}
use Rattle.model.specs.Lists.{up_from, max_of}
use Rattle.model.specs.Search.{last_cycle}
use Rattle.stages.proofs.last_occupied.Given as goal

abbrev pub invariant-loop-o : goal.invariant-loop-o
invariant-loop-o l = record { small : l.most < 65600; largest : l.most ≡ max_of (last_cycle (loop_of l.file) l.starts) (up_from 0 l.o) }
