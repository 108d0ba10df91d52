-- Cycle by cycle: `cycles_found` where one has a place that is shared, `cycles_none` where none has.
use Rattle.std.proofs.Common.{arith}
use Rattle.reservation.proofs.TakenCells.{cycles_none, cycles_found}
use Rattle.reservation.proofs.pairs.shared_place.Goals as goal

pub returns-in-Some : goal.returns-in-Some
returns-in-Some c = cycles_found _ _ _ _ _ _ c.loop-k.k _ (omega arith) c.loop-k.invariant c.in-Some.ensures

pub returns : goal.returns
returns c = cycles_none _ _ _ _ _ _ (λ k l. c.loop-k.invariant k (omega arith))
