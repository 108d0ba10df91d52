-- A cycle whose cell operation b covers is enough (`meets_some`), and where it covers that of none the use does not meet it (`meets_none`).
use Rattle.std.proofs.Common.{sym, arith}
use Rattle.reservation.proofs.Overlaps.{meets_some, meets_none}
use Rattle.reservation.proofs.pairs.use_meets.Goals as goal

pub returns-then-covers : goal.returns-then-covers
returns-then-covers c = sym (meets_some _ _ _ _ _ _ _ _ c.slot-on.ensures c.offset.ensures c.duration-k-end.ensures c.loop-k.k (omega arith) (sym c.if-covers.ensures))

pub returns : goal.returns
returns c = sym (meets_none _ _ _ _ _ _ _ _ c.slot-on.ensures c.offset.ensures c.duration-k-end.ensures (λ k l. c.loop-k.invariant k (omega arith)))
