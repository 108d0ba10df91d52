-- A use that meets the second operation is enough (`uses_some`), and where none does the two do not conflict (`uses_none`).
use Rattle.std.proofs.Common.{◌∙◌, sym, ap, ◌-◌, arith}
use Rattle.model.specs.Loop.{op_at}
use Rattle.model.specs.File.{loop_of}
use Rattle.model.proofs.File.{accepted_ok}
use Rattle.reservation.specs.Overlaps.{use_meets}
use Rattle.reservation.proofs.Overlaps.{uses_some, uses_none}
use Rattle.reservation.proofs.UseNumbers.{own_uses, own_at, own_each}
use Rattle.reservation.proofs.pairs.overlap.Goals as goal

pub returns-then-use_meets : goal.returns-then-use_meets
returns-then-use_meets c =
    let own = own_uses _ _ _ _ c.requires.0 c.requires.1 c.first_use-first.ensures c.use_count.ensures in
    let a = c.args in
    let l = loop_of a.file.now in
    sym (uses_some a.interval c.requires.5 (op_at l a.a) (op_at l a.b) ((accepted_ok _ c.requires.0).op_ok a.a c.requires.1) a.from a.to
    (c.loop-u.u - c.first_use-first.result) (omega (arith, own))
    (ap (use_meets a.interval (op_at l a.b) a.from a.to) (own_at own c.loop-u.u (omega arith) (omega arith)) ∙ sym c.if-use_meets.ensures))

pub returns : goal.returns
returns c =
    let own = own_uses _ _ _ _ c.requires.0 c.requires.1 c.first_use-first.ensures c.use_count.ensures in
    let a = c.args in
    let l = loop_of a.file.now in
    sym (uses_none a.interval c.requires.5 (op_at l a.a) (op_at l a.b) ((accepted_ok _ c.requires.0).op_ok a.a c.requires.1) a.from a.to
    (own_each own (use_meets a.interval (op_at l a.b) a.from a.to) (λ v high low. c.loop-u.invariant v (omega arith) low)))
