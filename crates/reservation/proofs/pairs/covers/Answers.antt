-- The uses are walked by their numbers among all uses; one that passes is enough (`pass_covers`), and where none does the cell is not covered (`none_covers`).
use Rattle.std.proofs.Common.{◌∙◌, sym, ap, ◌-◌, get_or, arith}
use Rattle.model.specs.Loop.{no_use, all_uses, op_at}
use Rattle.model.specs.File.{loop_of}
use Rattle.model.proofs.File.{accepted_ok}
use Rattle.reservation.proofs.Overlaps.{use_pass, pass_on, pass_covers, none_covers}
use Rattle.reservation.proofs.UseNumbers.{own_uses, own_at, own_each}
use Rattle.reservation.proofs.pairs.covers.Goals as goal

pub returns-then-row-interval : goal.returns-then-row-interval
returns-then-row-interval c =
    let own = own_uses _ _ _ _ c.requires.0 c.requires.1 c.first_use-first.ensures c.use_count.ensures in
    let a = c.args in
    let l = loop_of a.file.now in
    let h = pass_on a.interval a.start a.slot_ a.row (get_or (all_uses l) c.loop-u.u no_use) (sym c.slot.ensures ∙ c.if-slot-slot_.true) (rw (c.offset.ensures, c.duration.ensures) at c.if-row-interval.true) in
    sym (pass_covers a.interval (omega arith) (op_at l a.op) ((accepted_ok _ c.requires.0).op_ok a.op c.requires.1) a.start a.slot_ a.row c.requires.3
    (c.loop-u.u - c.first_use-first.result) (omega (arith, own)) (ap (use_pass a.interval a.start a.slot_ a.row) (own_at own c.loop-u.u (omega arith) (omega arith)) ∙ h))

pub returns : goal.returns
returns c =
    let own = own_uses _ _ _ _ c.requires.0 c.requires.1 c.first_use-first.ensures c.use_count.ensures in
    let a = c.args in
    let l = loop_of a.file.now in
    sym (none_covers a.interval (omega arith) (op_at l a.op) ((accepted_ok _ c.requires.0).op_ok a.op c.requires.1) a.start a.slot_ a.row c.requires.3
    (own_each own (use_pass a.interval a.start a.slot_ a.row) (λ v high low. c.loop-u.invariant v (omega arith) low)))
