-- A turn: use number u of all is one of the operation's, and changes the number of its slot (`turn_room`, `turn_next`).
use Rattle.std.proofs.Common.{◌∙◌, ap, ◌-◌, ◌≡◌, arith}
use Rattle.model.specs.Loop.{op_at}
use Rattle.model.specs.File.{loop_of}
use Rattle.reservation.proofs.UseNumbers.{own_uses}
use Rattle.free_rows.proofs.Numbers.{moved_as, moved_none, uses_on, uses_none, uses_all, room_use, moved_use, turn_ok, turn_room, turn_next}
use Rattle.free_rows.proofs.count.Goals as goal

pub loop-u-init : goal.loop-u-init
loop-u-init c =
    let e : c.first_use-first.result - c.first_use-first.result ≡ 0 = omega arith in
    rw e (moved_none c.requires.2.whole (uses_none (op_at (loop_of c.args.file.now) c.args.op)))

pub moved-requires : goal.moved-requires
moved-requires c =
    let own = own_uses _ _ _ _ c.requires.0 c.requires.1 c.first_use-first.ensures c.use_count.ensures in
    rw (c.slot.ensures, c.duration.ensures) (room_use (turn_ok _ _ _ _ c.loop-u.u c.requires.0 c.requires.1 c.first_use-first.ensures c.use_count.ensures (omega arith)) (turn_room own c.loop-u.u (omega arith) (omega arith) c.loop-u.invariant c.requires.2))

pub loop-u-preserved : goal.loop-u-preserved
loop-u-preserved c =
    let own = own_uses _ _ _ _ c.requires.0 c.requires.1 c.first_use-first.ensures c.use_count.ensures in
    rw c.slot.ensures
    (turn_next own c.loop-u.u (omega arith) (omega arith) c.loop-u.invariant
    (moved_use c.loop-u.free c.moved.result (turn_ok _ _ _ _ c.loop-u.u c.requires.0 c.requires.1 c.first_use-first.ensures c.use_count.ensures (omega arith)) c.loop-u.invariant.whole (rw (c.slot.ensures, c.duration.ensures) at c.moved.ensures)))

pub returns : goal.returns
returns c =
    let own = own_uses _ _ _ _ c.requires.0 c.requires.1 c.first_use-first.ensures c.use_count.ensures in
    let p = op_at (loop_of c.args.file.now) c.args.op in
    moved_as (λ s. ap (λ n. uses_on p n s) (omega (arith, own.count)) ∙ uses_all p s) c.loop-u.invariant
