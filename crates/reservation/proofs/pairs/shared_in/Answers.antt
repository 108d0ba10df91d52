-- The uses are walked by their numbers among all uses: `own_first` and `own_none` say of the operation's own list what the walk found.
use Rattle.std.proofs.Common.{sym, ap, ℕ, false, arith}
use Rattle.std.proofs.Math.Option.{some}
use Rattle.model.specs.Loop.{op_at}
use Rattle.model.specs.File.{loop_of}
use Rattle.model.specs.Counts.{single, used_by, taken_at}
use Rattle.reservation.proofs.UseNumbers.{own_uses, own_first, own_none}
use Rattle.reservation.proofs.pairs.shared_in.Goals as goal

pub returns-then-shares : goal.returns-then-shares
returns-then-shares c =
    let own = own_uses _ _ _ _ c.requires.0 c.requires.2 c.first_use-first.ensures c.use_count.ensures in
    let a = c.args in
    let test = taken_at single (used_by a.interval (op_at (loop_of a.file.now) a.a) a.from) false a.interval a.to a.k in
    rw (own_first own test c.loop-u.u (omega arith) (omega arith) c.loop-u.invariant (sym c.if-shares.ensures)) (ap (λ (x : ℕ). some (a.k, x)) c.slot.ensures)

pub returns : goal.returns
returns c =
    let own = own_uses _ _ _ _ c.requires.0 c.requires.2 c.first_use-first.ensures c.use_count.ensures in
    let a = c.args in
    let test = taken_at single (used_by a.interval (op_at (loop_of a.file.now) a.a) a.from) false a.interval a.to a.k in
    rw (own_none own test (λ v high low. c.loop-u.invariant v (omega arith) low))
