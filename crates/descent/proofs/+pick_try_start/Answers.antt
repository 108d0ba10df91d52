-- `descent::pick` and `descent::try_start`, which call each other, meet their contracts, by the turns of the search in `Steps`. Assumes nothing.
use Rattle.std.proofs.Common.{ℕ, refl, arith}
use Rattle.std.proofs.Math.Nat.{add-zero}
use Rattle.descent.proofs.Steps.{AfterProbe, leaf, enters, moves, arrives, breaks, may_try, turned, leaves, breaks_above, leaves_empty, breaks_empty, next_use, next_few, unfit, can_reserve, deeper, can_release, given_back, back}
use Rattle.descent.proofs.+pick_try_start.Goals.{pick-After-try_start}
use Rattle.descent.proofs.+pick_try_start.Goals as goal

-- ---- pick

pub pick-loop-s-init : goal.pick-loop-s-init
pick-loop-s-init t c = let p = c.requires.0 in enters p.ready p.window p.inside c.next_free-s.ensures

pub pick-returns-then-purse-passed-clause-done : goal.pick-returns-then-purse-passed-clause-done
pick-returns-then-purse-passed-clause-done t c =
    let p = c.requires.0 in breaks p.ready p.window p.inside c.loop-s.invariant c.loop-s-test.true c.if-purse-passed.true

pub pick-try_start-requires : goal.pick-try_start-requires
pick-try_start-requires t c =
    let p = c.requires.0 in
    let at = arrives p.ready p.window p.inside c.loop-s.invariant (omega (arith, c.if-purse-passed.false)) in
    (omega (arith, c.decreases, c.loop-s.invariant.turn.paid, c.if-purse-passed.false), (may_try p.ready at p.window p.inside c.loop-s.invariant.begun c.loop-s-test.true p.first_is, c.requires.1))

-- after the call
there : (t : ℕ) (c : pick-After-try_start t)
    → let a = c.args in
    AfterProbe a.file.now a.starts.now a.rows.now a.op a.n a.interval a.horizon a.left c.try_start.new.starts c.try_start.new.rows c.try_start.result c.loop-s.s
there t c =
    let p = c.requires.0 in
    let at = arrives p.ready p.window p.inside c.loop-s.invariant (omega (arith, c.if-purse-passed.false)) in
    turned p.ready at (omega (arith, c.loop-s-test.true, p.window.near)) (λ z. omega (arith, c.if-purse-passed.false)) c.try_start.ensures.done c.try_start.ensures.same

pub pick-returns-in_default-clause-done : goal.pick-returns-in_default-clause-done
pick-returns-in_default-clause-done t c = (there t (goal.at.pick-returns-in_default-clause-done t c).After-try_start).if_over c.in_default.not-Nothing

pub pick-loop-s-preserved : goal.pick-loop-s-preserved
pick-loop-s-preserved t c =
    let p = c.requires.0 in
    moves p.ready p.window p.inside ((there t (goal.at.pick-loop-s-preserved t c).After-try_start).if_none _ c.in-Nothing.is) c.next_free-s-in-loop-s.ensures (omega (arith, c.loop-s.invariant.begun))

pub pick-returns-then-purse-above-clause-done : goal.pick-returns-then-purse-above-clause-done
pick-returns-then-purse-above-clause-done t c =
    let p = c.requires.0 in breaks_above p.ready p.window p.inside c.loop-s.invariant c.loop-s-test.false c.if-purse-above.true

pub pick-returns-else-purse-above-clause-done : goal.pick-returns-else-purse-above-clause-done
pick-returns-else-purse-above-clause-done t c =
    let p = c.requires.0 in leaves p.ready p.window p.inside c.loop-s.invariant c.loop-s-test.false c.if-purse-above.false

-- ---- try_start

pub try_start-returns-then-excluded-gt0-clause-done : goal.try_start-returns-then-excluded-gt0-clause-done
try_start-returns-then-excluded-gt0-clause-done t c =
    unfit c.requires.0 (λ e. c.excluded.ensures.taken 0 c.if-excluded-gt0.true (rw (add-zero c.args.s) e))

pub try_start-returns-then-op-n-clause-done : goal.try_start-returns-then-op-n-clause-done
try_start-returns-then-op-n-clause-done t c =
    let p = c.requires.0 in
    let free = c.excluded.ensures.free (omega (arith, c.if-excluded-gt0.false)) in
    back p c.args.left (leaf (deeper p free refl) c.if-op-n.true)

pub try_start-returns-then-left-horizon-clause-done : goal.try_start-returns-then-left-horizon-clause-done
try_start-returns-then-left-horizon-clause-done t c =
    let p = c.requires.0 in
    let free = c.excluded.ensures.free (omega (arith, c.if-excluded-gt0.false)) in
    back p c.args.left (breaks_empty (deeper p free refl) c.window_of-w.ensures (omega (arith, p.inside, c.if-op-n.false)) (c.if-is_empty.ensures.0 refl) c.if-left-horizon.true)

pub try_start-returns-else-left-horizon-clause-done : goal.try_start-returns-else-left-horizon-clause-done
try_start-returns-else-left-horizon-clause-done t c =
    let p = c.requires.0 in
    let free = c.excluded.ensures.free (omega (arith, c.if-excluded-gt0.false)) in
    back p c.args.left (leaves_empty (deeper p free refl) c.window_of-w.ensures (omega (arith, p.inside, c.if-op-n.false)) (c.if-is_empty.ensures.0 refl) c.if-left-horizon.false)

pub try_start-reserve-requires : goal.try_start-reserve-requires
try_start-reserve-requires t c =
    let p = c.requires.0 in
    let free = c.excluded.ensures.free (omega (arith, c.if-excluded-gt0.false)) in
    (p.ready.accepted, omega (arith, p.inside, p.ready.is_size), can_reserve p free, p.first_is)

pub try_start-overflow_add-next : goal.try_start-overflow_add-next
try_start-overflow_add-next t c = omega (arith, next_few c.requires.0 c.use_count.ensures)

pub try_start-pick-f-requires : goal.try_start-pick-f-requires
try_start-pick-f-requires t c =
    let p = c.requires.0 in
    let free = c.excluded.ensures.free (omega (arith, c.if-excluded-gt0.false)) in
    (omega (arith, c.decreases), (record { ready = deeper p free c.reserve.ensures; inside = omega (arith, p.inside, c.if-op-n.false); first_is = next_use p c.use_count.ensures; window = c.window_of-w.ensures }, c.requires.1))

pub try_start-release-requires : goal.try_start-release-requires
try_start-release-requires t c =
    let p = c.requires.0 in
    let free = c.excluded.ensures.free (omega (arith, c.if-excluded-gt0.false)) in
    (p.ready.accepted, omega (arith, p.inside, p.ready.is_size), can_release p free c.reserve.ensures c.pick-f.ensures.same, p.first_is)

pub try_start-returns-clause-done : goal.try_start-returns-clause-done
try_start-returns-clause-done t c = back c.requires.0 c.args.left c.pick-f.ensures.done

-- the rows as they were
pub try_start-returns-clause-same : goal.try_start-returns-clause-same
try_start-returns-clause-same t c =
    let p = c.requires.0 in
    let free = c.excluded.ensures.free (omega (arith, c.if-excluded-gt0.false)) in
    given_back p free c.reserve.ensures c.pick-f.ensures.same c.release.ensures
