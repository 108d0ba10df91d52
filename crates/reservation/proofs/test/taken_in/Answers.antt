-- The uses are walked by their numbers among all uses: `own_first` and `own_none` say of the operation's own list what the walk found.
use Rattle.std.proofs.Common.{◌≡◌, ◌∙◌, sym, ap, suc, ◌+◌, ◌-◌, arith, below_more}
use Rattle.std.proofs.Math.Seq.{take_all}
use Rattle.std.proofs.lemmas.Bool.Decides.{nat_tests}
use Rattle.model.specs.Lists.{max_of}
use Rattle.model.specs.Loop.{op_at}
use Rattle.model.specs.File.{loop_of}
use Rattle.model.specs.Table.{row_base}
use Rattle.reservation.specs.Place.{met_by, met_in, cycles_of}
use Rattle.reservation.specs.declared.test.Cycle.TheVariants as cycle
use Rattle.reservation.proofs.TakenCells.{cycles_more}
use Rattle.reservation.proofs.UseNumbers.{own_uses, own_at, own_first, own_none}
use Rattle.reservation.proofs.test.taken_in.Goals as goal

pub loop-u-init : goal.loop-u-init
unfolding max_of
loop-u-init c =
    let e : c.args.first - c.args.first ≡ 0 = omega arith in
    record { longest = rw e; none_met = λ v high low. absurd (omega arith) }

pub returns-then-taken : goal.returns-then-taken
unfolding met_in
returns-then-taken c =
    let own = own_uses _ _ _ _ c.requires.0 c.requires.1 c.requires.4 c.use_count.ensures in
    let a = c.args in
    rw (own_first own (met_by row_base a.interval a.row a.k) c.loop-u.u (omega arith) (omega arith) c.loop-u.invariant.none_met (sym c.if-taken.ensures))
    (ap cycle.Taken c.slot.ensures)

pub loop-u-preserved : goal.loop-u-preserved
loop-u-preserved c = record {
  longest =
      let own = own_uses _ _ _ _ c.requires.0 c.requires.1 c.requires.4 c.use_count.ensures in
      let e : c.loop-u.u + 1 - c.args.first ≡ suc (c.loop-u.u - c.args.first) = omega arith in
      let us = (op_at (loop_of c.args.file.now) c.args.op).uses in
      rw (e, cycles_more us (c.loop-u.u - c.args.first) (omega (arith, own)), own_at own c.loop-u.u (omega arith) (omega arith)) (grind (arith, nat_tests, c.max-most.ensures, c.loop-u.invariant.longest));
  none_met = below_more _ _ c.loop-u.invariant.none_met (λ _. sym c.if-taken.ensures);
}

pub returns : goal.returns
unfolding met_in
returns c =
    let own = own_uses _ _ _ _ c.requires.0 c.requires.1 c.requires.4 c.use_count.ensures in
    let a = c.args in
    let us = (op_at (loop_of a.file.now) a.op).uses in
    rw (own_none own (met_by row_base a.interval a.row a.k) (λ v high low. c.loop-u.invariant.none_met v (omega arith) low))
    (ap cycle.Free (c.loop-u.invariant.longest ∙ ap cycles_of (take_all (c.loop-u.u - a.first) us (omega (arith, own)))))
