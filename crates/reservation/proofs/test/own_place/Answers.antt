-- Without rows what is taken is the operation's own (`own_same`), and before cycle `interval` that is nothing.
use Rattle.std.proofs.Common.{◌∙◌, sym, ap, [], arith}
use Rattle.model.specs.Loop.{op_at}
use Rattle.model.specs.File.{loop_of}
use Rattle.model.specs.Table.{row_base}
use Rattle.reservation.specs.Place.{place_is}
use Rattle.reservation.proofs.TakenCells.{cycles_few, before_itself, place_free, place_taken}
use Rattle.reservation.proofs.Fits.{own_same}
use Rattle.reservation.proofs.test.own_place.Goals as goal

pub loop-k-init : goal.loop-k-init
loop-k-init c = record {
  few = omega arith;
  enough = cycles_few _ c.args.op c.requires.0 c.requires.1;
  none_met = λ i l. before_itself row_base c.args.interval i (op_at (loop_of c.args.file.now) c.args.op).uses l;
}

pub returns-in-Taken : goal.returns-in-Taken
returns-in-Taken c = λ s.
    place_taken _ _ [] 0 _ c.loop-k.k _ _ (omega arith) c.loop-k.invariant.none_met c.in-Taken.ensures
    ∙ sym (ap place_is (own_same row_base c.args.interval _ c.requires.2 s))

pub returns : goal.returns
returns c = λ s.
    place_free _ _ [] 0 _ c.loop-k.k c.loop-k.invariant.none_met (omega arith) ∙ sym (ap place_is (own_same row_base c.args.interval _ c.requires.2 s))
