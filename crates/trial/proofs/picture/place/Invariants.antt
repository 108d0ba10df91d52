-- The place that `picture::place` answers is among the cells that its loop has still to look at. Assumes nothing.
use Rattle.std.proofs.Common.{◌≡◌, ◌-◌}
use Rattle.trial.specs.Picture.{place_from}
use Rattle.trial.proofs.picture.place.Given as goal

abbrev pub invariant-loop-i : goal.invariant-loop-i
invariant-loop-i l = place_from l.fn.picture l.fn.d l.op l.s l.n l.own 0 48 ≡ place_from l.cells l.fn.d l.op l.s l.n l.own l.i (48 - l.i)
