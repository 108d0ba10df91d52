-- Each turn makes the entries of one dependence.
use Rattle.std.proofs.Common.{refl, ◌-◌, arith}
use Rattle.model.specs.Loop.{LoopOk}
use Rattle.model.specs.File.{loop_of}
use Rattle.model.proofs.File.{accepted_ok}
use Rattle.descent.proofs.Links.{link_none, link_more}
use Rattle.descent.proofs.window.link.Goals as goal

pub overflow_cast-links : goal.overflow_cast-links
overflow_cast-links c = let k : LoopOk (loop_of c.args.file.now) = accepted_ok _ c.requires in omega (arith, k.sparse, c.dep_count-m.ensures)

pub loop-e-init : goal.loop-e-init
loop-e-init c = link_none _ (accepted_ok _ c.requires).few _ c.dep_count-m.result c.dep_count-m.ensures refl

pub loop-e-preserved : goal.loop-e-preserved
loop-e-preserved c =
    let k : LoopOk (loop_of c.args.file.now) = accepted_ok _ c.requires in
    let d = k.dep_ok (c.loop-e.e - 1) (omega (arith, c.loop-e.invariant.within)) in
    link_more _ k.few c.loop-e.links c.loop-e.e (c.loop-e.e - 1) c.later_end-o.result c.loop-e.invariant (omega arith) c.later_end-o.ensures
    (omega (arith, c.later_end-o.ensures, d.source, d.target)) k.sparse
