-- The entry of the operation, then that of each of its dependences, is the next one of its own.
use Rattle.std.proofs.Common.{◌≡◌, ◌+◌, ◌<◌, length, take, arith}
use Rattle.std.proofs.lemmas.Grind.{common_steps}
use Rattle.model.specs.File.{loop_of}
use Rattle.descent.specs.Links.{NextDep}
use Rattle.descent.specs.Span.{WindowIs}
use Rattle.descent.proofs.Spans.{window_first, window_next, window_end}
use Rattle.descent.proofs.Links.{to_next}
use Rattle.descent.proofs.window.window_of.Goals as goal

pub loop-e-init : goal.loop-e-init
loop-e-init c =
    let n : NextDep (loop_of c.args.file.now) c.args.op 0 c.from-e.result = rw c.from-e.ensures (c.requires.1.head c.args.op c.requires.2) in
    record {
      within = omega (arith, n.within, c.dep_count-m.ensures);
      own = λ l. n.is (omega (arith, c.dep_count-m.ensures));
      is = to_next _ _ c.args.op c.args.starts.now c.requires.3 _ _ _ 0 _ n (window_first _ _ _ _);
    }

pub loop-e-preserved : goal.loop-e-preserved
loop-e-preserved c =
    let n : NextDep (loop_of c.args.file.now) c.args.op (c.loop-e.e + 1) c.from-e-in-loop-e.result =
    rw (c.from-e-in-loop-e.ensures, ← c.loop-e.invariant.own c.loop-e-test.true) (c.requires.1.next c.loop-e.e (omega (arith, c.dep_count-m.ensures))) in
    record {
      within = omega (arith, n.within, c.dep_count-m.ensures);
      own = λ l. n.is (omega (arith, c.dep_count-m.ensures));
      is =
          to_next _ _ c.args.op c.args.starts.now c.requires.3 _ _ _ (c.loop-e.e + 1) _ n
          (window_next _ _ _ _ c.loop-e.e _ _ _ _ c.loop-e.invariant.is c.narrowed-w.ensures);
    }

-- after the loop, the window is that of all dependences
pub returns-else-is_empty : goal.returns-else-is_empty
returns-else-is_empty c =
    let n : c.loop-e.e ≡ length (loop_of c.args.file.now).deps = omega (arith, c.dep_count-m.ensures) in
    let w : WindowIs (loop_of c.args.file.now) c.args.interval (take c.args.op c.args.starts.now) c.args.horizon (length (loop_of c.args.file.now).deps) c.loop-e.w.from c.loop-e.w.to = rw n at c.loop-e.invariant.is in
    let k : c.loop-e.w.from < c.loop-e.w.to = grind (arith, common_steps, c.if-is_empty.ensures) in
    record { is = w; ordered = omega arith; near = window_end _ _ _ _ _ _ _ w k }
