-- Each case of the two ends is one law of `Spans`.
use Rattle.std.proofs.Common.{arith}
use Rattle.model.specs.File.{loop_of}
use Rattle.descent.proofs.Spans.{Narrowing, elsewhere, self_broken, self_kept, source_late, target_early}
use Rattle.descent.proofs.window.narrowed.Goals.{After-target-to}
use Rattle.descent.proofs.window.narrowed.Goals as goal

-- what the laws ask for: the starts before op, and the ends of the dependence
ends : (c : After-target-to)
    → let a = c.args in Narrowing (loop_of a.file.now) a.interval a.e a.op a.starts.now a.w.from a.w.to c.source-from.result c.target-to.result
ends c = record { room = c.requires.3; source = c.source-from.ensures; target = c.target-to.ensures }

pub returns-then-too_late-eq0 : goal.returns-then-too_late-eq0
returns-then-too_late-eq0 c =
    self_broken (ends (goal.at.returns-then-too_late-eq0 c).After-target-to) _ c.if-from-op.true c.if-to-op.true c.too_late.ensures c.if-too_late-eq0.true

pub returns-else-too_late-eq0 : goal.returns-else-too_late-eq0
returns-else-too_late-eq0 c =
    self_kept (ends (goal.at.returns-else-too_late-eq0 c).After-target-to) _ c.if-from-op.true c.if-to-op.true c.too_late.ensures c.if-too_late-eq0.false

pub returns-then-to-op-2 : goal.returns-then-to-op-2
returns-then-to-op-2 c =
    rw c.min.ensures
    (source_late (ends (goal.at.returns-then-to-op-2 c).After-target-to) _ c.if-from-op-2.true c.if-to-op-2.true (rw c.from.ensures at c.too_late-end.ensures))

pub returns-then-from-op-3 : goal.returns-then-from-op-3
returns-then-from-op-3 c =
    rw c.max.ensures
    (target_early (ends (goal.at.returns-then-from-op-3 c).After-target-to) _ c.if-from-op-3.true c.if-to-op-3.true (rw c.from-then-from-op-3.ensures at c.earliest-begin.ensures))

pub returns-else-to-op-3 : goal.returns-else-to-op-3
returns-else-to-op-3 c = elsewhere (ends (goal.at.returns-else-to-op-3 c).After-target-to) (λ p q. omega arith) (λ p. omega arith) (λ p. omega arith)
