-- The window is that of the dependences below `e`, which is the number of all or the next one of the operation's own.
use Rattle.std.proofs.Common.{◌≡◌, ◌-◌, ◌≤◌, ◌<◌, take}
use Rattle.model.specs.File.{loop_of}
use Rattle.descent.specs.Links.{later_end}
use Rattle.descent.specs.Span.{WindowIs}
use Rattle.descent.proofs.window.window_of.Given as goal

abbrev pub invariant-loop-e : goal.invariant-loop-e
invariant-loop-e l = record {
  within : l.e ≤ l.m;
  own : l.e < l.m → later_end (loop_of l.file) l.e ≡ l.op;
  is : WindowIs (loop_of l.file) l.interval (take l.op l.starts) l.horizon l.e l.w.from l.w.to;
}

abbrev pub decreases-loop-e : goal.decreases-loop-e
decreases-loop-e l = l.m - l.e
