-- The use of the turn, by its number among all, is use `j` of the operation.
use Rattle.std.proofs.Common.{subst, ◌+◌, arith}
use borrow.Author.Count.{below_more}
use Rattle.model.specs.Loop.{Use, op_at, use_at}
use Rattle.model.specs.File.{loop_of}
use Rattle.reservation.proofs.UseNumbers.{UseHere, use_here}
use Rattle.descent.specs.Skip.{UseExcluded}
use Rattle.descent.proofs.Skips.{use_excludes}
use Rattle.descent.proofs.skip.excluded.Goals.{In-loop-j, After-use_excluded-k}
use Rattle.descent.proofs.skip.excluded.Goals as goal

here : (c : In-loop-j) → UseHere c.args.file.now c.args.op c.loop-j.j (c.args.first + c.loop-j.j)
here c = let p = c.requires.0 in use_here _ _ _ _ _ p.accepted p.inside p.first_is c.use_count-j-end.ensures (omega arith)

told : (c : After-use_excluded-k) → let a = c.args in UseExcluded a.interval a.rows.now a.start (use_at (op_at (loop_of a.file.now) a.op) c.loop-j.j) c.use_excluded-k.result
told c =
    let h = use_here _ _ _ _ _ c.requires.0.accepted c.requires.0.inside c.requires.0.first_is c.use_count-j-end.ensures (omega arith) in
    subst (λ (u : Use). UseExcluded c.args.interval c.args.rows.now c.args.start u c.use_excluded-k.result) h.is c.use_excluded-k.ensures

pub overflow_add-first : goal.overflow_add-first
overflow_add-first c = omega (arith, (here (goal.at.overflow_add-first c).In-loop-j).small)

pub use_excluded-k-requires : goal.use_excluded-k-requires
use_excluded-k-requires c =
    let p = c.requires.0 in (p.accepted, (here (goal.at.use_excluded-k-requires c).In-loop-j).inside, c.requires.1, p.some, p.short, p.long)

pub returns-then-k-gt0 : goal.returns-then-k-gt0
returns-then-k-gt0 c =
    use_excludes _ _ _ _ c.loop-j.j _ (omega (arith, c.use_count-j-end.ensures)) c.if-k-gt0.true (told (goal.at.returns-then-k-gt0 c).After-use_excluded-k)

pub loop-j-preserved : goal.loop-j-preserved
loop-j-preserved c =
    λ i l k. below_more _ c.loop-j.j (λ x m. c.loop-j.invariant x m k) ((told (goal.at.loop-j-preserved c).After-use_excluded-k).free (omega (arith, c.if-k-gt0.false)) k) i l
