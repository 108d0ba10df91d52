-- No such checkpoint; else the starts of the checkpoint, and the rows made theirs.
use Rattle.std.proofs.Common.{[]}
use Rattle.std.proofs.lemmas.List.{set-get_or}
use Rattle.board.proofs.Boards.{sane_more, board_far}
use Rattle.session.proofs.Steps.{no_mark, not_open, wanted_sane, stepped_rollback}
use Rattle.session.proofs.Session.rollback.Goals.{then-m-eq0-via-then-m-eq0, then-m-eq0-via-else-m-eq0+then-self-m}
use Rattle.session.proofs.Session.rollback.Goals as goal

pub returns-then-m-eq0 : goal.returns-then-m-eq0
returns-then-m-eq0 c =
    let s = c.args.self.now in
    elim c.then-m-eq0.branch [
      | then-m-eq0-via-then-m-eq0 w ↦ no_mark s c.args.rows.now c.requires c.args.m w.if-m-eq0.true
      | then-m-eq0-via-else-m-eq0+then-self-m w ↦ not_open s c.args.rows.now c.requires c.args.m w.if-m-eq0.false w.if-self-m.true
    ]

pub restore-requires : goal.restore-requires
restore-requires c =
    let v = c.requires in (
      board_far v.board,
      sane_more v.board.numbers.far (wanted_sane c.args.self.now c.args.rows.now v c.args.m c.if-m-eq0.false c.if-self-m.false (record { starts = []; free = [] })),
    )

pub returns : goal.returns
returns c =
    rw (c.restore.ensures.starts_are, set-get_or)
    (stepped_rollback c.args.self.now c.args.rows.now c.requires c.args.m c.if-m-eq0.false c.if-self-m.false (record { starts = []; free = [] }) c.restore.ensures)
