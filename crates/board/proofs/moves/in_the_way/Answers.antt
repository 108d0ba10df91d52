-- One law of `Obstacles` for each return: a placed operation that is not `op` is in the way where its mark says so, or where the cells do.
use Rattle.std.proofs.Common.{◌∙◌, sym, get_or, eq-eqb}
use Rattle.board.proofs.Obstacles.{known_blank, known_marked, known_near, known_free, known_clash}
use Rattle.board.proofs.moves.in_the_way.Goals as goal

pub overlap-requires : goal.overlap-requires
overlap-requires c =
    let k = c.requires in
    (k.accepted, k.inside, k.inside_p, k.near, known_near k c.if-other.true, k.numbers.some, k.numbers.short)

pub returns-then-hits-p : goal.returns-then-hits-p
returns-then-hits-p c = c.if-hits-p.true ∙ sym (known_marked c.requires c.if-other.true c.if-hits-p.true)

pub returns-then-not-free : goal.returns-then-not-free
returns-then-not-free c = c.overlap.ensures ∙ sym (known_clash c.requires c.if-other.true c.if-hits-p.false)

pub returns-else-not-free : goal.returns-else-not-free
returns-else-not-free c = rw c.if-not-free.false (sym (known_free c.requires c.if-other.true c.if-hits-p.false c.if-not-free.false))

pub returns-else-other : goal.returns-else-other
returns-else-other c = rw (eq-eqb (get_or c.args.starts.now c.args.p 0) 65535 c.if-other.false) (sym (known_blank c.requires c.if-other.false))
