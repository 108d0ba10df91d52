-- Check by check: a refusal is the whole table's, and else the rest decides.
use Rattle.std.proofs.Common.{◌∙◌, sym, ap, ◌++◌, arith}
use Rattle.refusals.specs.Told.{refusal_of}
use Rattle.refusals.proofs.Tables.{passed_on, rest_decides}
use Rattle.board.proofs.Refusals.{common, known, force_held, force_free, force_unmet, force_range, force_taken}
use Rattle.board.proofs.checks.forceable.Goals as goal

pub returns-in_err-known : goal.returns-in_err-known
returns-in_err-known c =
    let a = c.args in
    let f = a.file.now in
    passed_on
    (common f a.horizon a.op a.start a.starts.now)
    (force_held f a.interval a.op a.start ++ force_free f a.interval a.op a.start)
    c.known.ensures
    c.from_residual.result
    c.in_err-known.was
    c.from_residual.ensures.1

pub first_own_broken-requires : goal.first_own_broken-requires
first_own_broken-requires c =
    let a = c.args in
    let p = c.requires in
    let k = known a.file.now a.horizon a.op a.start a.starts.now c.known.ensures c.in_ok-known.was in
    (p.0, omega (arith, k.soon, p.1.far), p.1.short)

pub returns-in_err-unmet : goal.returns-in_err-unmet
returns-in_err-unmet c =
    let a = c.args in
    let f = a.file.now in
    let held = force_held f a.interval a.op a.start in
    let free = force_free f a.interval a.op a.start in
    passed_on
    held
    free
    (ap refusal_of c.unmet.ensures ∙ force_unmet f a.interval a.op a.start c.first_own_broken.result c.first_own_broken.ensures)
    c.from_residual-in_err-unmet.result
    c.in_err-unmet.was
    c.from_residual-in_err-unmet.ensures.1
    ∙ sym (rest_decides (common f a.horizon a.op a.start a.starts.now) (held ++ free) c.known.ensures c.in_ok-known.was)

pub first_use-requires : goal.first_use-requires
first_use-requires c =
    let a = c.args in
    (c.requires.0, (known a.file.now a.horizon a.op a.start a.starts.now c.known.ensures c.in_ok-known.was).inside)

pub own_place-requires : goal.own_place-requires
own_place-requires c =
    let a = c.args in
    let p = c.requires in
    (p.0, (known a.file.now a.horizon a.op a.start a.starts.now c.known.ensures c.in_ok-known.was).inside, p.1.some, p.1.short, c.first_use.ensures)

pub clash-requires : goal.clash-requires
clash-requires c =
    let a = c.args in
    let k = known a.file.now a.horizon a.op a.start a.starts.now c.known.ensures c.in_ok-known.was in
    force_range a.file.now a.interval a.op a.start c.requires.0 k.inside c.own_place.result c.own_place.ensures

pub returns : goal.returns
returns c =
    let a = c.args in
    let f = a.file.now in
    let held = force_held f a.interval a.op a.start in
    let free = force_free f a.interval a.op a.start in
    ap refusal_of c.clash.ensures
    ∙ force_taken f a.interval a.op a.start c.own_place.result c.own_place.ensures
    ∙ sym (rest_decides held free (ap refusal_of c.unmet.ensures ∙ force_unmet f a.interval a.op a.start c.first_own_broken.result c.first_own_broken.ensures) c.in_ok-unmet.was)
    ∙ sym (rest_decides (common f a.horizon a.op a.start a.starts.now) (held ++ free) c.known.ensures c.in_ok-known.was)
