-- Check by check: a refusal is the whole table's, and else the rest decides.
use Rattle.std.proofs.Common.{◌∙◌, sym, ap, ◌++◌, arith}
use Rattle.refusals.specs.Told.{refusal_of}
use Rattle.refusals.proofs.Tables.{passed_on, rest_decides}
use Rattle.board.proofs.Boards.{few_operations}
use Rattle.board.proofs.Refusals.{common, known, place_held, place_free, place_unmet, place_range, place_taken}
use Rattle.board.proofs.checks.placeable.Goals as goal

pub returns-in_err-known : goal.returns-in_err-known
returns-in_err-known c =
    let a = c.args in
    let f = a.file.now in
    let xs = a.starts.now in
    passed_on
    (common f a.horizon a.op a.start xs)
    (place_held f a.interval a.op a.start xs ++ place_free f a.interval a.op a.start xs)
    c.known.ensures
    c.from_residual.result
    c.in_err-known.was
    c.from_residual.ensures.1

pub first_broken-requires : goal.first_broken-requires
first_broken-requires c =
    let a = c.args in
    let b = c.requires in
    let k = known a.file.now a.horizon a.op a.start a.starts.now c.known.ensures c.in_ok-known.was in
    (b.accepted, omega (arith, k.soon, b.numbers.far), b.numbers.short, omega (arith, few_operations _ b.accepted, b.sane.whole))

pub returns-in_err-unmet : goal.returns-in_err-unmet
returns-in_err-unmet c =
    let a = c.args in
    let f = a.file.now in
    let xs = a.starts.now in
    let held = place_held f a.interval a.op a.start xs in
    let free = place_free f a.interval a.op a.start xs in
    passed_on
    held
    free
    (ap refusal_of c.unmet.ensures ∙ place_unmet c.requires a.op a.start c.first_broken.result c.first_broken.ensures)
    c.from_residual-in_err-unmet.result
    c.in_err-unmet.was
    c.from_residual-in_err-unmet.ensures.1
    ∙ sym (rest_decides (common f a.horizon a.op a.start xs) (held ++ free) c.known.ensures c.in_ok-known.was)

pub first_use-requires : goal.first_use-requires
first_use-requires c =
    let a = c.args in
    (c.requires.accepted, (known a.file.now a.horizon a.op a.start a.starts.now c.known.ensures c.in_ok-known.was).inside)

pub conflict-requires : goal.conflict-requires
conflict-requires c =
    let a = c.args in
    let b = c.requires in
    let k = known a.file.now a.horizon a.op a.start a.starts.now c.known.ensures c.in_ok-known.was in
    (b.accepted, k.inside, omega (arith, k.soon, b.numbers.far), b.numbers.some, b.numbers.short, b.held.long, c.first_use.ensures)

pub clash-requires : goal.clash-requires
clash-requires c =
    let a = c.args in
    let k = known a.file.now a.horizon a.op a.start a.starts.now c.known.ensures c.in_ok-known.was in
    place_range c.requires a.op a.start k.inside c.conflict.result c.conflict.ensures

pub returns : goal.returns
returns c =
    let a = c.args in
    let f = a.file.now in
    let xs = a.starts.now in
    let held = place_held f a.interval a.op a.start xs in
    let free = place_free f a.interval a.op a.start xs in
    let k = known f a.horizon a.op a.start xs c.known.ensures c.in_ok-known.was in
    ap refusal_of c.clash.ensures
    ∙ place_taken c.requires a.op a.start k.inside c.conflict.result c.conflict.ensures
    ∙ sym (rest_decides held free (ap refusal_of c.unmet.ensures ∙ place_unmet c.requires a.op a.start c.first_broken.result c.first_broken.ensures) c.in_ok-unmet.was)
    ∙ sym (rest_decides (common f a.horizon a.op a.start xs) (held ++ free) c.known.ensures c.in_ok-known.was)
