-- What `find` says of the starts.
use Rattle.std.proofs.Common.{◌≡◌, ◌+◌, min, ℕ, rules, arith}
use Rattle.std.proofs.lemmas.Iterator.{first_from_Range}
use Rattle.model.specs.Loop.{op_at}
use Rattle.model.specs.File.{loop_of}
use Rattle.iterative.specs.Timing.{Suits}
use Rattle.iterative.proofs.timing.first_free.Goals as goal

pub returns : goal.returns
returns c =
    let a = c.args in
    let may = λ (t : ℕ). Suits (op_at (loop_of a.file.now) a.op) a.interval a.width a.rows.now t in
    let end : c.min-end.result ≡ min a.horizon (a.from + a.interval) = omega arith in
    rw (← end) (first_from_Range _ _ _ _ may (λ t. may t → ⊥) c.find.ensures.ran (λ x q k. search rules) (λ x q k. (search rules, search rules)))
