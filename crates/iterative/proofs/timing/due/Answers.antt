-- The source of the dependence is an operation, so it has a place among the starts.
use Rattle.std.proofs.Common.{◌≡◌, sym, ◌∙◌, ℕ, ◌<◌, List, length, get_or, arith}
use Rattle.model.proofs.Firsts.{get_or_within}
use Rattle.board.proofs.Boards.{sane_near}
use Rattle.iterative.proofs.Timings.{ends_inside, due_placed}
use Rattle.iterative.proofs.timing.due.Goals as goal

-- the start that is read at it
start_is : (xs : List ℕ) (s o r : ℕ) → s ≡ o → o < 64 → length xs ≡ 64 → r ≡ get_or xs s 0 → get_or xs o 65535 ≡ r
start_is xs s o r e l w q = get_or_within xs o 65535 0 (omega arith) ∙ sym (rw e at q)

pub earliest-requires : goal.earliest-requires
earliest-requires c =
    let is = start_is _ _ _ _ c.source-from.ensures (ends_inside c.args.file.now c.args.e c.requires.0 c.requires.1).0 c.requires.3.whole c.from.ensures in
    (c.requires.0, c.requires.1, rw is at (sane_near c.requires.3 _ (λ q. c.if-start.false (sym c.from.ensures ∙ sym is ∙ q))), c.requires.2)

pub returns : goal.returns
returns c =
    let is = start_is _ _ _ _ c.source-from.ensures (ends_inside c.args.file.now c.args.e c.requires.0 c.requires.1).0 c.requires.3.whole c.from.ensures in
    due_placed (sym c.target.ensures ∙ c.if-target-op.false) (λ q. c.if-from-op.false (c.source-from.ensures ∙ q)) is (λ q. c.if-start.false (sym c.from.ensures ∙ q)) c.earliest.ensures
