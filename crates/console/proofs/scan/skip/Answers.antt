-- The spaces that are passed are those that the rest of the text begins with (`prefix_blanks`). Assumes nothing.
use Rattle.std.proofs.Common.{rules, tests, ◌≡◌, ◌+◌, ◌∙◌, ap, ℕ, ◌-◌, drop, nat_eq, length, take}
use Rattle.std.specs.List.{prefix_len}
use Rattle.std.proofs.lemmas.List.{drop_min, take_rest}
use Rattle.std.proofs.lemmas.List.Folds.{length-prefix_len}
use Rattle.std.proofs.lemmas.Iterator.{YieldsList-from_slice}
use Rattle.std.proofs.lemmas.Iterator.Consumers.{count_from_yields_List, YieldsList-at}
use Rattle.std.proofs.lemmas.Iterator.Search.{YieldsList-from_take_while}
use Rattle.console.specs.Scan.{begin, blanks}
use Rattle.console.proofs.Scans.{prefix_blanks}
use Rattle.console.proofs.scan.skip.Goals as goal

pub returns : goal.returns
unfolding begin
returns c =
    let text = c.args.text.now in
    let m = c.min.result in
    let rest = take (length text - m) (drop m text) in
    let passed : c.count.result ≡ length (take (prefix_len (λ b. nat_eq b 32) rest) rest) =
    count_from_yields_List
    c.take_while.result
    c.count.result
    c.count.ensures.ran
    (YieldsList-from_take_while
    _
    (λ b. nat_eq b 32)
    (YieldsList-at c.take_while.ensures.source (YieldsList-from_slice rest c.iter.ensures.rest))
    c.take_while.ensures.closure
    c.take_while.ensures.done
    (λ x b q k. search (rules, tests)))
    in
    ap (λ (n : ℕ). c.args.at + n) (passed ∙ length-prefix_len (λ b. nat_eq b 32) rest ∙ prefix_blanks rest
    ∙ ap blanks (take_rest text m ∙ ap (λ (n : ℕ). drop n text) c.min.ensures ∙ drop_min c.args.at text))
