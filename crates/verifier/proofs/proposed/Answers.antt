-- Check by check: a refusal is the whole table's, and else the rest decides.
use Rattle.std.proofs.Common.{◌≡◌, ◌∙◌, ◌∷◌, [], ℕ, List, length, ap, sym}
use Rattle.model.specs.Refusals.{Check, range, lent, first_refusal}
use Rattle.model.specs.File.{file_checks, loop_of}
use Rattle.model.specs.Verifier.{late_start, proposal_checks, proposed_checks}
use Rattle.model.proofs.Checks.{refusal_append}
use Rattle.refusals.proofs.Tables.{passed_on, rest_decides, lent_fine}
use Rattle.loop_file.proofs.Answers.{IsAccepted, read_first, read_accepted}
use Rattle.verifier.proofs.proposed.Goals as goal

-- what is left of the table of n operations behind the interval, and behind the length of the list
abbrev by_starts : ℕ → List ℕ → List Check
by_starts n starts = late_start starts n ∷ []

abbrev by_list : ℕ → List ℕ → List Check
by_list n starts = lent n (length starts) ∷ by_starts n starts

-- the table of an accepted file
whole : (f : List ℕ) (interval : ℕ) (starts : List ℕ) {n uses deps : ℕ} → IsAccepted f n uses deps
    → first_refusal (range 1 4096 interval ∷ by_list n starts) ≡ first_refusal (proposed_checks f interval starts)
unfolding proposed_checks proposal_checks
whole f interval starts k = ap (λ (n : ℕ). first_refusal (range 1 4096 interval ∷ by_list n starts)) k.ops_are ∙ sym (refusal_append (file_checks f) (proposal_checks (loop_of f) interval starts) k.file)

pub returns-in_err-counts : goal.returns-in_err-counts
unfolding proposed_checks
returns-in_err-counts c =
    let a = c.args in
    passed_on _ (proposal_checks (loop_of a.file.now) a.interval a.starts.now) (read_first _ _ c.read.ensures) _ c.in_err-counts.was c.from_residual.ensures.1

pub returns-in_err-range : goal.returns-in_err-range
returns-in_err-range c =
    let n = c.in_ok-counts.counts.operations in
    passed_on _ (by_list n c.args.starts.now) c.range.ensures _ c.in_err-range.was c.from_residual-in_err-range.ensures.1
    ∙ whole _ _ _ (read_accepted _ _ c.in_ok-counts.ensures)

pub returns-in_err-lent : goal.returns-in_err-lent
returns-in_err-lent c =
    let n = c.in_ok-counts.counts.operations in
    passed_on _ (by_starts n c.args.starts.now) c.lent.ensures _ c.in_err-lent.was c.from_residual-in_err-lent.ensures.1
    ∙ sym (rest_decides _ (by_list n c.args.starts.now) c.range.ensures c.in_ok-range.was)
    ∙ whole _ _ _ (read_accepted _ _ c.in_ok-counts.ensures)

pub first_late-requires : goal.first_late-requires
first_late-requires c = lent_fine _ _ c.lent.ensures c.in_ok-lent.was

pub returns : goal.returns
returns c =
    let n = c.in_ok-counts.counts.operations in
    c.first_late.ensures
    ∙ sym (rest_decides _ (by_starts n c.args.starts.now) c.lent.ensures c.in_ok-lent.was)
    ∙ sym (rest_decides _ (by_list n c.args.starts.now) c.range.ensures c.in_ok-range.was)
    ∙ whole _ _ _ (read_accepted _ _ c.in_ok-counts.ensures)
