-- Check by check: a refusal is the whole table's, and else the rest decides.
use Rattle.std.proofs.Common.{List, [], ◌∷◌, ℕ, sym, ◌∙◌}
use Rattle.model.specs.Refusals.{Check, range, lent}
use Rattle.model.specs.File.{file_checks}
use Rattle.model.specs.Session.{open_checks}
use Rattle.refusals.proofs.Tables.{passed_on, rest_decides}
use Rattle.loop_file.proofs.Answers.{read_first}
use Rattle.session.proofs.checks.openable.Goals as goal

-- the table after the file's checks, and what is left of it after the interval
module _ (interval horizon rows : ℕ) where
  abbrev by_horizon : List Check
  by_horizon = range 2 4096 horizon ∷ lent interval rows ∷ []

  abbrev by_interval : List Check
  by_interval = range 1 4096 interval ∷ by_horizon

pub returns-in_err-read : goal.returns-in_err-read
unfolding open_checks
returns-in_err-read c =
    let a = c.args in
    passed_on (file_checks a.file.now) (by_interval a.interval a.horizon a.rows) (read_first _ _ c.read.ensures) c.from_residual.result c.in_err-read.was c.from_residual.ensures.1

pub returns-in_err-range : goal.returns-in_err-range
unfolding open_checks
returns-in_err-range c =
    let a = c.args in
    passed_on (range 1 4096 a.interval ∷ []) (by_horizon a.interval a.horizon a.rows) c.range.ensures c.from_residual-in_err-range.result c.in_err-range.was c.from_residual-in_err-range.ensures.1
    ∙ sym (rest_decides (file_checks a.file.now) (by_interval a.interval a.horizon a.rows) (read_first _ _ c.read.ensures) c.in_ok-read.was)

pub returns-in_err-range-2 : goal.returns-in_err-range-2
unfolding open_checks
returns-in_err-range-2 c =
    let a = c.args in
    passed_on (range 2 4096 a.horizon ∷ []) (lent a.interval a.rows ∷ []) c.range-2.ensures c.from_residual-in_err-range-2.result c.in_err-range-2.was c.from_residual-in_err-range-2.ensures.1
    ∙ sym (rest_decides (range 1 4096 a.interval ∷ []) (by_horizon a.interval a.horizon a.rows) c.range.ensures c.in_ok-range.was)
    ∙ sym (rest_decides (file_checks a.file.now) (by_interval a.interval a.horizon a.rows) (read_first _ _ c.read.ensures) c.in_ok-read.was)

pub returns : goal.returns
unfolding open_checks
returns c =
    let a = c.args in
    c.lent.ensures
    ∙ sym (rest_decides (range 2 4096 a.horizon ∷ []) (lent a.interval a.rows ∷ []) c.range-2.ensures c.in_ok-range-2.was)
    ∙ sym (rest_decides (range 1 4096 a.interval ∷ []) (by_horizon a.interval a.horizon a.rows) c.range.ensures c.in_ok-range.was)
    ∙ sym (rest_decides (file_checks a.file.now) (by_interval a.interval a.horizon a.rows) (read_first _ _ c.read.ensures) c.in_ok-read.was)
