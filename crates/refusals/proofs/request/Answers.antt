-- Check by check: a refusal is the whole table's, and else the rest decides.
use mathlib.Core.Path.{◌≡◌, sym, ◌∙◌}
use mathlib.Core.List.{List, [], ◌∷◌, ◌++◌}
use Prim.Native.Nat.{ℕ}
use Rattle.model.specs.Refusals.{Check, range, lent, first_refusal}
use Rattle.model.specs.Loop.{Loop, size}
use Rattle.model.specs.Search.{request_checks, room_checks}
use Rattle.refusals.proofs.Tables.{passed_on, rest_decides}
use Rattle.refusals.proofs.request.Goals as goal

-- the table, for a loop of n operations, and what is left of it after each check
module _ (n cap horizon budget list rows : ℕ) where
  abbrev by_list : List Check
  by_list = lent n list ∷ lent 4096 rows ∷ []

  abbrev by_budget : List Check
  by_budget = range 3 1000000 budget ∷ by_list

  abbrev by_horizon : List Check
  by_horizon = range 2 4096 horizon ∷ by_budget

  abbrev by_cap : List Check
  by_cap = range 1 4096 cap ∷ by_horizon

  -- it is the model's
  whole : (l : Loop) → n ≡ size l → first_refusal by_cap ≡ first_refusal (request_checks (record { cap = cap; horizon = horizon; budget = budget }) ++ room_checks l list rows)
  unfolding request_checks room_checks
  whole l e = rw e

pub returns-in_err-range : goal.returns-in_err-range
returns-in_err-range c l e =
    let a = c.args in
    passed_on (range 1 4096 a.cap ∷ []) (by_horizon a.n a.cap a.horizon a.budget a.list a.rows) c.range.ensures c.from_residual.result c.in_err-range.was c.from_residual.ensures.1
    ∙ whole a.n a.cap a.horizon a.budget a.list a.rows l e

pub returns-in_err-range-2 : goal.returns-in_err-range-2
returns-in_err-range-2 c l e =
    let a = c.args in
    passed_on
    (range 2 4096 a.horizon ∷ [])
    (by_budget a.n a.cap a.horizon a.budget a.list a.rows)
    c.range-2.ensures
    c.from_residual-in_err-range-2.result
    c.in_err-range-2.was
    c.from_residual-in_err-range-2.ensures.1
    ∙ sym (rest_decides (range 1 4096 a.cap ∷ []) (by_horizon a.n a.cap a.horizon a.budget a.list a.rows) c.range.ensures c.in_ok-range.was)
    ∙ whole a.n a.cap a.horizon a.budget a.list a.rows l e

pub returns-in_err-range-3 : goal.returns-in_err-range-3
returns-in_err-range-3 c l e =
    let a = c.args in
    passed_on
    (range 3 1000000 a.budget ∷ [])
    (by_list a.n a.cap a.horizon a.budget a.list a.rows)
    c.range-3.ensures
    c.from_residual-in_err-range-3.result
    c.in_err-range-3.was
    c.from_residual-in_err-range-3.ensures.1
    ∙ sym (rest_decides (range 2 4096 a.horizon ∷ []) (by_budget a.n a.cap a.horizon a.budget a.list a.rows) c.range-2.ensures c.in_ok-range-2.was)
    ∙ sym (rest_decides (range 1 4096 a.cap ∷ []) (by_horizon a.n a.cap a.horizon a.budget a.list a.rows) c.range.ensures c.in_ok-range.was)
    ∙ whole a.n a.cap a.horizon a.budget a.list a.rows l e

pub returns-in_err-lent : goal.returns-in_err-lent
returns-in_err-lent c l e =
    let a = c.args in
    passed_on
    (lent a.n a.list ∷ [])
    (lent 4096 a.rows ∷ [])
    c.lent.ensures
    c.from_residual-in_err-lent.result
    c.in_err-lent.was
    c.from_residual-in_err-lent.ensures.1
    ∙ sym (rest_decides (range 3 1000000 a.budget ∷ []) (by_list a.n a.cap a.horizon a.budget a.list a.rows) c.range-3.ensures c.in_ok-range-3.was)
    ∙ sym (rest_decides (range 2 4096 a.horizon ∷ []) (by_budget a.n a.cap a.horizon a.budget a.list a.rows) c.range-2.ensures c.in_ok-range-2.was)
    ∙ sym (rest_decides (range 1 4096 a.cap ∷ []) (by_horizon a.n a.cap a.horizon a.budget a.list a.rows) c.range.ensures c.in_ok-range.was)
    ∙ whole a.n a.cap a.horizon a.budget a.list a.rows l e

pub returns : goal.returns
returns c l e =
    let a = c.args in
    c.lent-2.ensures
    ∙ sym (rest_decides (lent a.n a.list ∷ []) (lent 4096 a.rows ∷ []) c.lent.ensures c.in_ok-lent.was)
    ∙ sym (rest_decides (range 3 1000000 a.budget ∷ []) (by_list a.n a.cap a.horizon a.budget a.list a.rows) c.range-3.ensures c.in_ok-range-3.was)
    ∙ sym (rest_decides (range 2 4096 a.horizon ∷ []) (by_budget a.n a.cap a.horizon a.budget a.list a.rows) c.range-2.ensures c.in_ok-range-2.was)
    ∙ sym (rest_decides (range 1 4096 a.cap ∷ []) (by_horizon a.n a.cap a.horizon a.budget a.list a.rows) c.range.ensures c.in_ok-range.was)
    ∙ whole a.n a.cap a.horizon a.budget a.list a.rows l e
