-- An entry that is fine passes its table and answers its section's length, so the next entry is asked at the place where its body has to begin.
use Rattle.std.proofs.Common.{◌≡◌, ◌∙◌, ℕ, List, [], ◌∷◌, ◌++◌, length, not, refl, arith}
use borrow.Author.Tests.{eq-eqb, ne_eqb}
use mathlib.Core.Option.{none, some}
use lib.Dec.{eqb}
use Rattle.model.specs.Refusals.{Check, check, first_refusal}
use Rattle.model.specs.File.{oper, uses, deps, oper_at, uses_at, deps_at, end_at, length_of, entry_checks, contents_checks}
use Rattle.refusals.specs.Told.{refusal}
use Rattle.refusals.proofs.Tables.{kept_first}
use Rattle.loop_file.proofs.CheckAnswers.{part_refusal, part_rest}
use Rattle.loop_file.proofs.reader.contents.Goals as goal

-- the table past the third entry, past the second, and past the first
abbrev past_three : List ℕ → List Check
past_three f = check (not (eqb (end_at f) (length f))) 3 18 ∷ []

abbrev past_two : List ℕ → List Check
past_two f = entry_checks f deps (deps_at f) ++ past_three f

abbrev past_one : List ℕ → List Check
past_one f = entry_checks f uses (uses_at f) ++ past_two f

whole : (f : List ℕ) → first_refusal (entry_checks f oper oper_at ++ past_one f) ≡ first_refusal (contents_checks f)
unfolding contents_checks entry_checks
whole f = refl

-- whether the last body, which ends at `e`, ends where the file does
ends_off : (f : List ℕ) (e : ℕ) → e ≡ end_at f → (e ≡ length f → ⊥) → some (refusal 3 18) ≡ first_refusal (past_three f)
unfolding first_refusal
ends_off f e p n = rw (← p, ne_eqb e (length f) n)

ends_right : (f : List ℕ) (e : ℕ) → e ≡ end_at f → e ≡ length f → none ≡ first_refusal (past_three f)
unfolding first_refusal
ends_right f e p q = rw (← p, eq-eqb e (length f) q)

pub returns-in_default : goal.returns-in_default
returns-in_default c =
    let f = c.args.file.now in
    let said = part_refusal c.entry-first.result (entry_checks f oper oper_at) (length_of f oper) c.entry-first.ensures in
    kept_first (entry_checks f oper oper_at) (past_one f) said c.passed_on.result c.in_default.is c.passed_on.ensures ∙ whole f

pub returns-in_default-second : goal.returns-in_default-second
returns-in_default-second c =
    let f = c.args.file.now in
    let r = c.passed_on-in_default-second in
    let one = part_rest (entry_checks f oper oper_at) (past_one f) (length_of f oper) c.entry-first.ensures c.in-Ok.is in
    let said = part_refusal c.entry-second.result (entry_checks f uses (uses_at f)) (length_of f uses) (rw one.0 at c.entry-second.ensures) in
    kept_first (entry_checks f uses (uses_at f)) (past_two f) said r.result c.in_default-second.is r.ensures ∙ one.1 ∙ whole f

pub returns-in_default-third : goal.returns-in_default-third
returns-in_default-third c =
    let f = c.args.file.now in
    let r = c.passed_on-in_default-third in
    let one = part_rest (entry_checks f oper oper_at) (past_one f) (length_of f oper) c.entry-first.ensures c.in-Ok.is in
    let two = part_rest (entry_checks f uses (uses_at f)) (past_two f) (length_of f uses) (rw one.0 at c.entry-second.ensures) c.in-Ok-second.is in
    let said = part_refusal c.entry-third.result (entry_checks f deps (deps_at f)) (length_of f deps) (rw (one.0, two.0) at c.entry-third.ensures) in
    kept_first (entry_checks f deps (deps_at f)) (past_three f) said r.result c.in_default-third.is r.ensures ∙ two.1 ∙ one.1 ∙ whole f

pub returns-then-oper-uses : goal.returns-then-oper-uses
returns-then-oper-uses c =
    let f = c.args.file.now in
    let one = part_rest (entry_checks f oper oper_at) (past_one f) (length_of f oper) c.entry-first.ensures c.in-Ok.is in
    let two = part_rest (entry_checks f uses (uses_at f)) (past_two f) (length_of f uses) (rw one.0 at c.entry-second.ensures) c.in-Ok-second.is in
    let three = part_rest (entry_checks f deps (deps_at f)) (past_three f) (length_of f deps) (rw (one.0, two.0) at c.entry-third.ensures) c.in-Ok-third.is in
    ends_off f _ (omega (arith, one.0, two.0, three.0)) c.if-oper-uses.true
    ∙ three.1 ∙ two.1 ∙ one.1 ∙ whole f

pub returns : goal.returns
returns c =
    let f = c.args.file.now in
    let one = part_rest (entry_checks f oper oper_at) (past_one f) (length_of f oper) c.entry-first.ensures c.in-Ok.is in
    let two = part_rest (entry_checks f uses (uses_at f)) (past_two f) (length_of f uses) (rw one.0 at c.entry-second.ensures) c.in-Ok-second.is in
    let three = part_rest (entry_checks f deps (deps_at f)) (past_three f) (length_of f deps) (rw (one.0, two.0) at c.entry-third.ensures) c.in-Ok-third.is in
    ends_right f _ (omega (arith, one.0, two.0, three.0)) c.if-oper-uses.false
    ∙ three.1 ∙ two.1 ∙ one.1 ∙ whole f
