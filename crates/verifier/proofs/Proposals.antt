-- A proposal that passes its checks, and the verifier's answer then. Assumes nothing.
use mathlib.Core.Path.{◌≡◌, sym, ◌∙◌}
use mathlib.Core.Bool.{true≢false}
use mathlib.Core.List.{List}
use mathlib.Core.Option.{Option, none}
use Prim.Native.Nat.{ℕ}
use native.Mathlib.Omega.{arith}
use lib.ListN.{length, get_or}
use borrow.Author.Tests.{ltb-false, leb-false, le-ltb, lt-leb}
use Rattle.model.specs.Lists.{up_from}
use Rattle.model.specs.Refusals.{first_refusal, answered}
use Rattle.model.specs.Loop.{Loop, size}
use Rattle.model.specs.File.{file_checks, loop_of, Accepted}
use Rattle.model.specs.Verifier.{proposal_checks, proposed_checks, judge, first_broken, first_pair, pair_place, verdict, verify_file}
use Rattle.model.specs.Counts.{number_of}
use Rattle.model.proofs.Firsts.{row_not}
use Rattle.model.proofs.Lists.{any_row, none_first}
use Rattle.model.proofs.Checks.{refusal_append, passes_left, passes_right, passes_head, passes_tail, not_found, in_range, at_most, at_least}
use Rattle.std.specs.Prelude.{Result, Ok, Err, IsErr, IsErrAnd, IfErr}
use Rattle.refusals.specs.declared.Refusal as code
use Rattle.refusals.specs.Told.{refusal_of}
use Rattle.verifier.specs.declared.Verdict as answers
use Rattle.verifier.specs.Answer.{verdict_of}
use Rattle.verifier.specs.Walk.{one_each, Proposal}
use Rattle.verifier.proofs.Starts.{late}

module _ (l : Loop) (ii : ℕ) (xs : List ℕ) where
  -- a proposal that passes its checks is one that the walks take
  pub passes_asked : first_refusal (proposal_checks l ii xs) ≡ none → Proposal l ii xs
  unfolding proposal_checks
  passes_asked e = record {
    some = at_least 4096 ii (passes_head _ _ e);
    short = at_most 4096 ii (passes_head _ _ e);
    all = ltb-false (length xs) (size l) (passes_head _ _ (passes_tail _ _ e));
    early = λ o h. leb-false 4096 (get_or xs o 0) (any_row (late xs) 0 (size l) o (none_first (late xs) (up_from 0 (size l)) (not_found 15 _ (passes_head _ _ (passes_tail _ _ (passes_tail _ _ e))))) (omega arith) (omega arith));
  }

  -- and the other way round
  pub asked_passes : Proposal l ii xs → first_refusal (proposal_checks l ii xs) ≡ none
  unfolding proposal_checks first_refusal
  asked_passes p =
      rw (
        in_range 4096 ii p.some p.short,
        le-ltb (length xs) (size l) p.all,
        row_not (late xs) (size l) (λ o m. lt-leb 4096 (get_or xs o 0) (p.early o m)),
      )

module _ (f : List ℕ) (ii : ℕ) (xs : List ℕ) where
  -- all checks pass exactly where the file is accepted and the proposal is such a one
  pub all_pass : Accepted f → Proposal (loop_of f) ii xs → first_refusal (proposed_checks f ii xs) ≡ none
  unfolding proposed_checks
  all_pass a p = refusal_append (file_checks f) (proposal_checks (loop_of f) ii xs) a ∙ asked_passes (loop_of f) ii xs p

  pub pass_file : first_refusal (proposed_checks f ii xs) ≡ none → Accepted f
  unfolding proposed_checks
  pass_file e = passes_left (file_checks f) (proposal_checks (loop_of f) ii xs) e

  pub pass_asked : first_refusal (proposed_checks f ii xs) ≡ none → Proposal (loop_of f) ii xs
  unfolding proposed_checks
  pass_asked e = passes_asked (loop_of f) ii xs (passes_right (file_checks f) (proposal_checks (loop_of f) ii xs) e)

  -- a refusal, which is passed on, is the answer
  pub by_check : {A : Type 0} (c : Result A code.Refusal) (r : Result answers.Verdict code.Refusal) → IsErr c → IsErrAnd r (λ y. IfErr c (λ x. y ≡ x)) → refusal_of c ≡ first_refusal (proposed_checks f ii xs)
      → verdict_of r ≡ verify_file f ii xs
  unfolding verify_file
  by_check (Ok a) r e h p = absurd (true≢false (sym e))
  by_check (Err x) (Ok v) e h p = absurd h
  by_check (Err x) (Err y) e h p = rw (← p, h)

  -- and else what the two walks find
  pub by_walks : (e : Option ℕ) (p : Option (ℕ × ℕ)) → first_refusal (proposed_checks f ii xs) ≡ none → e ≡ first_broken (loop_of f) ii (one_each (loop_of f) xs) → p ≡ first_pair (loop_of f) ii (one_each (loop_of f) xs)
      → answered (judge e p (λ q. number_of (pair_place (loop_of f) ii (one_each (loop_of f) xs) q))) ≡ verify_file f ii xs
  unfolding verify_file verdict
  by_walks e p h x y = rw (h, x, y)
