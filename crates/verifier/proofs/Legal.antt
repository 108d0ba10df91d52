-- The verifier says legal exactly where the file is accepted, the proposal passes and the list is legal. Assumes nothing.
use mathlib.Core.Path.{◌≡◌, ap, ◌∙◌}
use mathlib.Core.Bool.{true}
use mathlib.Core.List.{List}
use mathlib.Core.Option.{Option}
use Prim.Native.Nat.{ℕ, ◌≤◌}
use Rattle.model.specs.Refusals.{Refusal, first_refusal, answered, settled}
use Rattle.model.specs.File.{loop_of, Accepted}
use Rattle.model.specs.Legality.{placed, meets, legal}
use Rattle.model.specs.Table.{count_of, cells_of}
use Rattle.model.specs.Verifier.{Verdict, is_legal, proposed_checks, verdict, verify_file}
use Rattle.model.proofs.Checks.{settled_answer}
use Rattle.model.proofs.File.{accepted_ok}
use Rattle.model.proofs.Verifier.{verdict_legal, legal_verdict, legal_once, once_legal}
use Rattle.verifier.specs.Walk.{one_each, Proposal}
use Rattle.verifier.proofs.Proposals.{all_pass, pass_file, pass_asked}

module _ (f : List ℕ) (ii : ℕ) (xs : List ℕ) where
  -- the starts that count
  abbrev starts : List ℕ
  starts = one_each (loop_of f) xs

  -- what `legal` says of file, interval and list
  pub record IsLegal : Type 0 where
    pub file : Accepted f
    pub asked : Proposal (loop_of f) ii xs
    pub list : legal (loop_of f) ii starts ≡ true

  pub says_legal : verify_file f ii xs ≡ answered is_legal → IsLegal
  unfolding verify_file
  says_legal e =
      let s = settled_answer (first_refusal (proposed_checks f ii xs)) (verdict (loop_of f) ii starts) is_legal e in
      record { file = pass_file f ii xs s.0; asked = pass_asked f ii xs s.0; list = verdict_legal (loop_of f) ii starts s.1 }

  pub legal_said : IsLegal → verify_file f ii xs ≡ answered is_legal
  unfolding verify_file
  legal_said h =
      ap (λ (o : Option Refusal). settled o (verdict (loop_of f) ii starts)) (all_pass f ii xs h.file h.asked)
      ∙ ap (λ (v : Verdict). answered v) (legal_verdict (loop_of f) ii starts h.list)

  -- the list by its table: no cell is taken twice, and every dependence holds
  abbrev Tidy : Type 0
  Tidy = (meets (loop_of f) ii (placed starts) ≡ true) × ((s r : ℕ) → count_of s r (cells_of (loop_of f) ii (placed starts)) ≤ 1)

  pub legal_tidy : IsLegal → Tidy
  legal_tidy h = legal_once (loop_of f) ii starts (accepted_ok f h.file) h.list

  pub tidy_legal : Accepted f → Proposal (loop_of f) ii xs → Tidy → IsLegal
  tidy_legal a p t = record { file = a; asked = p; list = once_legal (loop_of f) ii starts (accepted_ok f a) p.some t.0 t.1 }
