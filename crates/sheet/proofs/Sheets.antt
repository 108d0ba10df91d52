-- The sheet of any bytes: refused by the bundle, refused by the table, or made of all files. Assumes nothing.
use mathlib.Core.Path.{◌≡◌, refl, sym, ap, ◌∙◌}
use mathlib.Core.List.{List, [], ◌∷◌}
use mathlib.Core.Option.{none, some}
use Prim.Native.Nat.{ℕ}
use lib.ListN.{length}
use Rattle.std.specs.Prelude.{Result, Ok}
use Rattle.model.specs.Lists.{written}
use Rattle.model.specs.Refusals.{Refusal, lent, first_refusal, answered, refused}
use Rattle.model.specs.Bundle.{bundle_checks, read_bundle, files, count_in}
use Rattle.model.specs.Sheet.{totals_of, sheet_checks, by_check, by_files}
use Rattle.model.proofs.Checks.{refusal_append, refusal_early}
use Rattle.model.proofs.Bundle.{read_refused, read_accepted}
use Rattle.model.proofs.Sheet.{answers_length}
use Rattle.refusals.specs.declared.Refusal as code
use Rattle.sheet.specs.Lines.{slot_words}
use Rattle.sheet.specs.Answer.{sheet_of, Walked, Sheets}
use Rattle.sheet.specs.declared.sums.Sums.{Sums}
use Rattle.sheet.specs.declared.Totals.{Totals}
use Rattle.sheet.proofs.Lines.{slots_total}

module _ (b lines slots rows : List ℕ) where
  -- a refusal of one of the checks
  turned_away : (s : Result Totals code.Refusal) (x : Refusal) → sheet_of s ≡ refused x → first_refusal (sheet_checks b (length rows)) ≡ some x → Sheets b lines slots rows s lines slots rows
  turned_away s x e fails = record { answer = refused x; is = by_check x fails refl; says = e; lines_are = refl; slots_are = refl; rows_are = refl }

  -- refused by the reading
  pub by_bundle : {x : Refusal} → refused x ≡ count_in (read_bundle b) → (s : Result Totals code.Refusal) → sheet_of s ≡ refused x → Sheets b lines slots rows s lines slots rows
  unfolding sheet_checks
  by_bundle {x} is s e = turned_away s x e (refusal_early (bundle_checks b) (lent 4096 (length rows) ∷ []) x (read_refused b x (sym is)))

  -- the bundle is read, with n files
  module _ {n : ℕ} (is : answered n ≡ count_in (read_bundle b)) where
    pub read_as : (first_refusal (bundle_checks b) ≡ none) × (n ≡ length (files b))
    read_as = read_accepted b n (sym is)

    -- then the table's length decides
    rest : first_refusal (sheet_checks b (length rows)) ≡ first_refusal (lent 4096 (length rows) ∷ [])
    unfolding sheet_checks
    rest = refusal_append (bundle_checks b) (lent 4096 (length rows) ∷ []) read_as.0

    -- refused by it
    pub by_table : {x : Refusal} → some x ≡ first_refusal (lent 4096 (length rows) ∷ []) → (s : Result Totals code.Refusal) → sheet_of s ≡ refused x → Sheets b lines slots rows s lines slots rows
    by_table {x} asked s e = turned_away s x e (rest ∙ sym asked)

    -- made of all files
    pub by_walk : none ≡ first_refusal (lent 4096 (length rows) ∷ []) → {s : Sums} {lines' slots' rows' : List ℕ} → Walked b lines rows s lines' rows' → slots' ≡ written 0 (slot_words s 24) slots
        → Sheets b lines slots rows (Ok (record { files = n; scheduled = s.scheduled; bound = s.bound; intervals = s.intervals })) lines' slots' rows'
    unfolding totals_of
    by_walk asked {s} w q = record {
      answer = answered w.summed.items;
      is = by_files w.summed.items (rest ∙ sym asked) w.summed.answers refl;
      says = ap answered (λ i. record {
        files = (read_as.1 ∙ sym (answers_length w.summed.answers)) i;
        scheduled = (w.summed.sums_are i).scheduled;
        bound = (w.summed.sums_are i).bound;
        intervals = (w.summed.sums_are i).intervals;
      });
      lines_are = w.lines_are;
      slots_are = q ∙ ap (λ (z : Sums). written 0 (slot_words z 24) slots) w.summed.sums_are ∙ ap (λ (ws : List ℕ). written 0 ws slots) (slots_total w.summed.items);
      rows_are = w.summed.rows_are;
    }
