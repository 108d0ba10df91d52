-- The files of a bundle, one after the other: what holds after some of them, and the sheet that all of them make. Assumes nothing.
use mathlib.Core.Path.{◌≡◌, refl, sym, ap, ◌∙◌}
use mathlib.Core.List.{List, [], ◌∷◌, ◌++◌, flat_map}
use Prim.Native.Nat.{ℕ, ◌+◌, ◌*◌, ◌≤◌, ◌<◌}
use native.Mathlib.Numerals.{add-one}
use native.Mathlib.Omega.{arith}
use lib.ListN.{length, take, drop, replicate, length-append, length-drop, length-replicate}
use lib.Seq.{take-suc, take_all, length-take-le}
use Rattle.model.specs.Lists.{written}
use Rattle.model.specs.Refusals.{Answer, answered, refused}
use Rattle.model.specs.Search.{Outcome, rows_after}
use Rattle.model.specs.Bundle.{files, file_at}
use Rattle.model.specs.Sheet.{Item, Answers, no_more, rows_through}
use Rattle.model.proofs.Bundle.{few_files}
use Rattle.model.proofs.Sheet.{answers_length, answers_more, through_more}
use Rattle.model.specs.File.{loop_of}
use Rattle.sheet.specs.Sums.{sums_of, Small, Adds}
use Rattle.sheet.specs.Lines.{told_line, line_of}
use Rattle.sheet.specs.Answer.{line_words, AddsLine, Walked}
use Rattle.sheet.specs.declared.sums.Sums.{Sums}
use Rattle.sheet.specs.declared.sums.Added.{Added}
use Rattle.sheet.proofs.Additions.{small}
use Rattle.sheet.proofs.Lines.{line_told, lines_more}

-- a search keeps the table's length
length_after : (a : Answer Outcome) (old : List ℕ) → 4096 ≤ length old → length (rows_after a old) ≡ length old
length_after (answered o) old h = omega (arith, length-append (replicate 4096 0) (drop 4096 old), length-replicate {A = ℕ} 4096 0, length-drop 4096 old)
length_after (refused r) old h = refl

-- a file that is counted in, and its answer told
pub adds_line : {s : Sums} {i : ℕ} {f lines rows lines' rows' : List ℕ} {r : Added} → Adds s f rows r rows' → lines' ≡ written (8 * i) (line_of r.answer) lines
    → AddsLine s i f lines rows r.sums lines' rows'
adds_line {i = i} {f} {lines} {r = r} w e = record {
  answer = w.answer;
  is = w.is;
  sums_are = w.sums_are;
  lines_are = e ∙ ap (λ (ws : List ℕ). written (8 * i) ws lines) (line_told (loop_of f) w.starts r.answer ∙ ap told_line w.says);
  rows_are = w.rows_are;
}

-- the first i files of b are done, and the lines and the table were `lines` and `rows` before them
pub record Upto (b lines rows : List ℕ) (i : ℕ) (s : Sums) (lines' rows' : List ℕ) : Type 0 where
  pub items : List Item
  pub within : i ≤ length (files b)
  pub answers : Answers (length rows) (take i (files b)) items
  pub sums_are : s ≡ sums_of items
  pub lines_are : lines' ≡ written 0 (line_words items) lines
  pub rows_are : rows' ≡ rows_through items rows
  pub long : length rows' ≡ length rows

module _ (b lines rows : List ℕ) where
  -- none is
  pub upto_none : (s : Sums) → s ≡ sums_of [] → Upto b lines rows 0 s lines rows
  unfolding line_words written flat_map
  upto_none s e = record { items = []; within = omega arith; answers = no_more; sums_are = e; lines_are = refl; rows_are = refl; long = refl }

  module _ {i : ℕ} {s : Sums} {lines' rows' : List ℕ} (u : Upto b lines rows i s lines' rows') where
    -- as many as there are answers
    done : length u.items ≡ i
    done = answers_length u.answers ∙ length-take-le i (files b) u.within

    -- the sums are small
    pub upto_small : Small s
    upto_small = rw u.sums_are (small u.answers (omega (arith, done, u.within, few_files b)))

    -- one file more
    pub upto_next : 4096 ≤ length rows → i < length (files b) → {f : List ℕ} → f ≡ file_at b i → {t : Sums} {lines'' rows'' : List ℕ} → AddsLine s i f lines' rows' t lines'' rows''
        → Upto b lines rows (i + 1) t lines'' rows''
    upto_next wide less {f} e {lines'' = lines''} w = record {
      items = u.items ++ ((f, w.answer) ∷ []);
      within = omega arith;
      answers = rw next_is (answers_more u.answers (rw u.long at w.is));
      sums_are = w.sums_are u.items u.sums_are;
      lines_are = lines_more u.items (f, w.answer) i lines lines' lines'' done u.lines_are w.lines_are;
      rows_are = w.rows_are ∙ ap (rows_after w.answer) u.rows_are ∙ sym (through_more u.items f w.answer rows);
      long = ap length w.rows_are ∙ length_after w.answer rows' (omega (arith, u.long)) ∙ u.long;
    }
      where
        next_is : take (i + 1) (files b) ≡ take i (files b) ++ (f ∷ [])
        next_is = ap (λ (k : ℕ). take k (files b)) (add-one i) ∙ take-suc (files b) i [] less ∙ ap (λ (g : List ℕ). take i (files b) ++ (g ∷ [])) (sym e)

    -- all of them
    pub upto_all : length (files b) ≤ i → Walked b lines rows s lines' rows'
    upto_all over = record {
      summed = record { items = u.items; answers = rw (sym (take_all i (files b) over)) u.answers; sums_are = u.sums_are; rows_are = u.rows_are };
      lines_are = u.lines_are;
    }

-- what a turn of the loop over them asks
pub ruleset turns = (upto_none, upto_next, upto_all)
