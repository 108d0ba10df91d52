-- Lines and fractions written one after the other. Assumes nothing.
use mathlib.Core.Path.{◌≡◌, refl, sym, ap, ◌∙◌}
use mathlib.Core.List.{List, [], ◌∷◌, ◌++◌, flat_map}
use Prim.Native.Nat.{ℕ, zero, suc, ◌+◌, ◌*◌, ◌≤◌}
use native.Mathlib.Omega.{arith}
use lib.ListN.{length, get_or, set, take, drop, length-append}
use lib.Seq.{sets, sets-eq}
use borrow.Rule.Slice.PartMut.{put_mid}
use Rattle.std.specs.Prelude.{Result, Ok, Err}
use Rattle.std.proofs.lemmas.Grind.{common_steps}
use Rattle.std.proofs.lemmas.List.{take_all}
use Rattle.std.proofs.lemmas.Slice.{put_mid-paste}
use Rattle.model.specs.Lists.{up_from, written}
use Rattle.model.specs.Refusals.{Answer, answered, refused}
use Rattle.model.specs.Loop.{Loop}
use Rattle.model.specs.Search.{Outcome, found, ended}
use Rattle.model.specs.Fractions.{lowest_of}
use Rattle.model.specs.Sheet.{Item, totals_of}
use Rattle.model.proofs.Lists.{flat_next, written_more}
use Rattle.search.specs.Answer.{answer_of}
use Rattle.search.specs.declared.Solution.{Solution}
use Rattle.search.specs.declared.Unsolved.{Unsolved}
use Rattle.search.specs.declared.Unsolved.TheVariants.{NoSchedule, BudgetSpent, Refused}
use Rattle.sheet.specs.Sums.{sums_of}
use Rattle.sheet.specs.Lines.{told_line, line_of, fraction_of, fraction_words, slot_words}
use Rattle.sheet.specs.Answer.{line_words}
use Rattle.sheet.specs.declared.fraction.Fraction.{Fraction}
use Rattle.sheet.specs.declared.sums.Sums.{Sums}

-- ---- lines

-- numbers written one after the other are a run of stores
written_sets : (at : ℕ) (ws old : List ℕ) → written at ws old ≡ sets old at ws
unfolding written
written_sets at [] old = refl
written_sets at (w ∷ ws) old = written_sets (suc at) ws (set old at w)

-- a part that is copied in is written, number after number
pub part_written : (at k : ℕ) (ws old part : List ℕ) → part ≡ ws → length ws ≡ k → at + k ≤ length old → put_mid at k old part ≡ written at ws old
part_written at k ws old part e long h =
    put_mid-paste at k old part ws (length ws) e long refl
    ∙ ap (λ (l : List ℕ). take at old ++ l ++ drop (at + length ws) old) (take_all (length ws) ws (omega arith))
    ∙ sym (sets-eq ws old at (omega arith))
    ∙ sym (written_sets at ws old)

-- the code's answer, with any starts, is told as the model's
pub line_told : (l : Loop) (list : List ℕ) (r : Result Solution Unsolved) → line_of r ≡ told_line (answer_of l list r)
line_told l list (Ok s) = refl
line_told l list (Err (NoSchedule cap k)) = refl
line_told l list (Err (BudgetSpent ii k)) = refl
line_told l list (Err (Refused r)) = refl

-- a line has eight
line_length : (a : Answer Outcome) → length (told_line a) ≡ 8
line_length (answered (found s)) = refl
line_length (answered (ended r k)) = refl
line_length (refused r) = refl

pub words_length : (items : List Item) → length (line_words items) ≡ 8 * length items
unfolding line_words flat_map
words_length [] = refl
words_length (x ∷ items) = omega (arith, length-append (told_line x.1) (line_words items), line_length x.1, words_length items)

words_more : (items : List Item) (x : Item) → line_words (items ++ (x ∷ [])) ≡ line_words items ++ told_line x.1
unfolding line_words flat_map
words_more [] x = grind (arith, common_steps)
words_more (y ∷ items) x = grind (arith, common_steps, words_more items x)

-- one line more
pub lines_more : (items : List Item) (x : Item) (i : ℕ) (old lines lines' : List ℕ) → length items ≡ i → lines ≡ written 0 (line_words items) old → lines' ≡ written (8 * i) (told_line x.1) lines
    → lines' ≡ written 0 (line_words (items ++ (x ∷ []))) old
lines_more items x i old lines lines' e p q = let at : 0 + length (line_words items) ≡ 8 * i = omega (arith, words_length items) in rw (q, p, words_more, written_more, at)

-- ---- fractions

-- two numbers a slot
slots_length : (s : Sums) (n : ℕ) → length (slot_words s n) ≡ 2 * n
unfolding slot_words flat_map up_from
slots_length s n = go 0 n
  where
    go : (a n : ℕ) → length (flat_map (λ k. fraction_words (lowest_of (get_or s.used k 0) s.intervals)) (up_from a n)) ≡ 2 * n
    go a zero = refl
    go a (suc n) = omega (arith, go (suc a) n)

pub slots_none : (s : Sums) (old : List ℕ) → old ≡ written 0 (slot_words s 0) old
unfolding slot_words written up_from flat_map
slots_none s old = refl

-- one slot more
pub slots_more : (s : Sums) (n : ℕ) (f : Fraction) (old slots : List ℕ) → slots ≡ written 0 (slot_words s n) old → fraction_of f ≡ lowest_of (get_or s.used n 0) s.intervals
    → set (set slots (2 * n) f.num) (2 * n + 1) f.den ≡ written 0 (slot_words s (n + 1)) old
unfolding slot_words written
slots_more s n f old slots e p =
    let at : 0 + length (slot_words s n) ≡ 2 * n = omega (arith, slots_length s n) in
    let next : 2 * n + 1 ≡ suc (2 * n) = omega arith in
    rw (next, e, flat_next, written_more, at, ← p)

-- of the sums over files, they are the totals'
pub slots_total : (items : List Item) → slot_words (sums_of items) 24 ≡ flat_map fraction_words (totals_of items).slots
unfolding slot_words totals_of up_from flat_map
slots_total items = refl
