-- A loop that goes up and stores in each place: what it has stored, xs, then what is left of ys; and rows that are cleared so. Assumes nothing.
use mathlib.Core.Path.{◌≡◌, sym, ap, ◌∙◌}
use mathlib.Core.List.{List, [], ◌∷◌, ◌++◌}
use Prim.Native.Nat.{ℕ, suc, ◌+◌, ◌≤◌, ◌<◌}
use native.Mathlib.Numerals.{add-one}
use lib.ListN.{length, drop, get_or, set, replicate, length-replicate, get_or-replicate, get_or-append}
use lib.Seq.{drop-cons, append_snoc, set_at, length_front, length-take-le}

-- a turn: the store at the seam is one more that is stored, and one fewer that is left
pub set_next : {A : Type 0} (xs ys : List A) (i : ℕ) (a : A) → length xs ≡ i → i < length ys
    → set (xs ++ drop i ys) i a ≡ xs ++ (a ∷ []) ++ drop (i + 1) ys
set_next {A} xs ys i a e h =
    ap (λ (r : List A). set (xs ++ r) i a) (drop-cons ys i a h)
    ∙ set_at xs (get_or ys i a) (drop (suc i) ys) a i e
    ∙ sym (append_snoc xs a (drop (suc i) ys))
    ∙ ap (λ (k : ℕ). xs ++ (a ∷ []) ++ drop k ys) (sym (add-one i))

-- ---- cleared rows

-- a row that is cleared is 0
pub cleared : (n : ℕ) (old : List ℕ) (r : ℕ) → r < n → get_or (replicate n 0 ++ drop n old) r 0 ≡ 0
cleared n old r l = get_or-append (replicate n 0) (drop n old) 0 r (rw length-replicate l) ∙ get_or-replicate n r 0 0 l

-- the rows are as many as before
pub cleared_length : (n : ℕ) (old : List ℕ) → n ≤ length old → length (replicate n 0 ++ drop n old) ≡ length old
cleared_length n old l = length_front old (replicate n 0) n (length-replicate n 0 ∙ sym (length-take-le n old l))
