-- What a place of a text adds to the spaces and digits behind it. Assumes nothing.
use mathlib.Core.Path.{◌≡◌, refl, sym, ap, ◌∙◌}
use mathlib.Core.Bool.{Bool, true, false, cond}
use mathlib.Core.List.{List, [], ◌∷◌, ◌++◌}
use Prim.Native.Nat.{ℕ, zero, suc, ◌+◌, ◌*◌, ◌-◌, ◌≤◌, ◌<◌, min}
use native.Mathlib.Numerals.{add-one}
use native.Mathlib.Omega.{arith}
use lib.Dec.{eqb}
use lib.ListN.{length, drop, get_or, set, drop_of_length-le, length-append}
use lib.Seq.{drop-cons, append_snoc, set_at}
use Rattle.std.specs.List.{prefix_len}
use Rattle.console.specs.Scan.{blanks, is_figure, figures, value_from, value_at, next_at, places, values}

-- the rest of a text from a place in it on, with the code's i + 1
from : (text : List ℕ) (i : ℕ) → i < length text → drop i text ≡ get_or text i 0 ∷ drop (i + 1) text
from text i h = drop-cons text i 0 h ∙ ap (λ (n : ℕ). get_or text i 0 ∷ drop n text) (sym (add-one i))

-- the spaces that a text begins with, by the library's word
pub prefix_blanks : (t : List ℕ) → prefix_len (λ b. eqb b 32) t ≡ blanks t
unfolding blanks
prefix_blanks [] = refl
prefix_blanks (b ∷ t) = ap (λ (n : ℕ). cond (eqb b 32) n 0) (omega (arith, prefix_blanks t))

module _ (text : List ℕ) (i : ℕ) where
  -- a digit
  pub figure : (n : ℕ) → i < length text → is_figure (get_or text i 0) ≡ true
      → (figures (drop i text) ≡ suc (figures (drop (i + 1) text))) × (value_from n (drop i text) ≡ value_from (min (10 * n + (get_or text i 0 - 48)) 18446744073709551615) (drop (i + 1) text))
  unfolding figures value_from
  figure n h e = (
    ap figures (from text i h) ∙ ap (λ (t : Bool). cond t (suc (figures (drop (i + 1) text))) 0) e,
    ap (value_from n) (from text i h)
        ∙ ap (λ (t : Bool). cond t (value_from (min (10 * n + (get_or text i 0 - 48)) 18446744073709551615) (drop (i + 1) text)) n) e,
  )

  -- another byte
  pub no_figure : (n : ℕ) → i < length text → is_figure (get_or text i 0) ≡ false → (figures (drop i text) ≡ 0) × (value_from n (drop i text) ≡ n)
  unfolding figures value_from
  no_figure n h e = (
    ap figures (from text i h) ∙ ap (λ (t : Bool). cond t (suc (figures (drop (i + 1) text))) 0) e,
    ap (value_from n) (from text i h)
        ∙ ap (λ (t : Bool). cond t (value_from (min (10 * n + (get_or text i 0 - 48)) 18446744073709551615) (drop (i + 1) text)) n) e,
  )

  -- the end
  pub at_end : (n : ℕ) → length text ≤ i → (figures (drop i text) ≡ 0) × (value_from n (drop i text) ≡ n)
  unfolding figures value_from
  at_end n h =
      let e : drop i text ≡ [] = drop_of_length-le text h in
      (ap figures e, ap (value_from n) e)

-- ---- a list of numbers

module _ (text : List ℕ) (at : ℕ) where
  -- there are n of them
  length_values : (n : ℕ) → length (values n text at) ≡ n
  unfolding values
  length_values zero = refl
  length_values (suc n) = length-append (values n text at) (value_at text (places n text at) ∷ []) ∙ omega (arith, length_values n)

  -- a turn: the store at the seam is one more that was read, and one fewer that is left
  pub next_value : (old : List ℕ) (i v : ℕ) → v ≡ value_at text (places i text at) → i < length old
      → set (values i text at ++ drop i old) i v ≡ values (i + 1) text at ++ drop (i + 1) old
  unfolding values
  next_value old i v e h =
      ap (λ (l : List ℕ). set (values i text at ++ l) i v) (drop-cons old i 0 h)
      ∙ set_at (values i text at) (get_or old i 0) (drop (suc i) old) v i (length_values i)
      ∙ sym (append_snoc (values i text at) v (drop (suc i) old))
      ∙ ap (λ (x : ℕ). (values i text at ++ (x ∷ [])) ++ drop (suc i) old) e
      ∙ ap (λ (n : ℕ). values n text at ++ drop n old) (sym (add-one i))

  -- and the place after it
  pub next_place : (i p : ℕ) → p ≡ next_at text (places i text at) → p ≡ places (i + 1) text at
  unfolding places
  next_place i p e = e ∙ ap (λ (n : ℕ). places n text at) (sym (add-one i))
