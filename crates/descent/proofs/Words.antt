-- The words of a search: each list of 1 to n numbers below h is one of them, once, in dictionary order; the answer is the first legal one of n. Assumes nothing.
use mathlib.Core.Path.{◌≡◌, refl, sym, ap, ap₂, ◌∙◌, fun_ext}
use mathlib.Core.Bool.{Bool, true, false, cond, ◌&&◌, or-true}
use mathlib.Core.List.{List, [], ◌∷◌, ◌++◌, map, flat_map}
use mathlib.Core.Logic.{◌⊎◌, inl, inr}
use mathlib.Core.Option.{Option, none, some}
use Prim.Native.Nat.{ℕ, zero, suc, ◌+◌, ◌-◌, ◌≤◌, ◌<◌}
use native.Mathlib.Nat.{le_of_suc-le-suc, eq-or-lt_of_le}
use native.Mathlib.Decide.{dec_lt, ℕ_discrete}
use native.Mathlib.Omega.{arith}
use lib.Dec.{eqb, ltb}
use lib.ListN.{length}
use borrow.Author.Tests.{eqb-true, eq-eqb, ne_eqb, lt-ltb, le-ltb}
use Rattle.model.specs.Lists.{up_from, Below, any_of, first, count_if, sum_of}
use Rattle.model.specs.Search.{words, whole, answer, not_after}
use Rattle.descent.specs.Tree.{tree, over}
use Rattle.model.proofs.Sums.{sum_last}
use Rattle.model.proofs.Lists.{and_left, and_right, and_both, or_false_left, or_false_right, any_map, first_later, none_first, count_flat_map, sum_none, sum_around, count_map, count_never}
use Rattle.model.proofs.Firsts.{first_is, first_early, first_map}

-- ---- lists of numbers

-- with one number more in front, and without its first
below_cons : (h x : ℕ) (q : List ℕ) → x < h → Below h q → Below h (x ∷ q)
below_cons h x q l b zero m = l
below_cons h x q l b (suc i) m = b i (le_of_suc-le-suc m)

below_tail : (h x : ℕ) (q : List ℕ) → Below h (x ∷ q) → Below h q
below_tail h x q b i l = b (suc i) (omega arith)

-- whether two lists are one
abbrev pub same_list : List ℕ → List ℕ → Bool
same_list [] [] = true
same_list [] (y ∷ ys) = false
same_list (x ∷ xs) [] = false
same_list (x ∷ xs) (y ∷ ys) = eqb x y && same_list xs ys

-- it says so exactly where they are equal
pub same_eq : (p q : List ℕ) → same_list p q ≡ true → p ≡ q
same_eq [] [] e = refl
same_eq [] (y ∷ ys) e = cc
same_eq (x ∷ xs) [] e = cc
same_eq (x ∷ xs) (y ∷ ys) e =
    let f : x ≡ y = eqb-true x y (and_left (eqb x y) (same_list xs ys) e) in
    let g : xs ≡ ys = same_eq xs ys (and_right (eqb x y) (same_list xs ys) e) in
    cc

same_self : (q : List ℕ) → same_list q q ≡ true
same_self [] = refl
same_self (x ∷ q) = and_both (eqb x x) (same_list q q) (eq-eqb x x refl) (same_self q)

pub eq_same : (p q : List ℕ) → p ≡ q → same_list p q ≡ true
eq_same p q e = ap (same_list p) (sym e) ∙ same_self p

-- ---- counts, and what passes first

-- what is found first is of the list
first_counts : (p : List ℕ → Bool) (xs : List (List ℕ)) (a : List ℕ) → first p xs ≡ some a → 1 ≤ count_if (same_list a) xs
unfolding first count_if
first_counts p [] a e = cc
first_counts p (x ∷ xs) a e = pick (p x) e (first_counts p xs a)
  where
    pick : (b : Bool) → cond b (some x) (first p xs) ≡ some a → (first p xs ≡ some a → 1 ≤ count_if (same_list a) xs)
        → 1 ≤ cond (same_list a x) 1 0 + count_if (same_list a) xs
    pick true f ih = let g : a ≡ x = cc in rw (eq_same a x g) (omega arith)
    pick false f ih = omega (arith, ih f)

-- where nothing of a list passes, that which is counted in it does not
counted_fails : (p : List ℕ → Bool) (xs : List (List ℕ)) (b : List ℕ) → 1 ≤ count_if (same_list b) xs → any_of p xs ≡ false → p b ≡ false
unfolding any_of count_if
counted_fails p [] b l e = absurd (omega arith)
counted_fails p (x ∷ xs) b l e = pick (same_list b x) refl l (counted_fails p xs b)
  where
    pick : (c : Bool) → same_list b x ≡ c → 1 ≤ cond c 1 0 + count_if (same_list b) xs → (1 ≤ count_if (same_list b) xs → any_of p xs ≡ false → p b ≡ false) → p b ≡ false
    pick true q m ih = ap p (same_eq b x q) ∙ or_false_left (p x) (any_of p xs) e
    pick false q m ih = ih (omega arith) (or_false_right (p x) (any_of p xs) e)

-- ---- words by their first number

-- the words that begin with s
abbrev branch : ℕ → ℕ → ℕ → List (List ℕ)
branch h n s = map (s ∷◌) (tree h n)

-- all words begin with a number below h
pub words_over : (h n : ℕ) → words h (suc n) ≡ over h n 0 h
unfolding words over tree
words_over h n = refl

-- how often q is among the words that begin with s
abbrev share : ℕ → ℕ → List ℕ → ℕ → ℕ
share h n q s = count_if (same_list q) (branch h n s)

-- a list is among the words as often as among all branches together
words_sum : (h n : ℕ) (q : List ℕ) → count_if (same_list q) (words h (suc n)) ≡ sum_of (share h n q) (up_from 0 h)
unfolding over
words_sum h n q = ap (count_if (same_list q)) (words_over h n) ∙ count_flat_map (same_list q) (branch h n) (up_from 0 h)

-- the empty list is in no branch, a list that begins otherwise not in this one, and one that begins with x as often as its rest is behind x
share_empty : (h n s : ℕ) → share h n [] s ≡ 0
share_empty h n s = count_map (same_list []) (s ∷◌) (tree h n) ∙ count_never (λ w. same_list [] (s ∷ w)) (tree h n) (λ w. refl)

share_other : (h n x s : ℕ) (q : List ℕ) → (x ≡ s → ⊥) → share h n (x ∷ q) s ≡ 0
share_other h n x s q ne =
    count_map (same_list (x ∷ q)) (s ∷◌) (tree h n)
    ∙ count_never (λ w. same_list (x ∷ q) (s ∷ w)) (tree h n) (λ w. ap (λ (b : Bool). b && same_list q w) (ne_eqb x s ne))

share_own : (h n x : ℕ) (q : List ℕ) → share h n (x ∷ q) x ≡ count_if (same_list q) (tree h n)
share_own h n x q =
    count_map (same_list (x ∷ q)) (x ∷◌) (tree h n)
    ∙ ap (λ (f : List ℕ → Bool). count_if f (tree h n)) (fun_ext (λ w. ap (λ (b : Bool). b && same_list q w) (eq-eqb x x refl)))

-- ---- each word is a list of 1 to n numbers below h

-- a list of 1 to n numbers below h
abbrev pub Word : ℕ → ℕ → List ℕ → Type 0
Word h n q = (1 ≤ length q) × (length q ≤ n) × Below h q

-- a number in front of nothing or of a word
word_cons : (h n s : ℕ) (q : List ℕ) → s < h → 1 ≤ count_if (same_list q) (tree h n) → (1 ≤ count_if (same_list q) (words h n) → Word h n q) → Word h (suc n) (s ∷ q)
unfolding count_if tree
word_cons h n s [] l c ih = (omega arith, omega arith, below_cons h s [] l (λ i m. absurd (omega arith)))
word_cons h n s (x ∷ q) l c ih = let w = ih (omega arith) in (omega arith, omega (arith, w.1), below_cons h s (x ∷ q) l w.2)

-- what is in the branch of s
word_of : (h n s : ℕ) (q : List ℕ) → s < h → 1 ≤ share h n q s → ((r : List ℕ) → 1 ≤ count_if (same_list r) (words h n) → Word h n r) → Word h (suc n) q
word_of h n s [] l c ih = absurd (omega (arith, share_empty h n s))
word_of h n s (x ∷ q) l c ih = pick (ℕ_discrete x s)
  where
    pick : Dec (x ≡ s) → Word h (suc n) (x ∷ q)
    pick (yes e) = word_cons h n x q (omega arith) (omega (arith, share_own h n x q, ap (share h n (x ∷ q)) e)) (ih q)
    pick (no ne) = absurd (omega (arith, share_other h n x s q ne))

-- what is among the words is such a list
pub words_only : (h n : ℕ) (q : List ℕ) → 1 ≤ count_if (same_list q) (words h n) → Word h n q
unfolding words count_if
words_only h zero q l = absurd (omega arith)
words_only h (suc n) q l =
    let w = sum_last (share h n q) h (omega (arith, words_sum h n q)) in word_of h n w.0 q w.1 w.2 (words_only h n)

-- ---- each such list is a word, once

-- the empty list is no word
words_empty : (h n : ℕ) → count_if (same_list []) (words h n) ≡ 0
words_empty h n = pick (ℕ_discrete (count_if (same_list []) (words h n)) 0)
  where
    pick : Dec (count_if (same_list []) (words h n) ≡ 0) → count_if (same_list []) (words h n) ≡ 0
    pick (yes e) = e
    pick (no ne) = absurd (omega (arith, (words_only h n [] (omega arith)).0))

-- a list is once in the branch of its first number
share_one : (h n x : ℕ) (q : List ℕ) → (1 ≤ length q → count_if (same_list q) (words h n) ≡ 1) → share h n (x ∷ q) x ≡ 1
unfolding count_if tree
share_one h n x [] ih = omega (arith, share_own h n x [], words_empty h n)
share_one h n x (y ∷ q) ih = omega (arith, share_own h n x (y ∷ q), ih (omega arith))

-- a list of 1 to n numbers below h is among the words once
pub words_count : (h n : ℕ) (q : List ℕ) → 1 ≤ length q → length q ≤ n → Below h q → count_if (same_list q) (words h n) ≡ 1
words_count h zero q l m b = absurd (omega arith)
words_count h (suc n) [] l m b = absurd (omega arith)
words_count h (suc n) (x ∷ q) l m b =
    let x_below : x < h = b 0 (omega arith) in
    let before : sum_of (share h n (x ∷ q)) (up_from 0 (x - 0)) ≡ 0 = sum_none (share h n (x ∷ q)) 0 (x - 0) (λ k i j. share_other h n x k q (λ e. omega arith)) in
    let after : sum_of (share h n (x ∷ q)) (up_from (suc x) (0 + h - suc x)) ≡ 0 =
    sum_none (share h n (x ∷ q)) (suc x) (0 + h - suc x) (λ k i j. share_other h n x k q (λ e. omega arith)) in
    omega (
      arith,
      words_sum h n (x ∷ q),
      sum_around (share h n (x ∷ q)) 0 h x (omega arith) (omega arith),
      share_one h n x q (λ i. words_count h n q i (omega arith) (below_tail h x q b)),
    )

-- ---- the first word that passes a test, in dictionary order

-- nothing passes: no list of 1 to n numbers below h does
words_none : (p : List ℕ → Bool) (h n : ℕ) (b : List ℕ) → any_of p (words h n) ≡ false → Word h n b → p b ≡ false
words_none p h n b e w = counted_fails p (words h n) b (omega (arith, words_count h n b w.0 w.1 w.2)) e

-- the same where the empty list stands before the words
tree_none : (p : List ℕ → Bool) (h n : ℕ) (b : List ℕ) → any_of p (tree h n) ≡ false → length b ≤ n → Below h b → p b ≡ false
unfolding any_of tree
tree_none p h n [] e l w = or_false_left (p []) (any_of p (words h n)) e
tree_none p h n (x ∷ b) e l w = words_none p h n (x ∷ b) (or_false_right (p []) (any_of p (words h n)) e) (omega arith, l, w)

-- the first word that passes is not after any other that does
abbrev pub Ordered : ℕ → ℕ → Type 0
Ordered h n = (p : List ℕ → Bool) (a b : List ℕ) → first p (words h n) ≡ some a → Word h n b → p b ≡ true → not_after a b ≡ true

-- the same where the empty list stands before the words
tree_first : (p : List ℕ → Bool) (h n : ℕ) (a b : List ℕ) → Ordered h n → first p (tree h n) ≡ some a → length b ≤ n → Below h b → p b ≡ true → not_after a b ≡ true
unfolding first tree
tree_first p h n a b ord e l w t = pick (p []) refl e
  where
    longer : (c : List ℕ) → p [] ≡ false → p c ≡ true → 1 ≤ length c
    longer [] f g = cc
    longer (x ∷ c) f g = omega arith

    pick : (c : Bool) → p [] ≡ c → cond c (some []) (first p (words h n)) ≡ some a → not_after a b ≡ true
    pick true q f = let g : a ≡ [] = cc in ap (λ (v : List ℕ). not_after v b) g
    pick false q f = ord p a b f (longer b q t, l, w) t

-- two lists that begin with one number, and two of which the first begins with a smaller one
after_same : (s : ℕ) (a b : List ℕ) → not_after a b ≡ true → not_after (s ∷ a) (s ∷ b) ≡ true
after_same s a b e = rw (eq-eqb s s refl, e) (or-true (ltb s s))

after_more : (s x : ℕ) (a b : List ℕ) → s < x → not_after (s ∷ a) (x ∷ b) ≡ true
after_more s x a b l = rw (lt-ltb s x l)

-- two lists of one length of which neither is after the other are one
pub after_both : (xs ys : List ℕ) → length xs ≡ length ys → not_after xs ys ≡ true → not_after ys xs ≡ true → xs ≡ ys
after_both [] [] l p q = refl
after_both [] (y ∷ ys) l p q = absurd (omega arith)
after_both (x ∷ xs) [] l p q = absurd (omega arith)
after_both (x ∷ xs) (y ∷ ys) l p q = pick (dec_lt x y) (dec_lt y x) (after_both xs ys (omega arith))
  where
    pick : Dec (x < y) → Dec (y < x) → (not_after xs ys ≡ true → not_after ys xs ≡ true → xs ≡ ys) → x ∷ xs ≡ y ∷ ys
    pick (yes m) d ih =
        let z : false ≡ true = rw (le-ltb y x (omega arith), ne_eqb y x (λ e. omega arith)) at q in cc
    pick (no m) (yes n) ih =
        let z : false ≡ true = rw (le-ltb x y (omega arith), ne_eqb x y (λ e. omega arith)) at p in cc
    pick (no m) (no n) ih =
        let e : x ≡ y = omega arith in
        let f : not_after xs ys ≡ true = rw (le-ltb x y (omega arith), eq-eqb x y e) at p in
        let g : not_after ys xs ≡ true = rw (le-ltb y x (omega arith), eq-eqb y x (sym e)) at q in
        ap₂ (λ (a : ℕ) (v : List ℕ). a ∷ v) e (ih f g)

-- found among the words that begin with s
branch_first : (p : List ℕ → Bool) (h n s : ℕ) (c : List ℕ) (x : ℕ) (b : List ℕ) → Ordered h n → first (λ w. p (s ∷ w)) (tree h n) ≡ some c → (s ≡ x) ⊎ (s < x)
    → length b ≤ n → Below h b → p (x ∷ b) ≡ true → not_after (s ∷ c) (x ∷ b) ≡ true
branch_first p h n s c x b ord e (inl q) l w t =
    ap (λ (y : ℕ). not_after (s ∷ c) (y ∷ b)) (sym q)
    ∙ after_same s c b (tree_first (λ v. p (s ∷ v)) h n c b ord e l w (ap (λ (y : ℕ). p (y ∷ b)) q ∙ t))
branch_first p h n s c x b ord e (inr q) l w t = after_more s x c b q

-- not found there, so a list that passes begins with more
branch_none : (p : List ℕ → Bool) (h n s x : ℕ) (b : List ℕ) → any_of (λ w. p (s ∷ w)) (tree h n) ≡ false → (s ≡ x) ⊎ (s < x) → length b ≤ n → Below h b
    → p (x ∷ b) ≡ true → s < x
branch_none p h n s x b e (inl q) l w t =
    let f : p (s ∷ b) ≡ false = tree_none (λ v. p (s ∷ v)) h n b e l w in
    let g : p (s ∷ b) ≡ true = ap (λ (y : ℕ). p (y ∷ b)) q ∙ t in
    cc
branch_none p h n s x b e (inr q) l w t = q

-- found in one of the branches
over_first : (p : List ℕ → Bool) (h n s k : ℕ) (a : List ℕ) (x : ℕ) (b : List ℕ) → Ordered h n → first p (over h n s k) ≡ some a → s ≤ x → x < s + k
    → length b ≤ n → Below h b → p (x ∷ b) ≡ true → not_after a (x ∷ b) ≡ true
unfolding first up_from flat_map over tree
over_first p h n s zero a x b ord e i j l w t = absurd (omega arith)
over_first p h n s (suc k) a x b ord e i j l w t =
    pick (first (λ v. p (s ∷ v)) (tree h n)) refl (λ f m. over_first p h n (suc s) k a x b ord f m (omega arith) l w t)
  where
    later : List (List ℕ)
    later = over h n (suc s) k

    pick : (o : Option (List ℕ)) → first (λ v. p (s ∷ v)) (tree h n) ≡ o → (first p later ≡ some a → s < x → not_after a (x ∷ b) ≡ true) → not_after a (x ∷ b) ≡ true
    pick (some c) q ih =
        let f : first p (branch h n s ++ later) ≡ some (s ∷ c) = first_early p (branch h n s) later (s ∷ c) (first_map p (s ∷◌) (tree h n) c q) in
        let g : a ≡ s ∷ c = cc in
        ap (λ (v : List ℕ). not_after v (x ∷ b)) g ∙ branch_first p h n s c x b ord q (eq-or-lt_of_le i) l w t
    pick none q ih =
        let f : any_of (λ v. p (s ∷ v)) (tree h n) ≡ false = none_first (λ v. p (s ∷ v)) (tree h n) q in
        ih (sym (first_later p (branch h n s) later (any_map p (s ∷◌) (tree h n) ∙ f)) ∙ e) (branch_none p h n s x b f (eq-or-lt_of_le i) l w t)

-- the words stand in dictionary order
pub words_first : (h n : ℕ) → Ordered h n
unfolding words first over tree
words_first h zero p a b e w t = absurd (omega arith)
words_first h (suc n) p a [] e w t = absurd (omega arith)
words_first h (suc n) p a (x ∷ b) e w t =
    over_first p h n 0 h a x b (words_first h n) e (omega arith) (omega (arith, w.2 0 (omega arith))) (omega arith) (below_tail h x b w.2) t

-- ---- the answer

-- it is a legal list of n numbers below h
pub answer_is : (L : List ℕ → Bool) (h n : ℕ) (a : List ℕ) → answer L h n ≡ some a → (length a ≡ n) × Below h a × (L a ≡ true)
unfolding answer
answer_is L h n a e =
    let t : whole L n a ≡ true = (first_is (whole L n) (words h n) a a e).passes in (
      eqb-true (length a) n (and_left (eqb (length a) n) (L a) t),
      (words_only h n a (first_counts (whole L n) (words h n) a e)).2,
      and_right (eqb (length a) n) (L a) t,
    )

-- no other such list is before it
pub answer_first : (L : List ℕ → Bool) (h n : ℕ) (a : List ℕ) → 1 ≤ n → answer L h n ≡ some a → (b : List ℕ) → length b ≡ n → Below h b → L b ≡ true
    → not_after a b ≡ true
unfolding answer
answer_first L h n a l e b q w t =
    words_first h n (whole L n) a b e (omega arith, omega arith, w) (and_both (eqb (length b) n) (L b) (eq-eqb (length b) n q) t)

-- there is none exactly where no such list is legal
pub answer_none : (L : List ℕ → Bool) (h n : ℕ) → 1 ≤ n → answer L h n ≡ none → (b : List ℕ) → length b ≡ n → Below h b → L b ≡ false
unfolding answer
answer_none L h n l e b q w =
    ap (λ (c : Bool). c && L b) (sym (eq-eqb (length b) n q))
    ∙ words_none (whole L n) h n b (none_first (whole L n) (words h n) e) (omega arith, omega arith, w)

pub none_answer : (L : List ℕ → Bool) (h n : ℕ) → ((b : List ℕ) → length b ≡ n → Below h b → L b ≡ false) → answer L h n ≡ none
none_answer L h n f = pick (answer L h n) refl
  where
    pick : (o : Option (List ℕ)) → answer L h n ≡ o → o ≡ none
    pick none e = refl
    pick (some a) e =
        let g = answer_is L h n a e in
        let i : L a ≡ true = g.2 in
        let j : L a ≡ false = f a g.0 g.1 in
        cc
