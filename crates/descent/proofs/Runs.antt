-- What a run of the search comes to, start by start: its answer, its probes, and what they leave of the budget. Assumes nothing.
use mathlib.Core.Path.{◌≡◌, refl, ap, ◌∙◌, fun_ext}
use mathlib.Core.Bool.{Bool, true, false, and-false}
use mathlib.Core.List.{List, [], ◌∷◌, ◌++◌, map, flat_map, drop_last}
use mathlib.Core.Option.{Option, none, some}
use Prim.Native.Nat.{ℕ, zero, suc, ◌+◌, ◌-◌, ◌≤◌, ◌<◌}
use native.Mathlib.Nat.{le_refl, add-zero, sub-zero}
use native.Mathlib.Decide.{dec_lt}
use native.Mathlib.Omega.{arith}
use lib.Dec.{eqb, eqb-suc-suc, eqb-zero-suc}
use lib.ListN.{length, get_or}
use borrow.Author.Tests.{lt-ltb, le-ltb, eq-eqb, ne_eqb}
use Rattle.model.specs.Lists.{up_from, any_of, first, count_if, sum_of}
use Rattle.model.specs.Search.{words, whole, answer, reached, tried, probes}
use Rattle.model.proofs.Lists.{any_map, at_any, first_later, first_none, none_first, count_append, count_flat_map, count_none, sum_none, count_map}
use Rattle.model.proofs.Firsts.{first_early, first_map}
use Rattle.descent.proofs.Words.{words_over}
use Rattle.descent.specs.Tree.{under, tree, over, tree_answer, tree_probes, over_answer, over_probes, Res, broke, all, no_more, rest, res_of, run, run_o}

-- ---- the lists that begin with s, then the others

-- the first number apart from the others
over_cons : (h m s k : ℕ) → over h m s (suc k) ≡ map (s ∷◌) (tree h m) ++ over h m (suc s) k
unfolding over up_from flat_map
over_cons h m s k = refl

-- a test that every list fails
none_passes : (p : List ℕ → Bool) (xs : List (List ℕ)) → ((q : List ℕ) → p q ≡ false) → any_of p xs ≡ false
none_passes p xs f = at_any p xs [] (λ i l. f (get_or xs i []))

-- how many pass, number by number
count_over : (p : List ℕ → Bool) (h m s k : ℕ) → count_if p (over h m s k) ≡ sum_of (λ t. count_if (λ q. p (t ∷ q)) (tree h m)) (up_from s k)
unfolding over
count_over p h m s k =
    count_flat_map p (λ t. map (t ∷◌) (tree h m)) (up_from s k) ∙ ap (λ (f : ℕ → ℕ). sum_of f (up_from s k)) (fun_ext (λ t. count_map p (t ∷◌) (tree h m)))

-- no word is empty: two tests that agree on the other lists let as many words pass
count_words_lem : (p r : List ℕ → Bool) (h m : ℕ) → ((x : ℕ) (q : List ℕ) → p (x ∷ q) ≡ r (x ∷ q)) → count_if p (words h m) ≡ count_if r (words h m)
unfolding words count_if
count_words_lem p r h zero e = refl
count_words_lem p r h (suc m) e =
    rw (words_over h m, count_over p h m 0 h, count_over r h m 0 h)
    (ap (λ (f : ℕ → List ℕ → Bool). sum_of (λ t. count_if (f t) (tree h m)) (up_from 0 h)) (fun_ext (λ x. fun_ext (e x))))

-- ---- the answer, start by start

-- a list found below the start s, else what the later starts have
abbrev or_later : ℕ → Option (List ℕ) → Option (List ℕ) → Option (List ℕ)
or_later s none o = o
or_later s (some a) o = some (s ∷ a)

-- the first that passes: of the lists with s in front, then of the others
first_below : (p : List ℕ → Bool) (s : ℕ) (xs ys : List (List ℕ)) → first p (map (s ∷◌) xs ++ ys) ≡ or_later s (first (λ q. p (s ∷ q)) xs) (first p ys)
first_below p s xs ys = pick (first (λ q. p (s ∷ q)) xs) refl
  where
    pick : (o : Option (List ℕ)) → first (λ q. p (s ∷ q)) xs ≡ o → first p (map (s ∷◌) xs ++ ys) ≡ or_later s o (first p ys)
    pick none e = first_later p (map (s ∷◌) xs) ys (any_map p (s ∷◌) xs ∙ none_first (λ q. p (s ∷ q)) xs e)
    pick (some a) e = first_early p (map (s ∷◌) xs) ys (s ∷ a) (first_map p (s ∷◌) xs a e)

-- the answer of the start s and the later ones
answer_step : (L : List ℕ → Bool) (h m s k : ℕ)
    → over_answer L h m s (suc k) ≡ or_later s (tree_answer (under L (s ∷ [])) h m) (over_answer L h m (suc s) k)
unfolding over_answer tree_answer
answer_step L h m s k =
    rw (over_cons h m s k, first_below (whole L (suc m)) s (tree h m) (over h m (suc s) k)) (simp eqb-suc-suc)

-- a list, if there is one, begins with s or more
abbrev Late : ℕ → Option (List ℕ) → Type 0
Late s none = Unit {0}
Late s (some []) = ⊥
Late s (some (t ∷ a)) = s ≤ t

-- the answer of the starts from s on does
late : (L : List ℕ → Bool) (h m s k : ℕ) → Late s (over_answer L h m s k)
unfolding over_answer over up_from flat_map first
late L h m s zero = tt
late L h m s (suc k) = rw (answer_step L h m s k) (pick (tree_answer (under L (s ∷ [])) h m) (over_answer L h m (suc s) k) (late L h m (suc s) k))
  where
    pick : (x o : Option (List ℕ)) → Late (suc s) o → Late s (or_later s x o)
    pick (some a) o l = le_refl s
    pick none none l = tt
    pick none (some []) l = l
    pick none (some (t ∷ a)) l = omega arith

-- ---- the lists that an answer lets count

-- below the answer's own first start: as below the rest of the answer
reached_same : (s : ℕ) (a q : List ℕ) → reached (some (s ∷ a)) (s ∷ q) ≡ reached (some a) q
reached_same s a q = rw (le-ltb s s (le_refl s), eq-eqb s s refl)

-- below an earlier start: all
reached_early : (s : ℕ) (o : Option (List ℕ)) (q : List ℕ) → Late (suc s) o → reached o (s ∷ q) ≡ true
reached_early s none q l = refl
reached_early s (some []) q l = absurd l
reached_early s (some (t ∷ a)) q l = rw (lt-ltb s t l)

-- below a later start: none
none_after : (L : List ℕ → Bool) (h m s k : ℕ) (a : List ℕ) → count_if (tried L (some (s ∷ a))) (over h m (suc s) k) ≡ 0
none_after L h m s k a =
    count_over (tried L (some (s ∷ a))) h m (suc s) k
    ∙ sum_none _ (suc s) k
    (λ t l r. count_none _ (tree h m) (none_passes _ (tree h m)
    (λ q. rw (le-ltb t s (omega arith), ne_eqb t s (λ e. omega arith)) (and-false (L (drop_last (t ∷ q)))))))

-- ---- the probes, start by start

-- those below s: s itself, and those of its own tree
probes_below : (L : List ℕ → Bool) (h m s : ℕ) (o x : Option (List ℕ)) → L [] ≡ true → ((q : List ℕ) → reached o (s ∷ q) ≡ reached x q)
    → count_if (λ q. tried L o (s ∷ q)) (tree h m) ≡ suc (count_if (tried (under L (s ∷ [])) x) (words h m))
unfolding tree count_if
probes_below L h m s o x e r =
    rw (e, r [], nil x)
    (omega (arith, count_words_lem (λ q. tried L o (s ∷ q)) (tried (under L (s ∷ [])) x) h m (λ y q. rw (r (y ∷ q)))))
  where
    nil : (x : Option (List ℕ)) → reached x [] ≡ true
    nil none = refl
    nil (some a) = refl

-- the probes of the later starts, which are made where no list is found
abbrev or_none : Option (List ℕ) → ℕ → ℕ
or_none none n = n
or_none (some a) n = 0

-- the probes of the start s and the later ones
probes_step : (L : List ℕ → Bool) (h m s k : ℕ) → L [] ≡ true
    → over_probes L h m s (suc k) ≡ suc (tree_probes (under L (s ∷ [])) h m) + or_none (tree_answer (under L (s ∷ [])) h m) (over_probes L h m (suc s) k)
unfolding over_probes tree_probes
probes_step L h m s k e = rw (answer_step L h m s k, over_cons h m s k, count_append, count_map _ (s ∷◌)) (pick (tree_answer (under L (s ∷ [])) h m))
  where
    later : Option (List ℕ)
    later = over_answer L h m (suc s) k

    pick : (x : Option (List ℕ))
        → count_if (λ q. tried L (or_later s x later) (s ∷ q)) (tree h m) + count_if (tried L (or_later s x later)) (over h m (suc s) k)
        ≡ suc (count_if (tried (under L (s ∷ [])) x) (words h m)) + or_none x (count_if (tried L later) (over h m (suc s) k))
    pick (some a) = rw (probes_below L h m s (some (s ∷ a)) (some a) e (reached_same s a), none_after L h m s k a)
    pick none = rw (probes_below L h m s later none e (λ q. reached_early s later q (late L h m (suc s) k)))

-- ---- with a budget

-- what the start s comes to, of what its tree comes to and what the later starts come to with what is left
abbrev pub after_start : ℕ → Res → (ℕ → Res) → Res
after_start s broke f = broke
after_start s (all w l) f = all (s ∷ w) l
after_start s (no_more l) f = f l

-- one probe for s, then p of its tree, then p' of the later starts
spend : (s b p p' : ℕ) (x o : Option (List ℕ)) → Dec (b < p) → Dec (b - p < p')
    → res_of (suc b) (or_later s x o) (suc p + or_none x p') ≡ after_start s (res_of b x p) (λ l. res_of l o p')
spend s b p p' x o (yes l) d = rw (lt-ltb b p l, lt-ltb (suc b) (suc p + or_none x p') (omega arith))
spend s b p p' (some a) o (no n) d = rw (le-ltb b p (omega arith), le-ltb (suc b) (suc p + 0) (omega arith)) (ap (all (s ∷ a)) (omega arith))
spend s b p p' none o (no n) (yes l) = rw (le-ltb b p (omega arith), lt-ltb (b - p) p' l, lt-ltb (suc b) (suc p + p') (omega arith))
spend s b p p' none o (no n) (no k) =
    rw (le-ltb b p (omega arith), le-ltb (b - p) p' (omega arith), le-ltb (suc b) (suc p + p') (omega arith)) (ap (rest o) (omega arith))

-- nothing left to choose: the list is whole
pub run_leaf : (L : List ℕ → Bool) (h b : ℕ) → L [] ≡ true → run L h 0 b ≡ all [] b
unfolding run tree_answer tree_probes tree first words count_if
run_leaf L h b e = rw (e, le-ltb b 0 (omega arith)) (ap (all []) (omega arith))

-- no list is legal: no probe is made
pub run_unfit : (L : List ℕ → Bool) (h m b : ℕ) → ((q : List ℕ) → L q ≡ false) → run L h m b ≡ no_more b
unfolding run tree_answer tree_probes
run_unfit L h m b f =
    rw (
      first_none (whole L m) _ (none_passes _ (tree h m) (λ q. rw (f q) (and-false (eqb (length q) m)))),
      count_none (tried L none) _ (none_passes _ (words h m) (λ q. rw (f (drop_last q)))),
      le-ltb b 0 (omega arith),
    )
    (ap no_more (omega arith))

module _ (L : List ℕ → Bool) (h m : ℕ) where
  -- with some budget: one probe for s, then its tree, then the later starts
  pub run_step : (s k b : ℕ) → L [] ≡ true → run_o L h m s (suc k) (suc b) ≡ after_start s (run (under L (s ∷ [])) h m b) (run_o L h m (suc s) k)
  unfolding run run_o
  run_step s k b e =
      rw (answer_step L h m s k, probes_step L h m s k e)
      (spend s b _ _ (tree_answer (under L (s ∷ [])) h m) (over_answer L h m (suc s) k) (dec_lt b _) (dec_lt _ _))

  -- with none
  pub run_broke : (s k : ℕ) → L [] ≡ true → run_o L h m s (suc k) 0 ≡ broke
  unfolding run_o
  run_broke s k e = rw (lt-ltb 0 (over_probes L h m s (suc k)) (omega (arith, probes_step L h m s k e)))

  -- no starts
  pub run_end : (s b : ℕ) → run_o L h m s 0 b ≡ no_more b
  unfolding run_o over_answer over_probes over up_from flat_map first count_if
  run_end s b = rw (le-ltb b 0 (omega arith)) (ap no_more (omega arith))

  -- a tree is all its starts
  pub run_all : (b : ℕ) → run L h (suc m) b ≡ run_o L h m 0 h b
  unfolding run run_o tree_answer over_answer tree_probes over_probes tree first
  run_all b = rw (eqb-zero-suc m, words_over h m)

  -- the model's answer and count of probes
  pub answer_run : (b : ℕ) → run L h (suc m) b ≡ res_of b (answer L h (suc m)) (probes L h (suc m))
  unfolding run answer probes tree_answer tree_probes tree first
  answer_run b = rw (eqb-zero-suc m)

  -- a start that does not fit takes one probe
  pub run_skip : (s k b : ℕ) → L [] ≡ true → ((q : List ℕ) → L (s ∷ q) ≡ false) → 1 ≤ b → run_o L h m s (suc k) b ≡ run_o L h m (suc s) k (b - 1)
  run_skip s k zero e f l = absurd (omega arith)
  run_skip s k (suc b) e f l =
      rw (run_step s k b e, run_unfit (under L (s ∷ [])) h m b f) (ap (run_o L h m (suc s) k) (omega arith))

  -- j such starts take j probes
  pub run_skip_many : (s k b : ℕ) → L [] ≡ true → (j : ℕ) → j ≤ k → j ≤ b → ((t : ℕ) → s ≤ t → t < s + j → (q : List ℕ) → L (t ∷ q) ≡ false)
      → run_o L h m s k b ≡ run_o L h m (s + j) (k - j) (b - j)
  run_skip_many s k b e zero lk lb f = simp (add-zero, sub-zero)
  run_skip_many s zero b e (suc j) lk lb f = absurd (omega arith)
  run_skip_many s (suc k) b e (suc j) lk lb f =
      let x : s + suc j ≡ suc s + j = omega arith in
      let y : suc k - suc j ≡ k - j = omega arith in
      let z : b - suc j ≡ b - 1 - j = omega arith in
      rw (x, y, z)
      (run_skip s k b e (f s (omega arith) (omega arith)) (omega arith)
      ∙ run_skip_many (suc s) k (b - 1) e j (omega arith) (omega arith) (λ t l r. f t (omega arith) (omega arith)))

  -- more such starts than the budget: it is spent
  pub run_skip_broke : (s k b : ℕ) → L [] ≡ true → (j : ℕ) → j ≤ k → b < j → ((t : ℕ) → s ≤ t → t < s + j → (q : List ℕ) → L (t ∷ q) ≡ false)
      → run_o L h m s k b ≡ broke
  run_skip_broke s k b e j lk lb f =
      let eb : b - b ≡ 0 = omega arith in
      let ek : k - b ≡ suc (k - suc b) = omega arith in
      run_skip_many s k b e b (omega arith) (omega arith) (λ t l r. f t l (omega arith)) ∙ rw (eb, ek) (run_broke (s + b) (k - suc b) e)
