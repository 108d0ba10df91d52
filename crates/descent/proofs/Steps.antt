-- What the turns of the search use: one start of one operation, and what is left to do after it. Assumes nothing.
use mathlib.Core.Path.{◌≡◌, refl, sym, ap, subst, ◌∙◌, fun_ext}
use mathlib.Core.Bool.{Bool, true, false, not, ◌&&◌, cond, and-false}
use mathlib.Core.Logic.{◌⊎◌, inl, inr}
use mathlib.Core.List.{List, [], ◌∷◌, ◌++◌, append-nil}
use mathlib.Core.Option.{Option, none, some}
use Prim.Native.Nat.{ℕ, suc, ◌+◌, ◌-◌, ◌≤◌, ◌<◌}
use native.Mathlib.Nat.{sub-zero}
use native.Mathlib.Decide.{dec_lt, ℕ_discrete}
use native.Mathlib.Numerals.{add-one}
use native.Mathlib.Omega.{arith}
use borrow.Author.Tests.{lt-ltb, le-ltb, le-leb, lt-leb}
use lib.Dec.{leb, ltb}
use lib.ListN.{length, take, get_or, set, length-set}
use lib.Seq.{append_snoc, take-suc, take-suc-set, take-take, take-set-le, length-take-le, get_or-take, get_or-set_same, get_or-set_other}
use Rattle.model.specs.Lists.{sum_of}
use Rattle.model.specs.Loop.{Op, Loop, no_op, size, op_at, first_use_of, LoopOk}
use Rattle.model.specs.File.{loop_of}
use Rattle.model.specs.Legality.{Placing, placed, legal_at, legal, place_at, conflicts, fits_at}
use Rattle.model.specs.Table.{row_base, cells_of, IsTable, Digits}
use Rattle.model.proofs.Lists.{false_not, and_both, sum_append}
use Rattle.model.proofs.File.{accepted_ok}
use Rattle.model.proofs.Loop.{use_within, all_few}
use Rattle.model.proofs.StartLists.{placed_after, placed_snoc}
use Rattle.model.proofs.Legality.{fits_tests, fits_conflict}
use Rattle.model.proofs.Counts.{legal_prefix, legal_place, legal_snoc}
use Rattle.reservation.specs.Rows.{over_uses, with_one, less_one, UsesIn}
use Rattle.reservation.specs.Place.{first_met}
use Rattle.reservation.proofs.Placings.{legal_digits, reserve_place, release_uses, free_conflict, conflict_free, reserve_uses, reserve_release}
use Rattle.descent.specs.Skip.{RowsOf, NextFree}
use Rattle.descent.specs.Span.{inside, allowed, WindowIs, Windowed}
use Rattle.descent.specs.Tree.{under, tree_answer, tree_probes, Res, broke, all, no_more, rest, run, run_o}
use Rattle.descent.specs.Descent.{MayTry, tell, Wrote, Ready, Done, below, branch}
use Rattle.descent.specs.declared.Found.{Found}
use Rattle.descent.specs.declared.Found.TheVariants.{All, Spent, Nothing}
use Rattle.descent.proofs.Runs.{after_start, run_leaf, run_unfit, run_step, run_broke, run_end, run_all, run_skip_many, run_skip_broke}

-- ---- a start that does not fit

-- what implies something false is false
not_then : (a b : Bool) → (a ≡ true → b ≡ true) → b ≡ false → a ≡ false
not_then true b f e = sym (f refl) ∙ e
not_then false b f e = refl

-- the next operation fits at s exactly where the dependences allow it and it does not conflict
fits_next : (l : Loop) (ii : ℕ) (xs : List ℕ) (s : ℕ)
    → fits_at l ii (placed xs) (length xs) s ≡ (allowed l ii xs (length l.deps) s && not (conflicts l ii (placed xs) (length xs) s))
unfolding allowed
fits_next l ii xs s = fits_tests l ii (placed xs) (length xs) s

module _ (l : Loop) (ii : ℕ) (ok : LoopOk l) (pos : 1 ≤ ii) (xs : List ℕ) (s : ℕ) (in_loop : length xs < size l) where
  -- where the next operation does not fit at s, no list that goes on with s is legal
  unfit_below : fits_at l ii (placed xs) (length xs) s ≡ false → (q : List ℕ) → legal l ii (xs ++ s ∷ q) ≡ false
  unfit_below e q =
      ap (legal l ii) (sym (append_snoc xs s q))
      ∙ not_then (legal l ii ((xs ++ s ∷ []) ++ q)) (legal l ii (xs ++ s ∷ [])) (legal_prefix l ii ok pos (xs ++ s ∷ []) q)
      (legal_snoc l ii ok pos xs s in_loop ∙ ap (λ (b : Bool). legal l ii xs && b) e ∙ and-false (legal l ii xs))

  -- nor is one where the dependences do not allow s
  barred_below : allowed l ii xs (length l.deps) s ≡ false → (q : List ℕ) → legal l ii (xs ++ s ∷ q) ≡ false
  barred_below e = unfit_below (rw (fits_next l ii xs s, e))

module _ (l : Loop) (ii : ℕ) (xs : List ℕ) (h k a b s : ℕ) (w : WindowIs l ii xs h k a b) (m : s < h) where
  -- a start below the horizon is allowed exactly inside the window
  window_says : allowed l ii xs k s ≡ inside a b s
  window_says = ap (λ (c : Bool). c && allowed l ii xs k s) (sym (lt-ltb s h m)) ∙ sym (w s)

  -- from a to b - 1 it is
  in_window : a ≤ s → s < b → allowed l ii xs k s ≡ true
  in_window i j = window_says ∙ and_both (leb a s) (ltb s b) (le-leb a s i) (lt-ltb s b j)

  -- elsewhere it is not
  off_window : (s < a) ⊎ (b ≤ s) → allowed l ii xs k s ≡ false
  off_window (inl i) = window_says ∙ ap (λ (c : Bool). c && ltb s b) (lt-leb a s i)
  off_window (inr i) = window_says ∙ ap (λ (c : Bool). leb a s && c) (le-ltb s b i) ∙ and-false (leb a s)

-- ---- what a branch comes to, read off the answer

-- what is left is no more than there was
spare : (L : List ℕ → Bool) (h m b k : ℕ) → tell (run L h m b) ≡ Nothing k → k ≤ b
unfolding run
spare L h m b k = pick (ltb b (tree_probes L h m)) (tree_answer L h m) (tree_probes L h m)
  where
    pick : (c : Bool) (o : Option (List ℕ)) (p : ℕ) → tell (cond c broke (rest o (b - p))) ≡ Nothing k → k ≤ b
    pick true o p e = cc
    pick false (some a) p e = cc
    pick false none p e = let z : b - p ≡ k = cc in omega arith

module _ (s n : ℕ) (p starts : List ℕ) (f : ℕ → Res) (whole : Res) where
  -- it finds a list: so does the whole
  all_then : (out : Res) (l : ℕ) → whole ≡ after_start s out f → tell out ≡ All l → Wrote n (p ++ s ∷ []) starts out → (All l ≡ tell whole) × Wrote n p starts whole
  all_then broke l e q w = cc
  all_then (all a k) l e q w = rw e (sym q, w ∙ append_snoc p s a)
  all_then (no_more k) l e q w = cc

  -- it spends the budget: so does the whole
  spent_then : (out : Res) → whole ≡ after_start s out f → tell out ≡ Spent → (Spent ≡ tell whole) × Wrote n p starts whole
  spent_then broke e q = rw e (refl, tt)
  spent_then (all a k) e q = cc
  spent_then (no_more k) e q = cc

  -- it finds none: the later starts come to what the whole comes to
  none_then : (out : Res) (l : ℕ) → whole ≡ after_start s out f → tell out ≡ Nothing l → f l ≡ whole
  none_then broke l e q = cc
  none_then (all a k) l e q = cc
  none_then (no_more k) l e q = let z : k ≡ l = cc in rw (e, z)

-- ---- the operation after the first op starts

module _ {f starts rows : List ℕ} {op n ii h : ℕ} (ready : Ready f starts rows op n ii h) (more : op < n) where
  -- the loop is in order
  loop_ok : LoopOk (loop_of f)
  loop_ok = accepted_ok f ready.accepted

  -- it is an operation of the loop
  op_in_lem : op < size (loop_of f)
  op_in_lem = omega (arith, ready.is_size)

  -- these starts are op many
  len : length (take op starts) ≡ op
  len = length-take-le op starts (omega (arith, ready.deep, ready.long))

  -- which is not all operations
  in_loop : length (take op starts) < size (loop_of f)
  in_loop = omega (arith, len, op_in_lem)

  -- it is not placed yet
  open_yet : placed (take op starts) op ≡ none
  open_yet = placed_after (take op starts) op (omega (arith, len))

  -- every count of the cells is a bit
  digits : Digits 2 (cells_of (loop_of f) ii (placed (take op starts)))
  digits = legal_digits (loop_of f) ii (placed (take op starts)) loop_ok ready.fine

  -- where it meets a taken cell, no list that goes on with that start is legal
  taken_bars : (s : ℕ) → (first_met row_base ii rows s (op_at (loop_of f) op).uses ≡ none → ⊥) → (q : List ℕ) → legal (loop_of f) ii (take op starts ++ s ∷ q) ≡ false
  taken_bars s taken =
      unfit_below (loop_of f) ii loop_ok ready.some (take op starts) s in_loop
      (ap (λ (o : ℕ). fits_at (loop_of f) ii (placed (take op starts)) o s) len ∙ no_fit (fits_at (loop_of f) ii (placed (take op starts)) op s) refl)
    where
      no_fit : (c : Bool) → fits_at (loop_of f) ii (placed (take op starts)) op s ≡ c → c ≡ false
      no_fit true e =
          absurd (taken (conflict_free (loop_of f) ii (placed (take op starts)) op s loop_ok ready.some op_in_lem open_yet rows ready.held digits (fits_conflict (loop_of f) ii (placed (take op starts)) op s e)))
      no_fit false e = refl

  -- what is asked to test it against rows that are the same
  pub rows_of : {first : ℕ} {rows₁ : List ℕ} → first ≡ first_use_of (loop_of f) op → rows₁ ≡ rows → RowsOf f rows₁ op first ii
  rows_of e same = record {
    accepted = ready.accepted;
    inside = op_in_lem;
    first_is = e;
    some = ready.some;
    short = ready.short;
    long = omega (arith, ready.held.long, ap (λ (v : List ℕ). length v) same);
  }

-- ---- the turns of `choose`

-- the starts below s are paid for, and what is left to do comes to what the whole comes to
pub record AtProbe (f starts₀ rows₀ : List ℕ) (op n ii h left : ℕ) (starts rows : List ℕ) (purse s : ℕ) : Type 0 where
  pub rows_same : rows ≡ rows₀
  pub kept : take op starts ≡ take op starts₀
  pub same_length : length starts ≡ length starts₀
  pub within : s ≤ h
  pub paid : purse ≤ left
  pub to_come : run_o (under (legal (loop_of f) ii) (take op starts₀)) h (n - op - 1) s (h - s) purse ≡ below f starts₀ op n ii h left

-- the invariant of its loop: s is the next start to try, in the window from .. to - 1; those below `paid` are paid for, and no legal list goes on with one from there to s - 1
pub record AtStart (f starts₀ rows₀ : List ℕ) (op n ii h left from to : ℕ) (starts rows : List ℕ) (purse paid s : ℕ) : Type 0 where
  pub turn : AtProbe f starts₀ rows₀ op n ii h left starts rows purse paid
  pub behind : paid ≤ s
  pub begun : from ≤ s
  pub ahead : s ≤ to
  pub barred : (t : ℕ) → paid ≤ t → t < s → (q : List ℕ) → legal (loop_of f) ii (take op starts₀ ++ t ∷ q) ≡ false

-- the three answers of a start that was tried
pub record AfterProbe (f starts₀ rows₀ : List ℕ) (op n ii h left : ℕ) (later rows : List ℕ) (r : Found) (s : ℕ) : Type 0 where
  pub same : rows ≡ rows₀
  pub if_over : ((k : ℕ) → r ≡ Nothing k → ⊥) → Done (below f starts₀ op n ii h left) n op (take op starts₀) starts₀ later r
  pub if_none : (k : ℕ) → r ≡ Nothing k → AtProbe f starts₀ rows₀ op n ii h left later rows k (s + 1)

module _ {f starts₀ rows₀ : List ℕ} {op n ii h : ℕ} (ready : Ready f starts₀ rows₀ op n ii h) where
  -- which lists are legal after the first op starts
  abbrev L : List ℕ → Bool
  L = under (legal (loop_of f) ii) (take op starts₀)

  -- the empty one is
  here : L [] ≡ true
  here = ap (legal (loop_of f) ii) (append-nil (take op starts₀)) ∙ ready.fine

  -- no operation is left
  pub leaf : {left : ℕ} → op ≡ n → Done (below f starts₀ op n ii h left) n op (take op starts₀) starts₀ starts₀ (All left)
  leaf {left} e =
      let z : n - op ≡ 0 = omega arith in
      let r : below f starts₀ op n ii h left ≡ all [] left = ap (λ (m : ℕ). run L h m left) z ∙ run_leaf L h left here in
      record { says = rw r; list = rw r (ap (λ (k : ℕ). take k starts₀) (sym e) ∙ sym (append-nil (take op starts₀))); kept = refl; same_length = refl }

  -- before the first start
  begins : {left : ℕ} → op < n → AtProbe f starts₀ rows₀ op n ii h left starts₀ rows₀ left 0
  begins {left} l =
      let z : n - op ≡ suc (n - op - 1) = omega arith in
      record {
        rows_same = refl;
        kept = refl;
        same_length = refl;
        within = omega arith;
        paid = omega arith;
        to_come =
            ap (λ (k : ℕ). run_o L h (n - op - 1) 0 k left) (omega arith) ∙ sym (run_all L h (n - op - 1) left)
            ∙ ap (λ (m : ℕ). run L h m left) (sym z);
      }

  -- no legal list goes on with one of the j starts from s on
  abbrev Barred : ℕ → ℕ → Type 0
  Barred s j = (t : ℕ) → s ≤ t → t < s + j → (q : List ℕ) → L (t ∷ q) ≡ false

  module _ {left : ℕ} {starts rows : List ℕ} {purse s : ℕ} (turn : AtProbe f starts₀ rows₀ op n ii h left starts rows purse s) where
    -- j such starts take j probes
    passes : (j : ℕ) → s + j ≤ h → j ≤ purse → Barred s j → AtProbe f starts₀ rows₀ op n ii h left starts rows (purse - j) (s + j)
    passes j m l off =
        let z : h - (s + j) ≡ h - s - j = omega arith in
        record {
          rows_same = turn.rows_same;
          kept = turn.kept;
          same_length = turn.same_length;
          within = m;
          paid = omega (arith, turn.paid);
          to_come =
              ap (λ (k : ℕ). run_o L h (n - op - 1) (s + j) k (purse - j)) z
              ∙ sym (run_skip_many L h (n - op - 1) s (h - s) purse here j (omega arith) l off) ∙ turn.to_come;
        }

    -- more of them than is left: the budget is spent
    runs_out : (j : ℕ) → s + j ≤ h → purse < j → Barred s j → Done (below f starts₀ op n ii h left) n op (take op starts₀) starts₀ starts Spent
    runs_out j m l off =
        let r : below f starts₀ op n ii h left ≡ broke =
        sym turn.to_come ∙ run_skip_broke L h (n - op - 1) s (h - s) purse here j (omega arith) l off in
        record { says = rw r; list = rw r tt; kept = turn.kept; same_length = turn.same_length }

    -- where it ends
    ends : s ≡ h → Done (below f starts₀ op n ii h left) n op (take op starts₀) starts₀ starts (Nothing purse)
    ends e =
        let z : h - s ≡ 0 = omega arith in
        let r : below f starts₀ op n ii h left ≡ no_more purse =
        sym turn.to_come ∙ ap (λ (k : ℕ). run_o L h (n - op - 1) s k purse) z ∙ run_end L h (n - op - 1) s purse in
        record { says = rw r; list = rw r tt; kept = turn.kept; same_length = turn.same_length }

    -- the start s apart from the later ones
    first_apart : s < h → run_o L h (n - op - 1) s (suc (h - suc s)) purse ≡ below f starts₀ op n ii h left
    first_apart l = let z : suc (h - suc s) ≡ h - s = omega arith in ap (λ (k : ℕ). run_o L h (n - op - 1) s k purse) z ∙ turn.to_come

    -- where nothing is left of the budget
    nothing_left : s < h → purse ≡ 0 → Done (below f starts₀ op n ii h left) n op (take op starts₀) starts₀ starts Spent
    nothing_left l e =
        let r : below f starts₀ op n ii h left ≡ broke =
        sym (first_apart l) ∙ ap (λ (b : ℕ). run_o L h (n - op - 1) s (suc (h - suc s)) b) e ∙ run_broke L h (n - op - 1) s (h - suc s) here in
        record { says = rw r; list = rw r tt; kept = turn.kept; same_length = turn.same_length }

    -- the search still stands at operation op
    still : Ready f starts rows op n ii h
    still = record {
      accepted = ready.accepted;
      is_size = ready.is_size;
      deep = ready.deep;
      some = ready.some;
      short = ready.short;
      near = ready.near;
      long = omega (arith, ready.long, turn.same_length);
      early = λ o l. omega (arith, ready.early o l, get_or-take op starts o 0 l, get_or-take op starts₀ o 0 l, ap (λ (x : List ℕ). get_or x o 0) turn.kept);
      held = rw (turn.rows_same, turn.kept) ready.held;
      fine = ap (legal (loop_of f) ii) turn.kept ∙ ready.fine;
    }

    -- a start inside the window may be tried
    pub may_try : {from to : ℕ} → Windowed (loop_of f) ii (take op starts₀) h from to → op < n → from ≤ s → s < to → {first : ℕ} → first ≡ first_use_of (loop_of f) op
        → MayTry f starts rows op n ii h s first
    may_try {from} {to} w o i j e =
        let k = length (loop_of f).deps in
        let l : s < h = omega (arith, w.near) in
        record {
          ready = still;
          inside = o;
          start_near = l;
          unbroken = ap (λ (xs : List ℕ). allowed (loop_of f) ii xs k s) turn.kept ∙ in_window (loop_of f) ii (take op starts₀) h k from to s w.is l i j;
          first_is = e;
        }

    module _ {later : List ℕ} {r : Found} (l : s < h) (more : purse ≡ 0 → ⊥) (tried : Done (branch f starts op n ii h s (purse - 1)) n op (take op starts ++ s ∷ []) starts later r) where
      -- the later starts, with what is left
      abbrev onward : ℕ → Res
      onward = run_o L h (n - op - 1) (suc s) (h - suc s)

      -- what s and the later starts come to
      comes_to : below f starts₀ op n ii h left ≡ after_start s (branch f starts op n ii h s (purse - 1)) onward
      comes_to =
          let y : purse ≡ suc (purse - 1) = omega arith in
          sym (first_apart l) ∙ ap (λ (b : ℕ). run_o L h (n - op - 1) s (suc (h - suc s)) b) y
          ∙ run_step L h (n - op - 1) s (h - suc s) (purse - 1) here
          ∙ ap (λ (p : List ℕ). after_start s (run (under (under (legal (loop_of f) ii) p) (s ∷ [])) h (n - op - 1) (purse - 1)) onward) (sym turn.kept)

      -- the list that s leads to
      wrote : Wrote n (take op starts₀ ++ s ∷ []) later (branch f starts op n ii h s (purse - 1))
      wrote = subst (λ (p : List ℕ). Wrote n (p ++ s ∷ []) later (branch f starts op n ii h s (purse - 1))) turn.kept tried.list

      -- a list is found
      finds : (k : ℕ) → r ≡ All k → Done (below f starts₀ op n ii h left) n op (take op starts₀) starts₀ later (All k)
      finds k e =
          let q = all_then s n (take op starts₀) later onward (below f starts₀ op n ii h left) (branch f starts op n ii h s (purse - 1)) k comes_to (sym tried.says ∙ e) wrote in
          record { says = q.0; list = q.1; kept = tried.kept ∙ turn.kept; same_length = tried.same_length ∙ turn.same_length }

      -- the budget is spent
      stops : r ≡ Spent → Done (below f starts₀ op n ii h left) n op (take op starts₀) starts₀ later Spent
      stops e =
          let q = spent_then s n (take op starts₀) later onward (below f starts₀ op n ii h left) (branch f starts op n ii h s (purse - 1)) comes_to (sym tried.says ∙ e) in
          record { says = q.0; list = q.1; kept = tried.kept ∙ turn.kept; same_length = tried.same_length ∙ turn.same_length }

      -- there is no list
      goes_on : {rows₁ : List ℕ} (k : ℕ) → rows₁ ≡ rows → r ≡ Nothing k → AtProbe f starts₀ rows₀ op n ii h left later rows₁ k (s + 1)
      goes_on k same e =
          let t : tell (branch f starts op n ii h s (purse - 1)) ≡ Nothing k = sym tried.says ∙ e in
          record {
            rows_same = same ∙ turn.rows_same;
            kept = tried.kept ∙ turn.kept;
            same_length = tried.same_length ∙ turn.same_length;
            within = omega arith;
            paid = omega (arith, turn.paid, spare (under (under (legal (loop_of f) ii) (take op starts)) (s ∷ [])) h (n - op - 1) (purse - 1) k t);
            to_come =
                ap (λ (j : ℕ). run_o L h (n - op - 1) j (h - j) k) (add-one s)
                ∙ none_then s n (take op starts₀) later onward (below f starts₀ op n ii h left) (branch f starts op n ii h s (purse - 1)) k comes_to t;
          }

      -- one of the two
      over : (q : Found) → r ≡ q → ((k : ℕ) → q ≡ Nothing k → ⊥) → Done (below f starts₀ op n ii h left) n op (take op starts₀) starts₀ later q
      over (All k) e m = finds k e
      over Spent e m = stops e
      over (Nothing k) e m = absurd (m k refl)

      -- both together
      pub turned : {rows₁ : List ℕ} → rows₁ ≡ rows → AfterProbe f starts₀ rows₀ op n ii h left later rows₁ r s
      turned same = record {
        same = same ∙ turn.rows_same;
        if_over = over r refl;
        if_none = λ k. goes_on k same;
      }

  module _ {from to : ℕ} (w : Windowed (loop_of f) ii (take op starts₀) h from to) (o : op < n) where
    -- no legal list goes on with a start outside the window
    outside : (t : ℕ) → t < h → (t < from) ⊎ (to ≤ t) → (q : List ℕ) → L (t ∷ q) ≡ false
    outside t l i =
        barred_below (loop_of f) ii (accepted_ok f ready.accepted) ready.some (take op starts₀) t (in_loop ready o)
        (off_window (loop_of f) ii (take op starts₀) h (length (loop_of f).deps) from to t w.is l i)

    -- the next start of the window that the rows leave free is the next to try: no legal list goes on with one below the window, or with one that they exclude
    stands : {left : ℕ} {starts rows : List ℕ} {purse paid x s : ℕ} → AtProbe f starts₀ rows₀ op n ii h left starts rows purse paid → NextFree ii rows (op_at (loop_of f) op).uses x to s
        → paid ≤ x → from ≤ x → ((t : ℕ) → paid ≤ t → t < x → t < from) → AtStart f starts₀ rows₀ op n ii h left from to starts rows purse paid s
    stands {left} {starts} {rows} {purse} {paid} {x} {s} turn next i j low = record {
      turn = turn;
      behind = omega (arith, next.behind);
      begun = omega (arith, next.behind);
      ahead = next.ahead;
      barred = λ t l m. pick t l m (dec_lt t x);
    }
      where
        pick : (t : ℕ) → paid ≤ t → t < s → Dec (t < x) → (q : List ℕ) → L (t ∷ q) ≡ false
        pick t l m (yes b) = outside t (omega (arith, next.ahead, w.near)) (inl (low t l b))
        pick t l m (no b) = taken_bars ready o t (λ e. next.taken t (omega arith) m (ap (λ (v : List ℕ). first_met row_base ii v t (op_at (loop_of f) op).uses) turn.rows_same ∙ e))

    -- where the loop begins
    pub enters : {left s : ℕ} → NextFree ii rows₀ (op_at (loop_of f) op).uses from to s → AtStart f starts₀ rows₀ op n ii h left from to starts₀ rows₀ left 0 s
    enters next = stands (begins o) next (omega arith) (omega arith) (λ t l m. m)

    -- and goes on
    pub moves : {left : ℕ} {starts rows : List ℕ} {purse x s : ℕ} → AtProbe f starts₀ rows₀ op n ii h left starts rows purse x → NextFree ii rows (op_at (loop_of f) op).uses x to s → from ≤ x
        → AtStart f starts₀ rows₀ op n ii h left from to starts rows purse x s
    moves turn next j = stands turn next (omega arith) j (λ t l m. absurd (omega arith))

    module _ {left : ℕ} {starts rows : List ℕ} {purse paid s : ℕ} (at : AtStart f starts₀ rows₀ op n ii h left from to starts rows purse paid s) where
      -- what was passed over is paid for
      pub arrives : s - paid ≤ purse → AtProbe f starts₀ rows₀ op n ii h left starts rows (purse - (s - paid)) s
      arrives l =
          let e : paid + (s - paid) ≡ s = omega (arith, at.behind) in
          subst (AtProbe f starts₀ rows₀ op n ii h left starts rows (purse - (s - paid))) e
          (passes at.turn (s - paid) (omega (arith, at.ahead, w.near)) l (λ t i j. at.barred t i (omega arith)))

      -- the budget is spent on that, or nothing is left for s
      pub breaks : s < to → purse ≤ s - paid → Done (below f starts₀ op n ii h left) n op (take op starts₀) starts₀ starts Spent
      breaks i l = pick (dec_lt purse (s - paid))
        where
          pick : Dec (purse < s - paid) → Done (below f starts₀ op n ii h left) n op (take op starts₀) starts₀ starts Spent
          pick (yes m) = runs_out at.turn (s - paid) (omega (arith, at.ahead, at.behind, w.near)) m (λ t j k. at.barred t j (omega arith))
          pick (no m) = nothing_left (arrives (omega arith)) (omega (arith, w.near)) (omega arith)

      -- past the window no legal list goes on with what is left
      rest_barred : to ≤ s → Barred paid (h - paid)
      rest_barred past t i j = pick (dec_lt t s)
        where
          pick : Dec (t < s) → (q : List ℕ) → L (t ∷ q) ≡ false
          pick (yes b) = at.barred t i b
          pick (no b) = outside t (omega (arith, at.turn.within)) (inr (omega arith))

      -- which is paid for: there is no list
      pub leaves : to ≤ s → h - paid ≤ purse → Done (below f starts₀ op n ii h left) n op (take op starts₀) starts₀ starts (Nothing (purse - (h - paid)))
      leaves past l =
          let m : paid + (h - paid) ≡ h = omega (arith, at.turn.within) in ends (passes at.turn (h - paid) (omega arith) l (rest_barred past)) m

      -- or the budget is spent on it
      pub breaks_above : to ≤ s → purse < h - paid → Done (below f starts₀ op n ii h left) n op (take op starts₀) starts₀ starts Spent
      breaks_above past l = runs_out at.turn (h - paid) (omega (arith, at.turn.within)) l (rest_barred past)

    -- a window with no start: none is barred by the rows, and all are paid for at once
    module _ (empty : to ≤ from) where
      -- where the loop would begin and end
      nowhere : {left : ℕ} → AtStart f starts₀ rows₀ op n ii h left from to starts₀ rows₀ left 0 from
      nowhere = enters (record { behind = omega arith; ahead = omega arith; free = λ l. absurd (omega arith); taken = λ t l m. absurd (omega arith) })

      -- there is no list
      pub leaves_empty : {left : ℕ} → h ≤ left → Done (below f starts₀ op n ii h left) n op (take op starts₀) starts₀ starts₀ (Nothing (left - h))
      leaves_empty {left} l =
          subst (λ (k : ℕ). Done (below f starts₀ op n ii h left) n op (take op starts₀) starts₀ starts₀ (Nothing (left - k))) (sub-zero h) (leaves (nowhere {left = left}) (omega arith) (omega arith))

      -- or the budget is spent
      pub breaks_empty : {left : ℕ} → left < h → Done (below f starts₀ op n ii h left) n op (take op starts₀) starts₀ starts₀ Spent
      breaks_empty l = breaks_above nowhere (omega arith) (omega arith)

-- ---- one start, which the dependences allow

module _ {f starts rows : List ℕ} {op n ii h s first : ℕ} (asked : MayTry f starts rows op n ii h s first) where
  -- where the search stands
  abbrev ready : Ready f starts rows op n ii h
  ready = asked.ready

  -- at an operation of the loop
  abbrev more : op < n
  more = asked.inside

  -- the operation
  abbrev p : Op
  p = op_at (loop_of f) op

  -- the operations before it, placed
  abbrev placing : Placing
  placing = placed (take op starts)

  -- the rows with the operation reserved
  abbrev reserved : List ℕ
  reserved = over_uses (with_one row_base) ii s p.uses (length p.uses) rows

  -- it is one of 64
  pub op_few : op < 64
  op_few = omega (arith, op_in_lem ready more, (loop_ok ready more).few)

  -- the first use of the next operation comes after its own
  pub next_use : {k : ℕ} → k ≡ length p.uses → first + k ≡ first_use_of (loop_of f) (op + 1)
  unfolding first_use_of sum_of
  next_use {k} e =
      let z : take (op + 1) (loop_of f).ops ≡ take op (loop_of f).ops ++ (p ∷ []) = ap (λ (j : ℕ). take j (loop_of f).ops) (add-one op) ∙ take-suc (loop_of f).ops op no_op (op_in_lem ready more) in
      let q = sum_append (λ (o : Op). length o.uses) (take op (loop_of f).ops) (p ∷ []) in
      let y : sum_of (λ (o : Op). length o.uses) (take (op + 1) (loop_of f).ops) ≡ sum_of (λ (o : Op). length o.uses) (take op (loop_of f).ops) + (length p.uses + 0) = ap (sum_of (λ (o : Op). length o.uses)) z ∙ q in
      omega (arith, y, asked.first_is)

  -- the number of which is small
  pub next_few : {k : ℕ} → k ≡ length p.uses → first + k ≤ 256
  next_few e = omega (arith, use_within (loop_of f) op (op_in_lem ready more), asked.first_is, all_few (loop_of f) (loop_ok ready more))

  -- it meets a taken cell: nothing begins with it
  pub unfit : {b : ℕ} → (first_met row_base ii rows s p.uses ≡ none → ⊥) → Done (branch f starts op n ii h s b) n op (take op starts ++ s ∷ []) starts starts (Nothing b)
  unfit {b} taken =
      let r : branch f starts op n ii h s b ≡ no_more b = run_unfit (under (under (legal (loop_of f) ii) (take op starts)) (s ∷ [])) h (n - op - 1) b (taken_bars ready more s taken) in
      record { says = rw r; list = rw r tt; kept = refl; same_length = refl }

  -- the starts with one more
  one_more : take (op + 1) (set starts op s) ≡ take op starts ++ s ∷ []
  one_more = ap (λ (k : ℕ). take k (set starts op s)) (add-one op) ∙ take-suc-set starts op s (omega (arith, asked.inside, ready.long))

  -- which place it too
  next_placing : placed (take (op + 1) (set starts op s)) ≡ place_at placing op s
  next_placing = ap placed one_more ∙ placed_snoc (take op starts) s ∙ ap (λ (o : ℕ). place_at placing o s) (len ready more)

  module _ (free : first_met row_base ii rows s p.uses ≡ none) where
    -- it does not conflict
    clear : conflicts (loop_of f) ii placing op s ≡ false
    clear = free_conflict (loop_of f) ii placing op s (loop_ok ready more) ready.some (op_in_lem ready more) (open_yet ready more) rows ready.held (digits ready more) free

    -- so it can be reserved
    pub can_reserve : UsesIn row_base 0 rows ii s p.uses
    can_reserve = reserve_uses (loop_of f) ii placing op s (loop_ok ready more) ready.some (op_in_lem ready more) (open_yet ready more) rows ready.held (digits ready more) (omega (arith, asked.start_near, ready.near)) clear

    -- the table with it
    with_it : {rows₁ : List ℕ} → rows₁ ≡ reserved → IsTable row_base ii (cells_of (loop_of f) ii (place_at placing op s)) rows₁
    with_it e = rw e (reserve_place (loop_of f) ii placing op s (loop_ok ready more) ready.some (op_in_lem ready more) (open_yet ready more) rows ready.held)

    -- it fits
    fits_here : fits_at (loop_of f) ii placing op s ≡ true
    fits_here =
        ap (λ (o : ℕ). fits_at (loop_of f) ii placing o s) (sym (len ready more)) ∙ fits_next (loop_of f) ii (take op starts) s
        ∙ and_both (allowed (loop_of f) ii (take op starts) (length (loop_of f).deps) s) _ asked.unbroken
        (ap (λ (o : ℕ). not (conflicts (loop_of f) ii placing o s)) (len ready more) ∙ false_not (conflicts (loop_of f) ii placing op s) clear)

    -- so the placing with it is legal
    legal_with : legal_at (loop_of f) ii (place_at placing op s) ≡ true
    legal_with =
        legal_place (loop_of f) ii (loop_ok ready more) ready.some placing op s (op_in_lem ready more) (open_yet ready more)
        ∙ and_both (legal_at (loop_of f) ii placing) (fits_at (loop_of f) ii placing op s) ready.fine fits_here

    -- the search stands one operation deeper
    pub deeper : {rows₁ : List ℕ} → rows₁ ≡ reserved → Ready f (set starts op s) rows₁ (op + 1) n ii h
    deeper {rows₁} e = record {
      accepted = ready.accepted;
      is_size = ready.is_size;
      deep = omega (arith, asked.inside);
      some = ready.some;
      short = ready.short;
      near = ready.near;
      long = omega (arith, ready.long, length-set starts op s);
      early = λ o l. pick o (omega arith) (ℕ_discrete o op);
      held = subst (λ (g : Placing). IsTable row_base ii (cells_of (loop_of f) ii g) rows₁) (sym next_placing) (with_it e);
      fine = ap (legal_at (loop_of f) ii) next_placing ∙ legal_with;
    }
      where
        pick : (o : ℕ) → o ≤ op → Dec (o ≡ op) → get_or (set starts op s) o 0 < 4096
        pick o l (yes e) = rw e (omega (arith, get_or-set_same starts op s 0 (omega (arith, asked.inside, ready.long)), asked.start_near, ready.near))
        pick o l (no ne) = omega (arith, get_or-set_other starts op o s 0 ne, ready.early o (omega arith))

    module _ {rows₁ rows₂ : List ℕ} (put : rows₁ ≡ reserved) (same : rows₂ ≡ rows₁) where
      -- the rows as they were after reserving: it can be released
      pub can_release : UsesIn row_base 1 rows₂ ii s p.uses
      can_release =
          release_uses (loop_of f) ii placing op s (loop_ok ready more) ready.some (op_in_lem ready more) (open_yet ready more) (omega (arith, asked.start_near, ready.near)) rows₂ (with_it (same ∙ put))
          (legal_digits (loop_of f) ii (place_at placing op s) (loop_ok ready more) legal_with)

      -- which gives the first rows back
      pub given_back : {rows₃ : List ℕ} → rows₃ ≡ over_uses (less_one row_base) ii s p.uses (length p.uses) rows₂ → rows₃ ≡ rows
      given_back e = e ∙ ap (over_uses (less_one row_base) ii s p.uses (length p.uses)) (same ∙ put) ∙ reserve_release ii s p ((loop_ok ready more).op_ok op (op_in_lem ready more)) ready.some (cells_of (loop_of f) ii placing) rows ready.held

  -- what the operations after it come to is what its branch comes to
  pub back : (b : ℕ) {later : List ℕ} {r : Found} → Done (below f (set starts op s) (op + 1) n ii h b) n (op + 1) (take (op + 1) (set starts op s)) (set starts op s) later r
      → Done (branch f starts op n ii h s b) n op (take op starts ++ s ∷ []) starts later r
  back b {later} done =
      let z : n - (op + 1) ≡ n - op - 1 = omega arith in
      let q : below f (set starts op s) (op + 1) n ii h b ≡ branch f starts op n ii h s b =
      ap (λ (m : ℕ). run (under (legal (loop_of f) ii) (take (op + 1) (set starts op s))) h m b) z
      ∙ ap (λ (x : List ℕ). run (under (legal (loop_of f) ii) x) h (n - op - 1) b) one_more
      ∙ ap (λ (M : List ℕ → Bool). run M h (n - op - 1) b) (fun_ext (λ w. ap (legal (loop_of f) ii) (append_snoc (take op starts) s w))) in
      record {
        says = done.says ∙ ap tell q;
        list = rw (q, one_more) at done.list;
        kept =
            sym (take-take op (op + 1) later (omega arith)) ∙ ap (take op) done.kept ∙ take-take op (op + 1) (set starts op s) (omega arith)
            ∙ take-set-le op starts op s (omega arith);
        same_length = done.same_length ∙ length-set starts op s;
      }
