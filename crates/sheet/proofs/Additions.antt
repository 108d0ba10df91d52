-- One file more in the sums: what is known of a schedule that is found, the 24 numbers raised one after the other, and the sums over a list with one file more. Assumes nothing.
use mathlib.Core.Path.{◌≡◌, refl, sym, ap, ◌∙◌}
use mathlib.Core.Bool.{Bool, cond}
use mathlib.Core.List.{List, [], ◌∷◌, ◌++◌}
use Prim.Native.Nat.{ℕ, zero, suc, ◌+◌, ◌*◌, ◌≤◌, ◌<◌, max}
use native.Mathlib.Omega.{arith}
use lib.Dec.{eqb}
use lib.ListN.{length, get_or, set, take, length-set}
use Rattle.std.specs.Prelude.{Result, Ok, Err}
use Rattle.std.proofs.lemmas.Bool.Decides.{nat_tests}
use Rattle.std.proofs.lemmas.Grind.{common_steps}
use Rattle.model.specs.Lists.{up_from, count_if, sum_of}
use Rattle.model.specs.Refusals.{Answer, answered, refused}
use Rattle.model.specs.Loop.{Loop, size, all_uses}
use Rattle.model.specs.File.{loop_of, Accepted}
use Rattle.model.specs.Legality.{placed}
use Rattle.model.specs.Table.{covered_at}
use Rattle.model.specs.Bounds.{total_on}
use Rattle.model.specs.Search.{Request, Schedule, Outcome, found, ended, SearchIs, by_check, by_bound, by_sweep}
use Rattle.model.specs.Sheet.{sheet_request, Item, Answers, no_more, one_more, Measure, measured, total_of, each, at_bound_count, interval, covered_on}
use Rattle.model.proofs.Lists.{length_tabulate, get_or_tabulate}
use Rattle.model.proofs.Rows.{tabulate_is}
use Rattle.model.proofs.File.{accepted_ok}
use Rattle.model.proofs.Loop.{all_few}
use Rattle.model.proofs.Answers.{search_accepted}
use Rattle.model.proofs.Sheet.{total_more, covered_total}
use Rattle.lower_bounds.proofs.AllUses.{total_all, total_most}
use Rattle.search.specs.Answer.{answer_of, Searches}
use Rattle.search.specs.declared.Solution.{Solution}
use Rattle.search.specs.declared.Unsolved.{Unsolved}
use Rattle.search.specs.declared.Unsolved.TheVariants.{NoSchedule, BudgetSpent, Refused}
use Rattle.search.proofs.Requests.{bound_positive}
use Rattle.search.proofs.Sweeps.{found_is}
use Rattle.sheet.specs.Sums.{sums_of, bound_of, Small, Plus, Counted, Adds}
use Rattle.sheet.specs.declared.sums.Sums.{Sums}

-- ---- a schedule that is found

-- what is known of it
pub record Known (f : List ℕ) (q : Request) (s : Schedule) : Type 0 where
  pub accepted : Accepted f
  pub capped : s.ii ≤ q.cap
  -- each slot's covered cells are the durations on it
  pub covered : (k : ℕ) → covered_on k (loop_of f) s ≡ total_on (loop_of f) k

pub known : (f : List ℕ) (q : Request) (list rows : ℕ) (s : Schedule) → SearchIs f q list rows (answered (found s)) → Known f q s
known f q list rows s (by_check r e p) = absurd (cc)
known f q list rows s (by_bound r e is p) = absurd (cc)
known f q list rows s (by_sweep b e is p) =
    let all : Accepted f = search_accepted f q list rows e in
    let ok = accepted_ok f all in
    let w = found_is (loop_of f) ok q b is s (cc) in
    record {
      accepted = all;
      capped = w.capped;
      covered = λ k. covered_total (loop_of f) s k ok (omega (arith, w.within, bound_positive (loop_of f) (record { resource = b.resource; recurrence = b.recurrence }) is)) w.listed.0 w.is_legal;
    }

-- the durations on a slot are few
pub total_few : (f : List ℕ) → Accepted f → (k : ℕ) → total_on (loop_of f) k ≤ 4096
total_few f all k =
    let l = loop_of f in
    let ok = accepted_ok f all in
    omega (arith, total_all l k, total_most l ok k (length (all_uses l)) (omega arith), all_few l ok)

-- ---- the 24 numbers, raised one after the other

-- the first k of them are
pub record Raised (g : ℕ → ℕ) (k : ℕ) (before after : List ℕ) : Type 0 where
  pub long : length after ≡ length before
  pub done : (j : ℕ) → j < k → get_or after j 0 ≡ get_or before j 0 + g (suc j)
  pub left : (j : ℕ) → k ≤ j → get_or after j 0 ≡ get_or before j 0

pub raised_none : (g : ℕ → ℕ) (xs : List ℕ) → Raised g 0 xs xs
raised_none g xs = record { long = refl; done = λ j l. absurd (omega arith); left = λ j l. refl }

pub raised_next : (g : ℕ → ℕ) (k : ℕ) (before after : List ℕ) (v : ℕ) → k < length before → Raised g k before after → v ≡ get_or after k 0 + g (suc k)
    → Raised g (k + 1) before (set after k v)
raised_next g k before after v l r e = record {
  long = length-set after k v ∙ r.long;
  done = λ j m. grind (arith, common_steps);
  left = λ j m. grind (arith, common_steps);
}

pub raised_all : (g : ℕ → ℕ) (before after : List ℕ) → Raised g 24 before after → Plus g before after
raised_all g before after r = record { long = r.long; at = r.done }

-- what a turn of the loop over them asks
pub ruleset raises = (total_few, raised_none, raised_next, raised_all)

-- ---- the sums over one file more

-- numbers that are equal make equal sums
pub same_sums : (s t : Sums) → s.scheduled ≡ t.scheduled → s.bound ≡ t.bound → s.intervals ≡ t.intervals → s.used ≡ t.used → s ≡ t
same_sums s t a b c d = λ i. record { scheduled = a i; bound = b i; intervals = c i; used = d i }

module _ (items : List Item) (x : Item) where
  -- each slot's number over one file more
  used_more : (xs : List ℕ) → length xs ≡ 24 → ((k : ℕ) → k < 24 → get_or xs k 0 ≡ get_or (sums_of items).used k 0 + measured (covered_on (suc k)) x) → xs ≡ (sums_of (items ++ (x ∷ []))).used
  used_more xs e h =
      sym (tabulate_is (λ k. total_of (covered_on k) (items ++ (x ∷ []))) 1 24 xs 0 (sym e) (λ i l.
      let one : 1 + i ≡ suc i = omega arith in
      ap (λ (k : ℕ). total_of (covered_on k) (items ++ (x ∷ []))) one
      ∙ total_more (covered_on (suc i)) items x
      ∙ ap (λ (n : ℕ). n + measured (covered_on (suc i)) x) (ap (λ (k : ℕ). total_of (covered_on k) items) (sym one) ∙ sym (get_or_tabulate (λ k. total_of (covered_on k) items) 1 24 i 0 l))
      ∙ sym (h i l)))

  -- a file that counts in no total leaves them
  sums_same : ((m : Measure) → measured m x ≡ 0) → sums_of items ≡ sums_of (items ++ (x ∷ []))
  sums_same h =
      same_sums (sums_of items) (sums_of (items ++ (x ∷ []))) (omega (arith, total_more each items x, h each)) (omega (arith, total_more at_bound_count items x, h at_bound_count))
      (omega (arith, total_more interval items x, h interval)) (used_more (sums_of items).used (length_tabulate (λ k. total_of (covered_on k) items) 1 24) (λ k l. omega (arith, h (covered_on (suc k)))))

  -- one that is counted adds its measures
  sums_counted : (g : ℕ → ℕ) (y : Solution) (t r : Sums) → t ≡ sums_of items → Counted g y t r → measured each x ≡ 1 → measured at_bound_count x ≡ bound_of y → measured interval x ≡ y.interval
      → ((k : ℕ) → measured (covered_on k) x ≡ g k) → r ≡ sums_of (items ++ (x ∷ []))
  sums_counted g y t r e c one two three four =
      same_sums r (sums_of (items ++ (x ∷ []))) (omega (arith, c.scheduled, ap (λ (z : Sums). z.scheduled) e, total_more each items x, one))
      (omega (arith, c.bound, ap (λ (z : Sums). z.bound) e, total_more at_bound_count items x, two)) (omega (arith, c.intervals, ap (λ (z : Sums). z.intervals) e, total_more interval items x, three))
      (used_more r.used (c.used.long ∙ ap (λ (z : Sums). length z.used) e ∙ length_tabulate (λ k. total_of (covered_on k) items) 1 24) (λ k l.
      omega (arith, c.used.at k l, ap (λ (z : Sums). get_or z.used k 0) e, four (suc k))))

-- ---- what the search answers

-- an end without a schedule counts in no total
none_measured : (f list : List ℕ) (u : Unsolved) (m : Measure) → measured m (f, answer_of (loop_of f) list (Err u)) ≡ 0
none_measured f list (NoSchedule cap k) m = refl
none_measured f list (BudgetSpent ii k) m = refl
none_measured f list (Refused r) m = refl

-- a search with 64 starts lent, as it is asked for each file
module _ {f list rows : List ℕ} {r : Result Solution Unsolved} {list' rows' : List ℕ} (long : length list ≡ 64) (w : Searches f 4096 256 1000000 list rows r list' rows') where
  is_search : SearchIs f sheet_request 64 (length rows) (answer_of (loop_of f) list' r)
  is_search = rw long at w.says

  -- the sums with what it answers
  adds : (t u : Sums) → ((items : List Item) → t ≡ sums_of items → u ≡ sums_of (items ++ ((f, answer_of (loop_of f) list' r) ∷ []))) → Adds t f rows (record { answer = r; sums = u }) rows'
  adds t u h = record { answer = answer_of (loop_of f) list' r; is = is_search; starts = list'; says = refl; sums_are = h; rows_are = w.rows_are }

-- where it found a schedule
module _ {f list rows : List ℕ} {s : Solution} {list' rows' : List ℕ} (long : length list ≡ 64) (w : Searches f 4096 256 1000000 list rows (Ok s) list' rows') where
  is_known : Known f sheet_request (record { ii = s.interval; bounds = record { resource = s.resource; recurrence = s.recurrence }; stages = s.stages; count = s.probes; starts = take (size (loop_of f)) list' })
  is_known = known f sheet_request 64 (length rows) _ (is_search long w)

  -- the file is accepted and the interval in range
  pub found_accepted : Accepted f × (s.interval ≤ 4096)
  found_accepted = (is_known.accepted, is_known.capped)

  -- and it is counted in
  pub adds_found : (t u : Sums) → Counted (total_on (loop_of f)) s t u → Adds t f rows (record { answer = Ok s; sums = u }) rows'
  adds_found t u c = adds long w t u (λ items q. sums_counted items (f, answer_of (loop_of f) list' (Ok s)) (total_on (loop_of f)) s t u q c refl refl refl is_known.covered)

-- where it found none, nothing changes
pub adds_none : {f list rows : List ℕ} {r : Result Solution Unsolved} {list' rows' : List ℕ} → length list ≡ 64 → Searches f 4096 256 1000000 list rows r list' rows' → (u : Unsolved) → r ≡ Err u → (t : Sums)
    → Adds t f rows (record { answer = r; sums = t }) rows'
adds_none {f} {list' = list'} long w u e t = adds long w t t (rw e (λ items q. q ∙ sums_same items (f, answer_of (loop_of f) list' (Err u)) (none_measured f list' u)))

-- ---- small sums

-- a search's measures are at most 4,096
measures_few : (rows : ℕ) (f : List ℕ) (a : Answer Outcome) → SearchIs f sheet_request 64 rows a → (m : Measure) → ((s : Schedule) → s.ii ≤ 4096 → m (loop_of f) s ≤ 4096) → measured m (f, a) ≤ 4096
measures_few rows f (answered (found s)) is m h = h s (known f sheet_request 64 rows s is).capped
measures_few rows f (answered (ended r n)) is m h = omega arith
measures_few rows f (refused r) is m h = omega arith

-- so their total is small
total_small : (m : Measure) → ((l : Loop) (s : Schedule) → s.ii ≤ 4096 → m l s ≤ 4096) → {rows : ℕ} {fs : List (List ℕ)} {items : List Item} → Answers rows fs items → total_of m items ≤ 4096 * length items
unfolding total_of sum_of
total_small m h no_more = omega arith
total_small m h {rows} (one_more {f} {a = a} is rest) = omega (arith, measures_few rows f a is m (h (loop_of f)), total_small m h rest)

-- no more pass than there are
count_most : (p : ℕ → Bool) (a n : ℕ) → count_if p (up_from a n) ≤ n
unfolding count_if up_from
count_most p a zero = omega arith
count_most p a (suc n) = grind (arith, nat_tests, count_most p (suc a) n)

-- a file counts once at most among those at the larger bound
flag_small : (b : Bool) → cond b 1 0 ≤ 4096
flag_small b = grind (arith, nat_tests)

-- the sums over at most 32 files are small
pub small : {rows : ℕ} {fs : List (List ℕ)} {items : List Item} → Answers rows fs items → length items ≤ 32 → Small (sums_of items)
unfolding covered_on
small {items = items} w few = record {
  scheduled = omega (arith, total_small each (λ l s h. omega arith) w);
  bound = omega (arith, total_small at_bound_count (λ l s h. flag_small (eqb s.ii (max s.bounds.resource s.bounds.recurrence))) w);
  intervals = omega (arith, total_small interval (λ l s h. h) w);
  used = record {
    long = length_tabulate (λ k. total_of (covered_on k) items) 1 24;
    low = λ k l. omega (
      arith,
      get_or_tabulate (λ k. total_of (covered_on k) items) 1 24 k 0 l,
      total_small (covered_on (1 + k)) (λ l s h. omega (arith, count_most (covered_at l s.ii (placed s.starts) (1 + k)) 0 s.ii)) w,
    );
  };
}
