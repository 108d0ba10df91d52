-- What the sweep over the intervals uses: one interval, searched from its empty prefix, as a step of the model's sweep. Assumes nothing.
use mathlib.Core.Path.{◌≡◌, refl, sym, ap, ◌∙◌}
use mathlib.Core.List.{List, [], ◌∷◌}
use mathlib.Core.Option.{Option, none, some}
use Prim.Native.Nat.{ℕ, suc, ◌+◌, ◌-◌, ◌≤◌, ◌<◌}
use native.Mathlib.Decide.{dec_lt}
use native.Mathlib.Numerals.{add-one}
use native.Mathlib.Omega.{arith}
use borrow.Author.Tests.{lt-ltb, le-ltb}
use lib.ListN.{length, take}
use Rattle.model.specs.Lists.{up_from}
use Rattle.std.specs.Prelude.{Ok, Err}
use Rattle.model.specs.Refusals.{answered}
use Rattle.model.specs.Loop.{Loop, size}
use Rattle.model.specs.File.{loop_of}
use Rattle.model.specs.Legality.{placed, legal}
use Rattle.model.specs.Bounds.{Lower}
use Rattle.model.specs.Search.{answer, probes, Request, Outcome, try_interval, sweep}
use Rattle.model.proofs.File.{accepted_ok}
use Rattle.model.proofs.Table.{table_nil, cells_nothing}
use Rattle.model.proofs.Counts.{legal_nil}
use Rattle.descent.specs.Tree.{res_of, run}
use Rattle.descent.specs.Descent.{tell, Wrote, Ready, Done, below}
use Rattle.search.specs.Sweep.{Clear, outcome_of, SweptIs}
use Rattle.search.specs.declared.Unsolved.TheVariants.{NoSchedule, BudgetSpent}
use Rattle.descent.specs.declared.Found.{Found}
use Rattle.descent.specs.declared.Found.TheVariants.{All, Spent, Nothing}
use Rattle.descent.proofs.Runs.{answer_run}

-- ---- the intervals that are left

-- the first of them apart from the others
up_cons : (ii cap : ℕ) → ii ≤ cap → up_from ii (suc cap - ii) ≡ ii ∷ up_from (suc ii) (suc cap - suc ii)
unfolding up_from
up_cons ii cap l = let z : suc cap - ii ≡ suc (suc cap - suc ii) = omega arith in ap (up_from ii) z

-- none above the cap
up_end : (ii cap : ℕ) → cap < ii → up_from ii (suc cap - ii) ≡ []
unfolding up_from
up_end ii cap l = let z : suc cap - ii ≡ 0 = omega arith in ap (up_from ii) z

-- ---- one interval

module _ (l : Loop) (q : Request) (b : Lower) (n : ℕ) (starts : List ℕ) (ii left k : ℕ) (later : ℕ → Outcome) (few : left ≤ q.budget) where
  -- what the interval comes to, where its probes are k
  abbrev step : Option (List ℕ) → Outcome
  step o = try_interval l q b ii (q.budget - left + k) o (later (q.budget - left + k))

  -- the same by what is said of it: a list is found, there is none, or the budget is spent; and no more is left than there was
  abbrev CameTo : Found → Outcome → Type 0
  CameTo (All m) out = (m ≤ left) × (answered out ≡ outcome_of l b n starts (Ok (ii, q.budget - m)))
  CameTo (Nothing m) out = (m ≤ left) × (out ≡ later (q.budget - m))
  CameTo Spent out = answered out ≡ outcome_of l b n starts (Err (BudgetSpent ii q.budget))

  came_to : (o : Option (List ℕ)) → Dec (left < k) → Wrote n [] starts (res_of left o k) → CameTo (tell (res_of left o k)) (step o)
  came_to none (yes m) w = rw (lt-ltb left k m, lt-ltb q.budget (q.budget - left + k) (omega arith))
  came_to (some a) (yes m) w = rw (lt-ltb left k m, lt-ltb q.budget (q.budget - left + k) (omega arith))
  came_to none (no m) w =
      let y : q.budget - left + k ≡ q.budget - (left - k) = omega arith in
      rw (le-ltb left k (omega arith), le-ltb q.budget (q.budget - left + k) (omega arith)) (omega arith, ap later y)
  came_to (some a) (no m) w =
      let y : q.budget - left + k ≡ q.budget - (left - k) = omega arith in
      let v : take n starts ≡ a = rw (le-ltb left k (omega arith)) at w in
      rw (le-ltb left k (omega arith), le-ltb q.budget (q.budget - left + k) (omega arith), y, v) (omega arith, refl)

-- ---- the turns of the loop

-- the request of these numbers
abbrev asking : (cap h budget : ℕ) → Request
asking cap h budget = record { cap = cap; horizon = h; budget = budget }

-- the invariant of the loop: the intervals that are left come to what all come to
pub record Pass (f starts₀ rows₀ : List ℕ) (n least cap h budget : ℕ) (starts rows : List ℕ) (left ii : ℕ) : Type 0 where
  pub rows_same : rows ≡ rows₀
  pub same_length : length starts ≡ length starts₀
  pub from_least : least ≤ ii
  pub paid : left ≤ budget
  pub to_come : (b : Lower)
      → sweep (loop_of f) (asking cap h budget) b (budget - left) (up_from ii (suc cap - ii)) ≡ sweep (loop_of f) (asking cap h budget) b 0 (up_from least (suc cap - least))

module _ {f starts₀ rows₀ : List ℕ} {n least cap h budget : ℕ} (clear : Clear f starts₀ rows₀ n least cap h) where
  -- at the beginning
  pub begins : Pass f starts₀ rows₀ n least cap h budget starts₀ rows₀ budget least
  begins = record {
    rows_same = refl;
    same_length = refl;
    from_least = omega arith;
    paid = omega arith;
    to_come = λ b. let z : budget - budget ≡ 0 = omega arith in rw z;
  }

  module _ {starts rows : List ℕ} {left ii : ℕ} (pass : Pass f starts₀ rows₀ n least cap h budget starts rows left ii) where
    -- no interval is left
    pub ends : cap < ii → SweptIs f n least cap h budget starts (Err (NoSchedule cap (budget - left)))
    unfolding sweep
    ends m b = ap answered (ap (sweep (loop_of f) (asking cap h budget) b (budget - left)) (sym (up_end ii cap m)) ∙ pass.to_come b)

    module _ (m : ii ≤ cap) where
      -- an interval can be searched
      pub ready : Ready f starts rows 0 n ii h
      ready = record {
        accepted = clear.accepted;
        is_size = clear.is_size;
        deep = omega arith;
        some = omega (arith, clear.some, pass.from_least);
        short = omega (arith, clear.capped);
        near = clear.near;
        long = omega (arith, clear.room, pass.same_length);
        early = λ o l. absurd (omega arith);
        held =
            rw (cells_nothing (loop_of f) ii (placed []) (λ o. refl), pass.rows_same)
            (table_nil 2 ii rows₀ (omega (arith, clear.long, clear.capped)) (λ r l. clear.clear r (omega (arith, clear.capped))));
        fine = legal_nil (loop_of f) ii (accepted_ok f clear.accepted) (omega (arith, clear.some, pass.from_least));
      }

      -- what it comes to
      is_res : below f starts 0 n ii h left ≡ res_of left (answer (legal (loop_of f) ii) h (size (loop_of f))) (probes (legal (loop_of f) ii) h (size (loop_of f)))
      is_res =
          let z : n - 0 ≡ suc (n - 1) = omega (arith, clear.is_size, (accepted_ok f clear.accepted).some) in
          let y : suc (n - 1) ≡ size (loop_of f) = omega (arith, clear.is_size, (accepted_ok f clear.accepted).some) in
          ap (λ (k : ℕ). run (legal (loop_of f) ii) h k left) z
          ∙ answer_run (legal (loop_of f) ii) h (n - 1) left
          ∙ ap (λ (k : ℕ). res_of left (answer (legal (loop_of f) ii) h k) (probes (legal (loop_of f) ii) h k)) y

      -- the probes
      abbrev taken : ℕ
      taken = probes (legal (loop_of f) ii) h (size (loop_of f))

      -- the answer
      abbrev has : Option (List ℕ)
      has = answer (legal (loop_of f) ii) h (size (loop_of f))

      -- the later intervals
      abbrev onward : Lower → ℕ → Outcome
      onward b spent = sweep (loop_of f) (asking cap h budget) b spent (up_from (suc ii) (suc cap - suc ii))

      -- the interval, then the later ones
      comes_to : (b : Lower) → try_interval (loop_of f) (asking cap h budget) b ii (budget - left + taken) has (onward b (budget - left + taken)) ≡ sweep (loop_of f) (asking cap h budget) b 0 (up_from least (suc cap - least))
      unfolding sweep
      comes_to b = ap (sweep (loop_of f) (asking cap h budget) b (budget - left)) (sym (up_cons ii cap m)) ∙ pass.to_come b

      -- what the search of the interval leaves
      abbrev Left : List ℕ → Found → Type 0
      Left later r = Done (below f starts 0 n ii h left) n 0 (take 0 starts) starts later r

      turned : (b : Lower) (later : List ℕ) (r : Found) → Left later r
          → CameTo (loop_of f) (asking cap h budget) b n later ii left taken (onward b) pass.paid r (try_interval (loop_of f) (asking cap h budget) b ii (budget - left + taken) has (onward b (budget - left + taken)))
      turned b later r done =
          rw (done.says, is_res)
          (came_to (loop_of f) (asking cap h budget) b n later ii left taken (onward b) pass.paid has (dec_lt left taken) (rw is_res at done.list))

      -- a list is found, with no more left than there was
      pub finds : {later : List ℕ} {k : ℕ} → Left later (All k) → SweptIs f n least cap h budget later (Ok (ii, budget - k)) × (k ≤ budget)
      finds {later} {k} done = (λ b. sym (turned b later (All k) done).1 ∙ ap answered (comes_to b), omega (arith, pass.paid, (turned (record { resource = 0; recurrence = 0 }) later (All k) done).0))

      -- the budget is spent
      pub stops : {later : List ℕ} → Left later Spent → SweptIs f n least cap h budget later (Err (BudgetSpent ii budget))
      stops {later} done b = sym (turned b later Spent done) ∙ ap answered (comes_to b)

      -- there is no list
      pub goes_on : {later rows₁ : List ℕ} {k : ℕ} → rows₁ ≡ rows → Left later (Nothing k) → Pass f starts₀ rows₀ n least cap h budget later rows₁ k (ii + 1)
      goes_on {later} {k = k} same done =
          record {
            rows_same = same ∙ pass.rows_same;
            same_length = done.same_length ∙ pass.same_length;
            from_least = omega (arith, pass.from_least);
            paid = omega (arith, pass.paid, (turned (record { resource = 0; recurrence = 0 }) later (Nothing k) done).0);
            to_come = λ b.
                ap (λ (j : ℕ). sweep (loop_of f) (asking cap h budget) b (budget - k) (up_from j (suc cap - j))) (add-one ii) ∙ sym (turned b later (Nothing k) done).1 ∙ comes_to b;
          }
