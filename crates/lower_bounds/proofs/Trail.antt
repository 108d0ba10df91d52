-- After n rounds, the starts meet every dependence or there is a heavy closed walk of at most n dependences.
--
-- Each value comes with a trail, the dependences that made it: the operations that it passes, the value each had then, latest first.
-- A value is stored only where it is above the one that stands there, and values only rise, so an operation that a trail passes twice has risen between.
-- In round r, only an operation whose trail has r dependences can raise another: an operation that did not change since the last round raises nothing.
use mathlib.Core.Path.{◌≡◌, refl, sym, ap, ◌∙◌}
use mathlib.Core.List.{List, [], ◌∷◌}
use mathlib.Core.Logic.{◌≢◌, ◌⊎◌, inl, inr}
use Prim.Native.Nat.{ℕ, zero, suc, ◌+◌, ◌-◌, ◌*◌, ◌≤◌, ◌<◌}
use native.Mathlib.Nat.{le_trans, le_refl, le_of_eq, mul-add, add-suc, add-zero}
use native.Mathlib.Decide.{ℕ_discrete, dec_lt}
use native.Mathlib.Omega.{arith}
use lib.ListN.{length, get_or, set, replicate, length-set, length-replicate, get_or-replicate}
use lib.Seq.{get_or-set_same, get_or-set_other}
use Rattle.model.specs.Loop.{Dep, Loop, size, dep_at}
use Rattle.model.specs.Bounds.{Goes, distance_of, Feasible}
use Rattle.model.specs.Integers.{plus, minus}
use Rattle.model.proofs.Signed.{is_pos, of_lt}
use Rattle.model.proofs.Bounds.{Met, each_met, plus_of, minus_of, delay_parts}
use Rattle.lower_bounds.specs.Walks.{Refuted}
use Rattle.lower_bounds.proofs.Hole.{Twice, pigeonhole}
use Rattle.lower_bounds.specs.Rounds.{needed, relax, relax_to, round, rounds}
use Rattle.lower_bounds.proofs.Rounds.{MeetsAll, AllWithin, relax_met, relax_unmet, set_up, rounds_length}

-- one more in front
abbrev before : ℕ → (ℕ → ℕ) → ℕ → ℕ
before a f zero = a
before a f (suc i) = f i

module _ (L : Loop) (ii : ℕ) where
  -- the number of operations
  abbrev n : ℕ
  n = size L

  -- dependence k leads from operation u of value a to operation v and makes it b
  record Step (k u a v b : ℕ) : Type 0 where
    known : k < length L.deps
    leaves : (dep_at L k).src ≡ u
    arrives : (dep_at L k).dst ≡ v
    adds : b + (minus (dep_at L k).delay + ii * (dep_at L k).distance) ≡ a + plus (dep_at L k).delay

  -- how v came to its value in xs, by k dependences
  record Trail (xs : List ℕ) (v k : ℕ) : Type 0 where
    node : ℕ → ℕ
    value : ℕ → ℕ
    edge : ℕ → ℕ
    ends : node 0 ≡ v
    worth : value 0 ≡ get_or xs v 0
    inside : (i : ℕ) → i ≤ k → node i < n
    step : (i : ℕ) → i < k → Step (edge i) (node (suc i)) (value (suc i)) (node i) (value i)
    strict : (i j : ℕ) → i < j → j ≤ k → node i ≡ node j → value j < value i
    below : (i : ℕ) → i ≤ k → value i ≤ get_or xs (node i) 0

  -- by r dependences or more
  record Deep (r : ℕ) (xs : List ℕ) (v : ℕ) : Type 0 where
    depth : ℕ
    deep : r ≤ depth
    trail : Trail xs v depth

  -- ---- a trail that passes an operation twice holds a heavy closed walk
  module _ {xs : List ℕ} {v k : ℕ} (t : Trail xs v k) where
    -- from place i + c to place i
    part : ℕ → ℕ → List ℕ
    part i zero = []
    part i (suc c) = t.edge (i + c) ∷ part i c

    part_length : (i c : ℕ) → length (part i c) ≡ c
    unfolding part
    part_length i zero = refl
    part_length i (suc c) = ap suc (part_length i c)

    part_goes : (i c : ℕ) → i + c ≤ k → Goes L (t.node (i + c)) (part i c) (t.node i)
    unfolding part
    part_goes i zero h = ap t.node (add-zero i)
    part_goes i (suc c) h =
        let s : Step (t.edge (i + c)) (t.node (suc (i + c))) (t.value (suc (i + c))) (t.node (i + c)) (t.value (i + c)) = t.step (i + c) (omega arith) in
        (s.known, s.leaves ∙ ap t.node (sym (add-suc i c)), rw s.arrives (part_goes i c (omega arith)))

    part_adds : (i c : ℕ) → i + c ≤ k → t.value i + (minus_of L (part i c) + ii * distance_of L (part i c)) ≡ t.value (i + c) + plus_of L (part i c)
    unfolding part minus_of plus_of distance_of
    part_adds i zero h = rw (add-zero i) (omega arith)
    part_adds i (suc c) h =
        let s : Step (t.edge (i + c)) (t.node (suc (i + c))) (t.value (suc (i + c))) (t.node (i + c)) (t.value (i + c)) = t.step (i + c) (omega arith) in
        rw (add-suc i c) (omega (arith, s.adds, part_adds i c (omega arith), mul-add ii (dep_at L (t.edge (i + c))).distance (distance_of L (part i c))))

    twice : n ≤ k → Twice t.node n → Refuted L ii
    twice l w =
        let i : ℕ = w.one in
        let c : ℕ = w.two - w.one in
        let lt : w.one < w.two = w.before in
        let e : i + c ≡ w.two = omega arith in
        let q : t.node (i + c) ≡ t.node i = ap t.node e ∙ sym w.equal in
        let le : w.two ≤ n = w.upto in
        let fits : i + c ≤ k = omega arith in
        let some : 0 < c = omega arith in
        record {
          walk = part i c;
          closed = record { some = rw (part_length i c) some; from = t.node i; goes = rw q at (part_goes i c fits) };
          short = rw (part_length i c) (omega arith);
          heavy = of_lt (is_pos (ii * distance_of L (part i c))) (delay_parts L (part i c)) (omega (arith, part_adds i c fits, t.strict i w.two lt (omega arith) w.equal, ap t.value e));
        }

    -- and so does one of n dependences
    long : n ≤ k → Refuted L ii
    long l = twice l (pigeonhole n t.node (λ i h. t.inside i (omega arith)))

  shallower : {r : ℕ} {xs : List ℕ} {v : ℕ} (q : ℕ) → q ≤ r → Deep r xs v → Deep q xs v
  shallower q h d = record { depth = d.depth; deep = le_trans h d.deep; trail = d.trail }

  -- ---- dependence k, not met, raises its target
  module _ (within : AllWithin n L) (r : ℕ) (xs : List ℕ) (size : length xs ≡ n) (k : ℕ) (known : k < length L.deps) (unmet : get_or xs (dep_at L k).dst 0 < needed ii xs (dep_at L k)) (from : Deep r xs (dep_at L k).src) where
    raised : List ℕ
    raised = set xs (dep_at L k).dst (needed ii xs (dep_at L k))

    inside' : (dep_at L k).dst < length xs
    inside' = omega (arith, (within k known).target)

    raised_up : (i : ℕ) → get_or xs i 0 ≤ get_or raised i 0
    unfolding raised
    raised_up i = set_up xs (dep_at L k).dst (needed ii xs (dep_at L k)) i (omega arith) inside'

    raised_at : get_or raised (dep_at L k).dst 0 ≡ needed ii xs (dep_at L k)
    unfolding raised
    raised_at = get_or-set_same xs (dep_at L k).dst (needed ii xs (dep_at L k)) 0 inside'

    raised_other : (i : ℕ) → i ≢ (dep_at L k).dst → get_or raised i 0 ≡ get_or xs i 0
    unfolding raised
    raised_other i o = get_or-set_other xs (dep_at L k).dst i (needed ii xs (dep_at L k)) 0 o

    -- its trail is its source's and one more
    grown : Deep (suc r) raised (dep_at L k).dst
    grown = record {
      depth = suc from.depth;
      deep = omega (arith, from.deep);
      trail = record {
        node = before v t.node;
        value = before b t.value;
        edge = before k t.edge;
        ends = refl;
        worth = sym raised_at;
        inside = inside;
        step = step;
        strict = strict;
        below = below;
      };
    }
      where
        t : Trail xs (dep_at L k).src from.depth
        t = from.trail

        v : ℕ
        v = (dep_at L k).dst

        b : ℕ
        b = needed ii xs (dep_at L k)

        inside : (i : ℕ) → i ≤ suc from.depth → before v t.node i < n
        inside zero h = (within k known).target
        inside (suc i) h = t.inside i (omega arith)

        step : (i : ℕ) → i < suc from.depth → Step (before k t.edge i) (before v t.node (suc i)) (before b t.value (suc i)) (before v t.node i) (before b t.value i)
        step zero h = record { known = known; leaves = sym t.ends; arrives = refl; adds = omega (arith, t.worth) }
        step (suc i) h = t.step i (omega arith)

        strict : (i j : ℕ) → i < j → j ≤ suc from.depth → before v t.node i ≡ before v t.node j → before b t.value j < before b t.value i
        strict zero zero p h e = absurd (omega arith)
        strict (suc i) zero p h e = absurd (omega arith)
        strict zero (suc j) p h e = omega (arith, t.below j (omega arith), ap (λ (u : ℕ). get_or xs u 0) e)
        strict (suc i) (suc j) p h e = t.strict i j (omega arith) (omega arith) e

        below : (i : ℕ) → i ≤ suc from.depth → before b t.value i ≤ get_or raised (before v t.node i) 0
        below zero h = le_of_eq (sym raised_at)
        below (suc i) h = le_trans (t.below i (omega arith)) (raised_up (t.node i))

    carry : (q : ℕ) → q ≤ suc r → (u : ℕ) → Deep q xs u → Deep q raised u
    carry q h u d = go (ℕ_discrete u (dep_at L k).dst)
      where
        go : Dec (u ≡ (dep_at L k).dst) → Deep q raised u
        go (yes e) = rw e (shallower q h grown)
        go (no o) = record {
          depth = d.depth;
          deep = d.deep;
          trail = record {
            node = d.trail.node;
            value = d.trail.value;
            edge = d.trail.edge;
            ends = d.trail.ends;
            worth = d.trail.worth ∙ sym (raised_other u o);
            inside = d.trail.inside;
            step = d.trail.step;
            strict = d.trail.strict;
            below = λ i l. le_trans (d.trail.below i l) (raised_up (d.trail.node i));
          };
        }

    -- what is met or has a deep source stays so
    carry_edge : (q : ℕ) → q ≤ suc r → (d : Dep) → Met ii xs d ⊎ Deep q xs d.src → Met ii raised d ⊎ Deep q raised d.src
    carry_edge q h d (inr w) = inr (carry q h d.src w)
    carry_edge q h d (inl m) = go (ℕ_discrete d.src (dep_at L k).dst)
      where
        go : Dec (d.src ≡ (dep_at L k).dst) → Met ii raised d ⊎ Deep q raised d.src
        go (yes e) = inr (rw e (shallower q h grown))
        go (no o) = inl (omega (arith, raised_other d.src o, raised_up d.dst))

    itself : Met ii raised (dep_at L k) ⊎ Deep (suc r) raised (dep_at L k).src
    itself = go (ℕ_discrete (dep_at L k).src (dep_at L k).dst)
      where
        go : Dec ((dep_at L k).src ≡ (dep_at L k).dst) → Met ii raised (dep_at L k) ⊎ Deep (suc r) raised (dep_at L k).src
        go (yes e) = inr (rw e grown)
        go (no o) = inl (omega (arith, raised_other (dep_at L k).src o, raised_at))

  -- ---- round r, after k dependences
  record Mid (r k : ℕ) (xs : List ℕ) : Type 0 where
    size : length xs ≡ n
    done : (j : ℕ) → j < k → j < length L.deps → Met ii xs (dep_at L j) ⊎ Deep (suc r) xs (dep_at L j).src
    todo : (j : ℕ) → k ≤ j → j < length L.deps → Met ii xs (dep_at L j) ⊎ Deep r xs (dep_at L j).src

  module _ (within : AllWithin n L) where
    mid_met : (r k : ℕ) (xs : List ℕ) → Mid r k xs → Met ii xs (dep_at L k) → Mid r (suc k) xs
    mid_met r k xs m h = record { size = m.size; done = λ j l o. go j l o (ℕ_discrete j k); todo = λ j l. m.todo j (omega arith) }
      where
        go : (j : ℕ) → j < suc k → j < length L.deps → Dec (j ≡ k) → Met ii xs (dep_at L j) ⊎ Deep (suc r) xs (dep_at L j).src
        go j l o (yes e) = inl (rw e h)
        go j l o (no e) = m.done j (omega arith) o

    mid_raised : (r k : ℕ) (xs : List ℕ) (m : Mid r k xs) (known : k < length L.deps) (unmet : get_or xs (dep_at L k).dst 0 < needed ii xs (dep_at L k)) (from : Deep r xs (dep_at L k).src) → Mid r (suc k) (set xs (dep_at L k).dst (needed ii xs (dep_at L k)))
    unfolding raised
    mid_raised r k xs m known unmet from = record {
      size = length-set xs (dep_at L k).dst (needed ii xs (dep_at L k)) ∙ m.size;
      done = λ j l o. go j l o (ℕ_discrete j k);
      todo = λ j l o. carry_edge within r xs m.size k known unmet from r (omega arith) (dep_at L j) (m.todo j (omega arith) o);
    }
      where
        go : (j : ℕ) → j < suc k → j < length L.deps → Dec (j ≡ k) → Met ii (raised within r xs m.size k known unmet from) (dep_at L j) ⊎ Deep (suc r) (raised within r xs m.size k known unmet from) (dep_at L j).src
        go j l o (yes e) = rw e (itself within r xs m.size k known unmet from)
        go j l o (no e) = carry_edge within r xs m.size k known unmet from (suc r) (le_refl (suc r)) (dep_at L j) (m.done j (omega arith) o)

    mid_next : (r k : ℕ) (xs : List ℕ) → Mid r k xs → k < length L.deps → Mid r (suc k) (relax ii (dep_at L k) xs)
    mid_next r k xs m l = go (m.todo k (le_refl k) l) (dec_lt (get_or xs (dep_at L k).dst 0) (needed ii xs (dep_at L k)))
      where
        met : Met ii xs (dep_at L k) → Mid r (suc k) (relax ii (dep_at L k) xs)
        met h = rw (relax_met ii (dep_at L k) xs h) (mid_met r k xs m h)

        go : Met ii xs (dep_at L k) ⊎ Deep r xs (dep_at L k).src → Dec (get_or xs (dep_at L k).dst 0 < needed ii xs (dep_at L k)) → Mid r (suc k) (relax ii (dep_at L k) xs)
        go (inl h) t = met h
        go (inr d) (no o) = met (omega arith)
        go (inr d) (yes h) = rw (relax_unmet ii (dep_at L k) xs h) (mid_raised r k xs m l h d)

    mid_to : (r : ℕ) (xs : List ℕ) → Mid r 0 xs → (k : ℕ) → k ≤ length L.deps → Mid r k (relax_to L ii k xs)
    unfolding relax_to
    mid_to r xs m zero l = m
    mid_to r xs m (suc k) l = mid_next r k (relax_to L ii k xs) (mid_to r xs m k (omega arith)) l

    mid_round : (r : ℕ) (xs : List ℕ) → Mid r 0 xs → Mid (suc r) 0 (round L ii xs)
    unfolding round
    mid_round r xs m =
        let e : Mid r (length L.deps) (relax_to L ii (length L.deps) xs) = mid_to r xs m (length L.deps) (le_refl (length L.deps)) in
        record { size = e.size; done = λ j l o. absurd (omega arith); todo = λ j l o. e.done j o o }

    -- at the start every value is 0, by no dependence
    start : Mid 0 0 (replicate n 0)
    start = record {
      size = length-replicate n 0;
      done = λ j l o. absurd (omega arith);
      todo = λ j l o. inr (record {
        depth = 0;
        deep = le_refl 0;
        trail = record {
          node = λ i. (dep_at L j).src;
          value = λ i. 0;
          edge = λ i. 0;
          ends = refl;
          worth = sym (get_or-replicate n (dep_at L j).src 0 0 (within j o).source);
          inside = λ i h. (within j o).source;
          step = λ i h. absurd (omega arith);
          strict = λ a b p q e. absurd (omega arith);
          below = λ i h. omega arith;
        };
      });
    }

    after : (r : ℕ) → Mid r 0 (rounds L ii n r)
    unfolding rounds
    after zero = start
    after (suc r) = mid_round r (rounds L ii n r) (after r)

    all_or : (xs : List ℕ) → ((j : ℕ) → j < length L.deps → Met ii xs (dep_at L j) ⊎ Deep n xs (dep_at L j).src) → (k : ℕ) → k ≤ length L.deps → ((j : ℕ) → j < k → Met ii xs (dep_at L j)) ⊎ Refuted L ii
    all_or xs f zero l = inl (λ j h. absurd (omega arith))
    all_or xs f (suc k) l = go (f k l) (all_or xs f k (omega arith))
      where
        go : Met ii xs (dep_at L k) ⊎ Deep n xs (dep_at L k).src → ((j : ℕ) → j < k → Met ii xs (dep_at L j)) ⊎ Refuted L ii → ((j : ℕ) → j < suc k → Met ii xs (dep_at L j)) ⊎ Refuted L ii
        go (inr d) s = inr (long d.trail d.deep)
        go (inl h) (inr s) = inr s
        go (inl h) (inl g) = inl (λ j o. last j o (ℕ_discrete j k))
          where
            last : (j : ℕ) → j < suc k → Dec (j ≡ k) → Met ii xs (dep_at L j)
            last j o (yes e) = rw e h
            last j o (no e) = g j (omega arith)

    -- ---- 3. n rounds are enough
    pub rounds_decide : MeetsAll L ii (rounds L ii n n) ⊎ Refuted L ii
    rounds_decide = all_or (rounds L ii n n) (λ j l. (after n).todo j (omega arith) l) (length L.deps) (le_refl (length L.deps))

    pub decide : Feasible L ii ⊎ Refuted L ii
    decide = go rounds_decide
      where
        go : MeetsAll L ii (rounds L ii n n) ⊎ Refuted L ii → Feasible L ii ⊎ Refuted L ii
        go (inl h) = inl (record { starts = rounds L ii n n; all_ops = rounds_length L ii n n; all_met = each_met L within ii (rounds L ii n n) (rounds_length L ii n n) h })
        go (inr w) = inr w

    -- in round n, the last, a dependence that is not met at its turn shows a heavy closed walk
    late : (r : ℕ) → n ≤ suc r → (k : ℕ) → k < length L.deps → get_or (relax_to L ii k (rounds L ii n r)) (dep_at L k).dst 0 < needed ii (relax_to L ii k (rounds L ii n r)) (dep_at L k) → Refuted L ii
    late r h k l unmet = go (m.todo k (le_refl k) l)
      where
        xs : List ℕ
        xs = relax_to L ii k (rounds L ii n r)

        m : Mid r k xs
        m = mid_to r (rounds L ii n r) (after r) k (omega arith)

        go : Met ii xs (dep_at L k) ⊎ Deep r xs (dep_at L k).src → Refuted L ii
        go (inl met) = absurd (omega arith)
        go (inr d) = let g : Deep (suc r) (raised within r xs m.size k l unmet d) (dep_at L k).dst = grown within r xs m.size k l unmet d in long g.trail (le_trans h g.deep)

    settled_to : (r : ℕ) → n ≤ suc r → (k : ℕ) → k ≤ length L.deps → (relax_to L ii k (rounds L ii n r) ≡ rounds L ii n r) ⊎ Refuted L ii
    unfolding relax_to
    settled_to r h zero l = inl refl
    settled_to r h (suc k) l = go (settled_to r h k (omega arith)) (dec_lt (get_or xs (dep_at L k).dst 0) (needed ii xs (dep_at L k)))
      where
        xs : List ℕ
        xs = relax_to L ii k (rounds L ii n r)

        go : (xs ≡ rounds L ii n r) ⊎ Refuted L ii → Dec (get_or xs (dep_at L k).dst 0 < needed ii xs (dep_at L k)) → (relax ii (dep_at L k) xs ≡ rounds L ii n r) ⊎ Refuted L ii
        go (inr w) t = inr w
        go (inl e) (yes u) = inr (late r h k l u)
        go (inl e) (no u) = inl (relax_met ii (dep_at L k) xs (omega arith) ∙ e)

    -- round n changes nothing, or there is a heavy closed walk
    pub last_round : (r : ℕ) → n ≤ suc r → (rounds L ii n (suc r) ≡ rounds L ii n r) ⊎ Refuted L ii
    unfolding rounds round
    last_round r h = settled_to r h (length L.deps) (le_refl (length L.deps))
