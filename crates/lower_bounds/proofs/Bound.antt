-- The recurrence bound: where it exists, what rules out a shorter interval, and that it is the largest quotient of a closed walk. Assumes nothing.
use mathlib.Core.Path.{◌≡◌}
use mathlib.Core.List.{List, [], ◌∷◌}
use mathlib.Core.Logic.{◌⊎◌, inl, inr}
use Prim.Native.Nat.{ℕ, zero, suc, ◌+◌, ◌-◌, ◌*◌, ◌/◌, ◌≤◌, ◌<◌}
use native.Mathlib.Nat.{le_refl, mul-zero, div-lt_iff_lt-mul, le-div_iff_mul-le}
use native.Mathlib.Decide.{ℕ_discrete, dec_lt}
use native.Mathlib.Omega.{arith}
use lib.IntN.{ℤ, pos, negsuc}
use lib.ListN.{length}
use lib.Signed.{◌<ℤ◌}
use Rattle.model.specs.Integers.{plus}
use Rattle.model.specs.Loop.{Loop, size, dep_at, LoopOk}
use Rattle.model.specs.Bounds.{Feasible, RecurrenceBound, Goes, Closed, delay_of, distance_of, Heavy, Stuck}
use Rattle.model.proofs.Signed.{Is, is_pos, of_lt, lt_of, plus_le}
use Rattle.model.proofs.Bounds.{Inside, light, refutes, stuck_never, plus_of, minus_of, delay_parts}
use Rattle.lower_bounds.specs.Walks.{Refuted}
use Rattle.lower_bounds.specs.Quotient.{ceil_div, quotient_up}
use Rattle.lower_bounds.proofs.Trail.{decide}

-- a quotient, from what it multiplies out to
below : (b n d : ℕ) → 0 < d → n ≤ b * d → ceil_div n d ≤ b
below b n d p h =
    let t : n + (d - 1) < suc b * d = omega arith in
    let s : (n + (d - 1)) / d < suc b = (div-lt_iff_lt-mul p).1 t in
    omega arith

above : (a n d : ℕ) → 0 < d → a * d < n → suc a ≤ ceil_div n d
above a n d p h =
    let t : suc a * d ≤ n + (d - 1) = omega arith in
    (le-div_iff_mul-le p).1 t

module _ (l : Loop) (ok : LoopOk l) where
  inside : Inside l
  inside = ok.dep_ok

  -- where no starts meet all dependences at an interval, a closed walk of at most as many dependences as operations is too heavy for it
  pub refuted : (ii : ℕ) → ¬ Feasible l ii → Refuted l ii
  unfolding inside
  refuted ii no_starts = go (decide l ii inside)
    where
      go : Feasible l ii ⊎ Refuted l ii → Refuted l ii
      go (inl f) = absurd (no_starts f)
      go (inr w) = w

  -- each interval can be met, or not
  pub decided : (ii : ℕ) → Dec (Feasible l ii)
  unfolding inside
  decided ii = go (decide l ii inside)
    where
      go : Feasible l ii ⊎ Refuted l ii → Dec (Feasible l ii)
      go (inl f) = yes f
      go (inr w) = no (refutes l inside ii w.walk w.closed w.heavy)

  -- ---- the least of those up to a top
  from : (c fuel top : ℕ) → 1 ≤ c → c + fuel ≡ top → ((a : ℕ) → 1 ≤ a → a < c → ¬ Feasible l a) → Feasible l top → (b : ℕ) × RecurrenceBound l b × (b ≤ top)
  from c zero top h e low f = (top, record { positive = omega arith; feasible = f; least = λ a p q. low a p (omega arith) }, le_refl top)
  from c (suc fuel) top h e low f = go (decided c) (from (suc c) fuel top (omega arith) (omega arith))
    where
      go : Dec (Feasible l c) → (((a : ℕ) → 1 ≤ a → a < suc c → ¬ Feasible l a) → Feasible l top → (b : ℕ) × RecurrenceBound l b × (b ≤ top)) → (b : ℕ) × RecurrenceBound l b × (b ≤ top)
      go (yes g) next = (c, record { positive = h; feasible = g; least = low }, omega arith)
      go (no g) next = next (λ a p q. last a p q (ℕ_discrete a c)) f
        where
          last : (a : ℕ) → 1 ≤ a → a < suc c → Dec (a ≡ c) → ¬ Feasible l a
          last a p q (yes e) = rw e g
          last a p q (no e) = low a p (omega arith)

  pub bound_upto : (top : ℕ) → 1 ≤ top → Feasible l top → (b : ℕ) × RecurrenceBound l b × (b ≤ top)
  bound_upto top h f = from 1 (top - 1) top (le_refl 1) (omega arith) (λ a p q. absurd (omega arith)) f

  -- ---- 64 dependences of delay up to 64

  plus_bound : (u : ℕ) (w : List ℕ) (v : ℕ) → Goes l u w v → plus_of l w ≤ 64 * length w
  unfolding plus_of
  plus_bound u [] v g = omega arith
  plus_bound u (k ∷ ks) v g = omega (arith, plus_bound (dep_at l k).dst ks v g.2, plus_le (dep_at l k).delay 64 (ok.dep_ok k g.0).late)

  -- at 4,096 the dependences can be met, or they never can
  pub ever : Feasible l 4096 ⊎ Stuck l
  unfolding inside
  ever = go (decide l 4096 inside)
    where
      still : (w : List ℕ) (c : Closed l w) → length w ≤ size l → Heavy l 4096 w → distance_of l w ≡ 0
      still w c s h = omega (arith, lt_of (is_pos (4096 * distance_of l w)) (delay_parts l w) h, plus_bound c.from w c.from c.goes, ok.few)

      go : Feasible l 4096 ⊎ Refuted l 4096 → Feasible l 4096 ⊎ Stuck l
      go (inl f) = inl f
      go (inr w) =
          let e : distance_of l w.walk ≡ 0 = still w.walk w.closed w.short w.heavy in
          inr (record { walk = w.walk; closed = w.closed; still = e; late = rw e at w.heavy })

  -- the recurrence bound exists exactly where no closed walk has distance 0 and delay above 0, and is then at most 4,096
  pub bound_exists : ¬ Stuck l → (b : ℕ) × RecurrenceBound l b × (b ≤ 4096)
  bound_exists h = go ever
    where
      go : Feasible l 4096 ⊎ Stuck l → (b : ℕ) × RecurrenceBound l b × (b ≤ 4096)
      go (inl f) = bound_upto 4096 (omega arith) f
      go (inr s) = absurd (h s)

  pub exists_bound : (b : ℕ) → RecurrenceBound l b → ¬ Stuck l
  unfolding inside
  exists_bound b r s = stuck_never l inside s b r.feasible

  -- ---- the largest quotient

  -- a delay above 0 by its parts
  zero_up : (w : List ℕ) (m : ℕ) → plus_of l w ≤ m + minus_of l w → plus (delay_of l w) ≤ m
  zero_up w m h = go (delay_of l w) (delay_parts l w)
    where
      go : (z : ℤ) → Is z (plus_of l w) (minus_of l w) → plus z ≤ m
      go (pos n) i = omega arith
      go (negsuc n) i = omega arith

  up_zero : (w : List ℕ) (m : ℕ) → pos m <ℤ delay_of l w → m < plus (delay_of l w)
  up_zero w m h = go (delay_of l w) (delay_parts l w) (lt_of (is_pos m) (delay_parts l w) h)
    where
      go : (z : ℤ) → Is z (plus_of l w) (minus_of l w) → m + minus_of l w < plus_of l w + 0 → m < plus z
      go (pos n) i k = omega arith
      go (negsuc n) i k = absurd (omega arith)

  -- every closed walk with a distance has a quotient of at most the bound
  pub quotient_le : (b : ℕ) → RecurrenceBound l b → (w : List ℕ) → Closed l w → 0 < distance_of l w → quotient_up l w ≤ b
  unfolding inside
  quotient_le b r w c p =
      below b (plus (delay_of l w)) (distance_of l w) p (zero_up w (b * distance_of l w) (go (dec_lt (b * distance_of l w + minus_of l w) (plus_of l w))))
    where
      go : Dec (b * distance_of l w + minus_of l w < plus_of l w) → plus_of l w ≤ b * distance_of l w + minus_of l w
      go (yes h) = absurd (light l inside b r.feasible w c (of_lt (is_pos (b * distance_of l w)) (delay_parts l w) (omega arith)))
      go (no h) = omega arith

  -- a bound above 1 is the quotient of some closed walk, of at most as many dependences as operations
  pub record Attained (b : ℕ) : Type 0 where
    pub walk : List ℕ
    pub closed : Closed l walk
    pub short : length walk ≤ size l
    pub far : 0 < distance_of l walk
    pub equal : quotient_up l walk ≡ b

  pub quotient_attained : (b : ℕ) → 1 < b → RecurrenceBound l b → Attained b
  quotient_attained b h r = record { walk = v.walk; closed = v.closed; short = v.short; far = far; equal = equal }
    where
      v : Refuted l (b - 1)
      v = refuted (b - 1) (r.least (b - 1) (omega arith) (omega arith))

      distant : Dec (0 < distance_of l v.walk) → 0 < distance_of l v.walk
      distant (yes p) = p
      distant (no p) =
          let e : distance_of l v.walk ≡ 0 = omega arith in
          let z : pos 0 <ℤ delay_of l v.walk = rw (e, mul-zero (b - 1)) at v.heavy in
          absurd (exists_bound b r (record { walk = v.walk; closed = v.closed; still = e; late = z }))

      far : 0 < distance_of l v.walk
      far = distant (dec_lt 0 (distance_of l v.walk))

      large : b ≤ quotient_up l v.walk
      large = omega (arith, above (b - 1) (plus (delay_of l v.walk)) (distance_of l v.walk) far (up_zero v.walk ((b - 1) * distance_of l v.walk) v.heavy))

      equal : quotient_up l v.walk ≡ b
      equal = omega (arith, quotient_le b r v.walk v.closed far, large)
