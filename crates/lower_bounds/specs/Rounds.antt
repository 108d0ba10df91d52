-- Path lengths raised, one dependence after another: what the code of the recurrence bound computes. Assumes nothing.
use Rattle.std.specs.Prelude.{◌≡◌, Bool, true, not, ◌&&◌, List, map, ℕ, zero, suc, ◌+◌, ◌-◌, ◌*◌, ◌≤◌, max, leb, ℤ, pos, ◌+ℤ◌, ◌-ℤ◌, length, get_or, set, take, replicate}
use Rattle.std.specs.Int.Signed.{lt_z}
use Rattle.model.specs.Integers.{plus, minus, maxℤ}
use Rattle.model.specs.Loop.{Dep, Loop, size, dep_at}

-- ---- in naturals

-- the least start of d's target that meets d at ii, given its source's
abbrev pub needed : ℕ → List ℕ → Dep → ℕ
needed ii xs d = get_or xs d.src 0 + plus d.delay - (minus d.delay + ii * d.distance)

-- the target's start, raised to that where it is less
unfoldable pub relax : ℕ → Dep → List ℕ → List ℕ
relax ii d xs = set xs d.dst (max (get_or xs d.dst 0) (needed ii xs d))

-- the first k dependences, in order
unfoldable pub relax_to : Loop → ℕ → ℕ → List ℕ → List ℕ
relax_to l ii zero xs = xs
relax_to l ii (suc k) xs = relax ii (dep_at l k) (relax_to l ii k xs)

-- all of them
unfoldable pub round : Loop → ℕ → List ℕ → List ℕ
round l ii xs = relax_to l ii (length l.deps) xs

-- r rounds, from zeros for n operations
unfoldable pub rounds : Loop → ℕ → ℕ → ℕ → List ℕ
rounds l ii n zero = replicate n 0
rounds l ii n (suc r) = round l ii (rounds l ii n r)

-- xs meet dependence d
abbrev pub metb : ℕ → List ℕ → Dep → Bool
metb ii xs d = leb (get_or xs d.src 0 + plus d.delay) (get_or xs d.dst 0 + ii * d.distance + minus d.delay)

-- xs meet the first k dependences
unfoldable pub met_to : Loop → ℕ → ℕ → List ℕ → Bool
met_to l ii zero xs = true
met_to l ii (suc k) xs = met_to l ii k xs && metb ii xs (dep_at l k)

-- ---- in the code's array of signed numbers

-- the first n of the array are these naturals
pub record Holds (n : ℕ) (x : List ℤ) (xs : List ℕ) : Type 0 where
  pub same : take n x ≡ map pos xs

-- the naturals in the array
abbrev pub nats : ℕ → List ℤ → List ℕ
nats n x = map plus (take n x)

-- no value is above top
abbrev pub AtMost : List ℕ → ℕ → Type 0
AtMost xs top = (i : ℕ) → get_or xs i 0 ≤ top

-- x[at] raised to v, and whether it rose
pub record Raised (x x' : List ℤ) (at : ℕ) (v : ℤ) (rose : Bool) : Type 0 where
  pub after : x' ≡ set x at (maxℤ (get_or x at (pos 0)) v)
  pub test : rose ≡ lt_z (get_or x at (pos 0)) v

-- what d asks of its target's path length at ii, given its source's
abbrev pub neededℤ : ℕ → List ℤ → Dep → ℤ
neededℤ ii x d = get_or x d.src (pos 0) +ℤ d.delay -ℤ pos (ii * d.distance)

-- dependence e relaxed at ii
pub record Relaxed (l : Loop) (ii e : ℕ) (x x' : List ℤ) (rose : Bool) : Type 0 where
  -- its target's path length is raised to what it asks, the others stay; `rose` says whether that was more than it had
  pub raised : Raised x x' (dep_at l e).dst (neededℤ ii x (dep_at l e)) rose

-- the array holds naturals up to top
pub record SmallIn (n top : ℕ) (x : List ℤ) : Type 0 where
  pub natural : Holds n x (nats n x)
  pub count : length (nats n x) ≡ n
  pub low : AtMost (nats n x) top

-- a round of the values, and whether one changed
pub record Rounded (l : Loop) (ii : ℕ) (x x' : List ℤ) (changed : Bool) : Type 0 where
  pub after : Holds (size l) x' (round l ii (nats (size l) x))
  pub test : changed ≡ not (met_to l ii (length l.deps) (nats (size l) x))
