-- What a drawn loop has. Assumes nothing.
use Rattle.std.specs.Prelude.{◌≡◌, ℕ, ◌+◌, ◌*◌, ◌%◌, Bool, true, cond, ◌||◌, List, replicate, ◌==◌, nat_le, nat_lt, slice_index, slice_set}
use Rattle.trial.specs.declared.drawn.Drawn.{Drawn}

-- the duration of an operation on a slot, counted from 0
unfoldable pub duration_of : Drawn → ℕ → ℕ → ℕ
duration_of d op slot = cond (nat_lt op 6) (cond (nat_lt slot 3) (slice_index d.uses (3 * op + slot)) 0) 0

-- its latency
unfoldable pub latency_of : Drawn → ℕ → ℕ
latency_of d op = cond (nat_lt op 6) (slice_index d.latencies op) 0

-- a byte of a dependence
unfoldable pub field_of : Drawn → ℕ → ℕ → ℕ
field_of d e which = cond (nat_lt e 6) (cond (nat_lt which 4) (slice_index d.deps (4 * e + which)) 0) 0

-- the interval times a distance up to 2
unfoldable pub lag_of : ℕ → ℕ → ℕ
lag_of interval distance = cond (distance == 0) 0 (cond (distance == 1) interval (interval + interval))

-- the start of an operation in a list of 6; 65,535 is nowhere
unfoldable pub start_of : List ℕ → ℕ → ℕ
start_of starts op = cond (nat_lt op 6) (slice_index starts op) 65535

-- a list of 6 starts with another one for an operation that it has
unfoldable pub set_at : List ℕ → ℕ → ℕ → List ℕ
set_at starts op s = cond (nat_lt op 6) (slice_set starts op s) starts

-- the starts of two operations, all others nowhere
unfoldable pub only_of : List ℕ → ℕ → ℕ → List ℕ
only_of starts a b = set_at (set_at (replicate 6 65535) a (start_of starts a)) b (start_of starts b)

-- whether a dependence holds where its operations start at s and t, or one of them is nowhere. Both sides have 6 more, as what stands for the delay
unfoldable pub holds_at : Drawn → ℕ → ℕ → ℕ → ℕ → Bool
holds_at d e s t interval =
    cond (s == 65535 || t == 65535) true (nat_le (s + field_of d e 2) (t + lag_of interval (field_of d e 3) + 6))

-- the same in a list of starts
unfoldable pub holds_in : Drawn → ℕ → List ℕ → ℕ → Bool
holds_in d e starts interval = holds_at d e (start_of starts (field_of d e 0)) (start_of starts (field_of d e 1)) interval

-- a loop of these sizes with latencies of 1, no uses, and dependences of zeros
unfoldable pub blank_of : (seed n m interval horizon : ℕ) → Drawn
blank_of seed n m interval horizon =
    record {
      seed = seed;
      n = n;
      m = m;
      interval = interval % 65536;
      horizon = horizon % 65536;
      latencies = replicate 6 1;
      uses = replicate 18 0;
      deps = replicate 24 0;
    }

-- the bytes of 6 dependences with others, each modulo 256, for one of them
unfoldable pub dep_set : List ℕ → (e from to delay distance : ℕ) → List ℕ
dep_set deps e from to delay distance =
    cond
    (nat_lt e 6)
    (slice_set (slice_set (slice_set (slice_set deps (4 * e) (from % 256)) (4 * e + 1) (to % 256)) (4 * e + 2) (delay % 256)) (4 * e + 3) (distance % 256))
    deps

-- a loop with another dependence e, where e is below 6
unfoldable pub with_dep : Drawn → (e from to delay distance : ℕ) → Drawn
with_dep d e from to delay distance =
    record {
      seed = d.seed;
      n = d.n;
      m = d.m;
      interval = d.interval;
      horizon = d.horizon;
      latencies = d.latencies;
      uses = d.uses;
      deps = dep_set d.deps e from to delay distance;
    }

-- two loops of the same sizes, tried with the same interval and horizon
pub record SameSizes (d e : Drawn) : Type 0 where
  pub ops : e.n ≡ d.n
  pub deps : e.m ≡ d.m
  pub at_interval : e.interval ≡ d.interval
  pub to_horizon : e.horizon ≡ d.horizon
