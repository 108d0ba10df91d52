-- A loop: operations with their uses of slots, and dependences. Assumes nothing.
use Rattle.std.specs.Prelude.{cond, ℕ, suc, ◌+◌, ◌≤◌, ◌<◌, eqb, ℤ, pos, negsuc, length, get_or, take, ◌≤ℤ◌}
use mathlib.Core.List.{List, [], flat_map}
use Rattle.model.specs.Lists.{sum_of}

-- a use: it holds `slot` for `duration` cycles, from `offset` cycles after the operation's start on (0 in version 1 of the file)
pub record Use : Type 0 where
  pub slot : ℕ
  pub offset : ℕ
  pub duration : ℕ

-- an operation: its latency, and its uses with slots rising
pub record Op : Type 0 where
  pub latency : ℕ
  pub uses : List Use

-- a dependence: `dst` starts at least `delay` after `src` did `distance` iterations before (document 01: from, to)
pub record Dep : Type 0 where
  pub src : ℕ
  pub dst : ℕ
  pub delay : ℤ
  pub distance : ℕ

-- a loop: operations and dependences are numbered from 0 by their places in these lists
pub record Loop : Type 0 where
  pub ops : List Op
  pub deps : List Dep

-- what stands past the end of each list
abbrev pub no_use : Use
no_use = record { slot = 0; offset = 0; duration = 0 }

-- an operation without uses
abbrev pub no_op : Op
no_op = record { latency = 0; uses = [] }

-- a dependence that always holds
abbrev pub no_dep : Dep
no_dep = record { src = 0; dst = 0; delay = pos 0; distance = 0 }

-- the number of operations
abbrev pub size : Loop → ℕ
size l = length l.ops

-- operation o
abbrev pub op_at : Loop → ℕ → Op
op_at l o = get_or l.ops o no_op

-- dependence e
abbrev pub dep_at : Loop → ℕ → Dep
dep_at l e = get_or l.deps e no_dep

-- the uses of all operations, in operation order
unfoldable pub all_uses : Loop → List Use
all_uses l = flat_map (λ p. p.uses) l.ops

-- the number of operation o's first use among them
unfoldable pub first_use_of : Loop → ℕ → ℕ
first_use_of l o = sum_of (λ p. length p.uses) (take o l.ops)

-- use j of an operation
abbrev pub use_at : Op → ℕ → Use
use_at p j = get_or p.uses j no_use

-- for how many cycles a use holds slot s: its duration, where it is of that slot
abbrev pub use_on : ℕ → Use → ℕ
use_on s u = cond (eqb u.slot s) u.duration 0

-- for how many cycles an operation holds slot s: the durations of its uses of it
abbrev pub op_on : ℕ → Op → ℕ
op_on s p = sum_of (use_on s) p.uses

-- ---- the ranges of document 01: what every accepted file's loop obeys (proofs/File.antt)

-- a use in range; the end is at most 16 cycles after the operation's start
pub record UseOk (u : Use) : Type 0 where
  pub slot_low : 1 ≤ u.slot
  pub slot_high : u.slot ≤ 24
  pub long : 1 ≤ u.duration
  pub ends : u.offset + u.duration ≤ 16

-- an operation in range, with the slots of its uses rising strictly
pub record OpOk (p : Op) : Type 0 where
  pub quick : p.latency ≤ 64
  pub few : length p.uses ≤ 4
  pub each : (j : ℕ) → j < length p.uses → UseOk (use_at p j)
  pub rising : (j : ℕ) → suc j < length p.uses → (use_at p j).slot < (use_at p (suc j)).slot

-- a dependence in range, between operations of a loop of n
pub record DepOk (n : ℕ) (d : Dep) : Type 0 where
  pub source : d.src < n
  pub target : d.dst < n
  pub early : negsuc 63 ≤ℤ d.delay
  pub late : d.delay ≤ℤ pos 64
  pub near : d.distance ≤ 15

-- a loop in range
pub record LoopOk (l : Loop) : Type 0 where
  pub some : 1 ≤ size l
  pub few : size l ≤ 64
  pub op_ok : (o : ℕ) → o < size l → OpOk (op_at l o)
  pub sparse : length l.deps ≤ 256
  pub dep_ok : (e : ℕ) → e < length l.deps → DepOk (size l) (dep_at l e)
