-- The two lower bounds of the interval, and closed walks of dependences. Assumes nothing.
use Rattle.std.specs.Prelude.{◌≡◌, true, List, [], ◌∷◌, ℕ, ◌+◌, ◌*◌, ◌≤◌, ◌<◌, max, ℤ, pos, ◌+ℤ◌, length, ◌<ℤ◌}
use Rattle.std.proofs.Math.Option.{some}
use Rattle.model.specs.Lists.{up_from, sum_of, max_of}
use Rattle.model.specs.Refusals.{Refusal, first_refusal, Answer, answered, refused}
use Rattle.model.specs.Loop.{Loop, op_on, size, dep_at}
use Rattle.model.specs.File.{Accepted, file_checks, loop_of}
use Rattle.model.specs.Legality.{placed, meets}

-- ---- resource bound

-- the total of durations on slot s
unfoldable pub total_on : Loop → ℕ → ℕ
total_on l s = sum_of (op_on s) l.ops

-- the largest total on one slot, and 1 where there are no uses
unfoldable pub resource_bound : Loop → ℕ
resource_bound l = max 1 (max_of (total_on l) (up_from 1 24))

-- ---- recurrence bound

-- some starts meet all dependences at ii, slots ignored
pub record Feasible (l : Loop) (ii : ℕ) : Type 0 where
  pub starts : List ℕ
  pub all_ops : length starts ≡ size l
  pub all_met : meets l ii (placed starts) ≡ true

-- the smallest such interval of at least 1
pub record RecurrenceBound (l : Loop) (b : ℕ) : Type 0 where
  pub positive : 1 ≤ b
  pub feasible : Feasible l b
  pub least : (c : ℕ) → 1 ≤ c → c < b → ¬ Feasible l c

-- ---- walks: lists of dependence numbers

-- the dependences ks lead from operation u to operation v, each beginning where the one before ends
abbrev pub Goes : Loop → ℕ → List ℕ → ℕ → Type 0
Goes l u [] v = u ≡ v
Goes l u (k ∷ ks) v = (k < length l.deps) × ((dep_at l k).src ≡ u) × Goes l (dep_at l k).dst ks v

-- a closed walk (document 01: a cycle of dependences): not empty, and back to where it began
pub record Closed (l : Loop) (w : List ℕ) : Type 0 where
  pub some : 0 < length w
  pub from : ℕ
  pub goes : Goes l from w from

-- its total delay
unfoldable pub delay_of : Loop → List ℕ → ℤ
delay_of l [] = pos 0
delay_of l (k ∷ ks) = (dep_at l k).delay +ℤ delay_of l ks

-- its total distance
unfoldable pub distance_of : Loop → List ℕ → ℕ
distance_of l [] = 0
distance_of l (k ∷ ks) = (dep_at l k).distance + distance_of l ks

-- its delay is above ii times its distance: ii is too short for it
abbrev pub Heavy : Loop → ℕ → List ℕ → Type 0
Heavy l ii w = pos (ii * distance_of l w) <ℤ delay_of l w

-- a closed walk of total distance 0 and total delay above 0: no interval is long enough
pub record Stuck (l : Loop) : Type 0 where
  pub walk : List ℕ
  pub closed : Closed l walk
  pub still : distance_of l walk ≡ 0
  pub late : pos 0 <ℤ delay_of l walk

-- ---- what `bounds` answers

-- resource and recurrence bound
pub record Lower : Type 0 where
  pub resource : ℕ
  pub recurrence : ℕ

-- the answer for a loop: 8 where a closed walk of distance 0 has delay above 0, 9 where the recurrence bound is above 4,096, else the bounds
pub data LowerIs (l : Loop) (a : Answer Lower) : Type 0 where
  cyclic : Stuck l → a ≡ refused (record { number = 8; detail = 0 }) → LowerIs l a
  beyond : (b : ℕ) → RecurrenceBound l b → 4096 < b → a ≡ refused (record { number = 9; detail = 0 }) → LowerIs l a
  within : (b : ℕ) → RecurrenceBound l b → b ≤ 4096 → a ≡ answered (record { resource = resource_bound l; recurrence = b }) → LowerIs l a

-- the answer for a file: 1 to 6, then 8, 9
pub data BoundsIs (f : List ℕ) (a : Answer Lower) : Type 0 where
  by_file : (r : Refusal) → first_refusal (file_checks f) ≡ some r → a ≡ refused r → BoundsIs f a
  by_loop : Accepted f → LowerIs (loop_of f) a → BoundsIs f a
