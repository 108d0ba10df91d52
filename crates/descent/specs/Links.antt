-- The dependences of a loop by the later of their two operations: what the index of the search holds. Assumes nothing.
use Rattle.std.specs.Prelude.{◌≡◌, List, ℕ, ◌+◌, ◌≤◌, ◌<◌, max, length, get_or}
use Rattle.model.specs.Loop.{Loop, size, dep_at}

-- the later of the two operations of dependence e
abbrev pub later_end : Loop → ℕ → ℕ
later_end l e = max (dep_at l e).src (dep_at l e).dst

-- e is the first of the dependences from k on whose later operation is o, or the number of all where there is none
pub record NextDep (l : Loop) (o k e : ℕ) : Type 0 where
  pub behind : k ≤ e
  pub within : e ≤ length l.deps
  pub others : (i : ℕ) → k ≤ i → i < e → later_end l i ≡ o → ⊥
  pub is : e < length l.deps → later_end l e ≡ o

-- entry o is the first for operation o, and entry 64 + e the next after e for the same operation as e's
pub record Linked (l : Loop) (links : List ℕ) : Type 0 where
  pub head : (o : ℕ) → o < size l → NextDep l o 0 (get_or links o 0)
  pub next : (e : ℕ) → e < length l.deps → NextDep l (later_end l e) (e + 1) (get_or links (64 + e) 0)
