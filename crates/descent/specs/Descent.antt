-- What the two functions of the search ask and leave. Assumes nothing.
use Rattle.std.specs.Prelude.{◌≡◌, true, List, [], ◌∷◌, ◌++◌, ℕ, ◌-◌, ◌≤◌, ◌<◌, length, take}
use Rattle.model.specs.Loop.{size, first_use_of}
use Rattle.model.specs.File.{loop_of, Accepted}
use Rattle.model.specs.Legality.{placed, legal}
use Rattle.model.specs.Table.{row_base, IsTable, cells_of}
use Rattle.descent.specs.Span.{Early, allowed, Windowed}
use Rattle.descent.specs.Tree.{Res, broke, all, no_more, under, run}
use Rattle.descent.specs.declared.Found.{Found}
use Rattle.descent.specs.declared.Found.TheVariants.{All, Spent, Nothing}

-- the answer of a part of the search, without its list
abbrev pub tell : Res → Found
tell broke = Spent
tell (all w l) = All l
tell (no_more l) = Nothing l

-- the list that is found stands after the prefix p
abbrev pub Wrote : ℕ → List ℕ → List ℕ → Res → Type 0
Wrote n p starts broke = Unit {0}
Wrote n p starts (all w l) = take n starts ≡ p ++ w
Wrote n p starts (no_more l) = Unit {0}

-- the search stands at operation op of n, at interval ii and horizon h: the starts before it are legal, and the rows hold them
pub record Ready (f starts rows : List ℕ) (op n ii h : ℕ) : Type 0 where
  pub accepted : Accepted f
  pub is_size : n ≡ size (loop_of f)
  pub deep : op ≤ n
  pub some : 1 ≤ ii
  pub short : ii ≤ 4096
  pub near : h ≤ 4096
  pub long : n ≤ length starts
  pub early : Early op starts
  pub held : IsTable row_base ii (cells_of (loop_of f) ii (placed (take op starts))) rows
  pub fine : legal (loop_of f) ii (take op starts) ≡ true

-- and may try start s of that operation: the dependences with itself and the operations before it allow s, and its first use has the number `first`
pub record MayTry (f starts rows : List ℕ) (op n ii h s first : ℕ) : Type 0 where
  pub ready : Ready f starts rows op n ii h
  pub inside : op < n
  pub start_near : s < h
  pub unbroken : allowed (loop_of f) ii (take op starts) (length (loop_of f).deps) s ≡ true
  pub first_is : first ≡ first_use_of (loop_of f) op

-- and may go through the starts of that operation: they are those of its window, from `from` to `to` - 1, and its first use has the number `first`
pub record MayPick (f starts rows : List ℕ) (op n ii h first from to : ℕ) : Type 0 where
  pub ready : Ready f starts rows op n ii h
  pub inside : op < n
  pub first_is : first ≡ first_use_of (loop_of f) op
  pub window : Windowed (loop_of f) ii (take op starts) h from to

-- what a part of the search leaves, where `out` is what it comes to below the prefix p
pub record Done (out : Res) (n op : ℕ) (p before after : List ℕ) (r : Found) : Type 0 where
  pub says : r ≡ tell out
  pub list : Wrote n p after out
  pub kept : take op after ≡ take op before
  pub same_length : length after ≡ length before

-- the lists below the first op starts
abbrev pub below : List ℕ → List ℕ → (op n ii h b : ℕ) → Res
below f starts op n ii h b = run (under (legal (loop_of f) ii) (take op starts)) h (n - op) b

-- those below these and s
abbrev pub branch : List ℕ → List ℕ → (op n ii h s b : ℕ) → Res
branch f starts op n ii h s b = run (under (under (legal (loop_of f) ii) (take op starts)) (s ∷ [])) h (n - op - 1) b
