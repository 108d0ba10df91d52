-- The starts that the dependences of an operation with itself and with earlier ones allow. Assumes nothing.
use Rattle.std.specs.Prelude.{◌≡◌, Bool, not, ◌&&◌, List, ℕ, ◌≤◌, ◌<◌, leb, ltb, length, get_or}
use Rattle.model.specs.Lists.{up_from, any_of}
use Rattle.model.specs.Loop.{Loop, dep_at}
use Rattle.model.specs.Legality.{placed, holds, breaks}

-- s is one of from, .., to - 1
abbrev pub inside : (from to s : ℕ) → Bool
inside from to s = leb from s && ltb s to

-- the operation after these starts, at s, breaks dependence e
abbrev pub breaks_at : Loop → ℕ → List ℕ → ℕ → ℕ → Bool
breaks_at l ii xs s e = breaks ii (placed xs) (length xs) s (dep_at l e)

-- it breaks none of the first k dependences
unfoldable pub allowed : Loop → ℕ → List ℕ → ℕ → ℕ → Bool
allowed l ii xs k s = not (any_of (breaks_at l ii xs s) (up_from 0 k))

-- from r on, and from there on only, the target of dependence e may start where its source starts at s
abbrev pub EarliestIs : Loop → ℕ → ℕ → ℕ → ℕ → Type 0
EarliestIs l ii e s r = (t : ℕ) → leb r t ≡ holds ii (dep_at l e) s t

-- below r, and below it only, its source may start where its target starts at t
abbrev pub TooLateIs : Loop → ℕ → ℕ → ℕ → ℕ → Type 0
TooLateIs l ii e t r = (s : ℕ) → ltb s r ≡ holds ii (dep_at l e) s t

-- the starts from a to b - 1 are those of from, .., to - 1 at which dependence e is not broken
abbrev pub NarrowedIs : Loop → ℕ → List ℕ → ℕ → (from to a b : ℕ) → Type 0
NarrowedIs l ii xs e from to a b = (s : ℕ) → inside a b s ≡ (inside from to s && not (breaks_at l ii xs s e))

-- the starts from a to b - 1 are those below h that the first k dependences allow
abbrev pub WindowIs : Loop → ℕ → List ℕ → ℕ → ℕ → (a b : ℕ) → Type 0
WindowIs l ii xs h k a b = (s : ℕ) → inside a b s ≡ (ltb s h && allowed l ii xs k s)

-- the first n starts are below 4,096
abbrev pub Early : ℕ → List ℕ → Type 0
Early n xs = (o : ℕ) → o < n → get_or xs o 0 < 4096

-- a window of starts below h, that from a to b - 1, for the operation after these starts, as all dependences of the loop leave it
pub record Windowed (l : Loop) (ii : ℕ) (xs : List ℕ) (h a b : ℕ) : Type 0 where
  pub is : WindowIs l ii xs h (length l.deps) a b
  pub ordered : a ≤ b
  pub near : b ≤ h
