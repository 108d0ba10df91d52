-- What demand 3 says of a list of calls: checkpoints by the calls that set them, and the placed operations placed again. Assumes nothing.
use Rattle.std.specs.Prelude.{◌≡◌, Bool, false, cond, List, [], ◌∷◌, ℕ, ◌+◌, eqb, get_or}
use Rattle.std.proofs.Math.Option.{Option, none, some}
use Rattle.model.specs.Refusals.{Answer, answered, refused}
use Rattle.model.specs.Session.{Setup, Starts, State, Call, place, Reply, done, displaced, numbered, is_placed, step}

-- ---- checkpoints

-- whether the answer gives a checkpoint the number m
abbrev pub gives : ℕ → Answer Reply → Bool
gives m (answered done) = false
gives m (answered (displaced x)) = false
gives m (answered (numbered n)) = eqb n m
gives m (refused r) = false

-- no answer of the list does
abbrev pub NoneGives : ℕ → List (Answer Reply) → Type 0
NoneGives m [] = Unit {0}
NoneGives m (a ∷ rs) = (gives m a ≡ false) × NoneGives m rs

-- the state just after the last checkpoint call that answered m; `last` where there is none. The calls cs are made from st on; a later call that answers m takes the place of an earlier one, also where the earlier checkpoint was
-- released or rolled back over in between
unfoldable pub marked_by : Setup → ℕ → List Call → State → State → State
marked_by u m [] st last = last
marked_by u m (c ∷ cs) st last = marked_by u m cs (step u c st).0 (cond (gives m (step u c st).1) (step u c st).0 last)

-- ---- the placed operations, placed again in some order

-- the start, 0 where there is none
abbrev pub start_or : Option ℕ → ℕ
start_or none = 0
start_or (some t) = t

-- these operations placed one after the other, each at its start in xs
unfoldable pub placings : Starts → List ℕ → List Call
placings xs [] = []
placings xs (o ∷ os) = place o (start_or (get_or xs o none)) ∷ placings xs os

-- how often o stands in the list
unfoldable pub times : ℕ → List ℕ → ℕ
times o [] = 0
times o (p ∷ ps) = cond (eqb p o) 1 0 + times o ps

-- the list has each placed operation once, and no other
abbrev pub OrderOf : Starts → List ℕ → Type 0
OrderOf xs os = (o : ℕ) → times o os ≡ cond (is_placed (get_or xs o none)) 1 0

-- every answer is done
abbrev pub AllDone : List (Answer Reply) → Type 0
AllDone [] = Unit {0}
AllDone (a ∷ rs) = (a ≡ answered done) × AllDone rs
