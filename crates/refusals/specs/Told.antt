-- What a refusal and an answer with a refusal in it say, in document 01's numbers. Assumes nothing.
use Rattle.std.specs.Prelude.{◌≡◌, ◌++◌, ℕ, Result, Ok, Err}
use Rattle.std.proofs.Math.Option.{Option, none, some}
use Rattle.model.specs.Refusals.{Refusal, Answer, answered, refused, first_refusal}
use Rattle.model.specs.Loop.{Loop, size}
use Rattle.model.specs.Search.{request_checks, room_checks}
use Rattle.refusals.specs.declared.Refusal as code
use Rattle.refusals.specs.declared.Refusal.TheVariants.{FileLength, Head, Section, Operation, Use, Dependence, Request, Circle, NoOperation, Placed, NotPlaced, Start, Broken, Conflict, Checkpoints, NoCheckpoint, Lent, Bundle, Replies, Call}

-- a refusal by its number and detail
abbrev pub refusal : ℕ → ℕ → Refusal
refusal number detail = record { number = number; detail = detail }

-- its number and detail
abbrev pub told : code.Refusal → Refusal
told (FileLength d) = refusal 1 d
told (Head d) = refusal 2 d
told (Section d) = refusal 3 d
told (Operation d) = refusal 4 d
told (Use d) = refusal 5 d
told (Dependence d) = refusal 6 d
told (Request d) = refusal 7 d
told Circle = refusal 8 0
told (NoOperation d) = refusal 12 d
told (Placed d) = refusal 13 d
told (NotPlaced d) = refusal 14 d
told (Start d) = refusal 15 d
told (Broken d) = refusal 16 d
told (Conflict d) = refusal 17 d
told Checkpoints = refusal 18 0
told NoCheckpoint = refusal 19 0
told (Lent d) = refusal 20 d
told (Bundle d) = refusal 21 d
told (Replies d) = refusal 254 d
told (Call d) = refusal 255 d

-- the refusal, where there is one
abbrev pub refusal_of : {A : Type 0} → Result A code.Refusal → Option Refusal
refusal_of (Ok a) = none
refusal_of (Err r) = some (told r)

-- the answer, seen as f has it, or the refusal
abbrev pub answer_of : {A B : Type 0} → (A → B) → Result A code.Refusal → Answer B
answer_of f (Ok a) = answered (f a)
answer_of f (Err r) = refused (told r)

-- the first refusal of the request, and of a list and a table of these lengths, for every loop of n operations
abbrev pub AskedIs : {A : Type 0} → (n cap horizon budget list rows : ℕ) → Result A code.Refusal → Type 0
AskedIs n cap horizon budget list rows r =
    (l : Loop) → n ≡ size l → refusal_of r ≡ first_refusal (request_checks (record { cap = cap; horizon = horizon; budget = budget }) ++ room_checks l list rows)
