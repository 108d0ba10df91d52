-- The starred worked cases of document 01, as one list; proofs/Cases.antt proves them by one theorem. Assumes nothing.
use Rattle.std.specs.Prelude.{◌≡◌, List, [], ◌∷◌, ℕ, ℤ, pos, negsuc, replicate}
use Rattle.std.proofs.Math.Option.{none, some}
use Rattle.model.specs.Refusals.{Answer, answered, refused}
use Rattle.model.specs.Loop.{Use, Loop}
use Rattle.model.specs.File.{read_file}
use Rattle.model.specs.Writer.{file_with, Fields, write_file}
use Rattle.model.specs.Table.{free_rows}
use Rattle.model.specs.Bounds.{Lower, BoundsIs}
use Rattle.model.specs.Search.{Request, Outcome, found, ended, SearchIs, Line, listing}
use Rattle.model.specs.Session.{Setup, Starts, Call, place, force, remove, checkpoint, rollback, Reply, done, displaced, numbered, start, after, replies, open_file, state_table}
use Rattle.model.specs.Verifier.{Verdict, is_legal, breach, clash, verify_file}

-- ---- what a case claims

-- the reading of a file; what the writer answers for lists of numbers and the length of a buffer; a file's bounds; the verdict on a list of starts; what a
-- search answers, with 64 numbers and 4,096 rows lent; the listing of starts; and the replies, starts, rows and numbers of free rows of calls on a session opened with 4,096 rows lent
pub data Case : Type 0 where
  reads : (f : List ℕ) → Answer Loop → Case
  writes : Fields → (room : ℕ) → Answer (List ℕ) → Case
  bounded : (f : List ℕ) → Answer Lower → Case
  judged : (f : List ℕ) (ii : ℕ) (xs : List ℕ) → Answer Verdict → Case
  searched : (f : List ℕ) → Request → Answer Outcome → Case
  listed : (ii : ℕ) (xs : List ℕ) → List Line → Case
  called : (f : List ℕ) (ii horizon : ℕ) → List Call → List (Answer Reply) → Starts → (rows free : List ℕ) → Case

-- that the calls were made on a session that opened, and what they left
pub record Called (f : List ℕ) (ii horizon : ℕ) (cs : List Call) (rs : List (Answer Reply)) (xs : Starts) (rows free : List ℕ) : Type 0 where
  pub setup : Setup
  pub opens : open_file f ii horizon 4096 ≡ answered setup
  pub answers : replies setup cs (start setup) ≡ rs
  pub starts : (after setup cs (start setup)).starts ≡ xs
  pub table : state_table setup (after setup cs (start setup)) ≡ rows
  pub numbers : free_rows ii rows ≡ free

-- the case holds
abbrev pub CaseHolds : Case → Type 0
CaseHolds (reads f a) = read_file f ≡ a
CaseHolds (writes d room a) = write_file d room ≡ a
CaseHolds (bounded f a) = BoundsIs f a
CaseHolds (judged f ii xs a) = verify_file f ii xs ≡ a
CaseHolds (searched f q a) = SearchIs f q 64 4096 a
CaseHolds (listed ii xs ls) = listing ii xs ≡ ls
CaseHolds (called f ii horizon cs rs xs rows free) = Called f ii horizon cs rs xs rows free

infixr 20 ◌also◌
-- every case of the list holds: the first, and the others
pub data AllHold : List Case → Type 0 where
  no_more : AllHold []
  ◌also◌ : {c : Case} {cs : List Case} → CaseHolds c → AllHold cs → AllHold (c ∷ cs)

-- ---- the loops

-- loop A, byte by byte: 50 bytes, bodies at 26, 32 and 38
abbrev pub file_a : List ℕ
file_a =
    1 ∷ 3
    ∷ 79 ∷ 80 ∷ 69 ∷ 82 ∷ 26 ∷ 0 ∷ 6 ∷ 0
    ∷ 85 ∷ 83 ∷ 69 ∷ 83 ∷ 32 ∷ 0 ∷ 6 ∷ 0
    ∷ 68 ∷ 69 ∷ 80 ∷ 83 ∷ 38 ∷ 0 ∷ 12 ∷ 0
    ∷ 2 ∷ 1 ∷ 3 ∷ 1 ∷ 1 ∷ 1
    ∷ 1 ∷ 1 ∷ 2 ∷ 2 ∷ 1 ∷ 1
    ∷ 0 ∷ 1 ∷ 2 ∷ 0 ∷ 1 ∷ 2 ∷ 3 ∷ 0 ∷ 1 ∷ 1 ∷ 3 ∷ 1
    ∷ []

-- a use from the operation's start on
abbrev pub start_use : ℕ → ℕ → Use
start_use slot duration = record { slot = slot; offset = 0; duration = duration }

-- the loop that A's file describes
abbrev pub loop_a : Loop
loop_a = record {
  ops =
      record { latency = 2; uses = start_use 1 1 ∷ [] }
      ∷ record { latency = 3; uses = start_use 2 2 ∷ [] }
      ∷ record { latency = 1; uses = start_use 1 1 ∷ [] }
      ∷ [];
  deps =
      record { src = 0; dst = 1; delay = pos 2; distance = 0 }
      ∷ record { src = 1; dst = 2; delay = pos 3; distance = 0 }
      ∷ record { src = 1; dst = 1; delay = pos 3; distance = 1 }
      ∷ [];
}

-- loop B: -3 is the byte 253
abbrev pub file_b : List ℕ
file_b = file_with (1 ∷ 1 ∷ 1 ∷ 1 ∷ []) (1 ∷ 1 ∷ 1 ∷ 1 ∷ []) (0 ∷ 1 ∷ 3 ∷ 0 ∷ 1 ∷ 0 ∷ 253 ∷ 0 ∷ [])

-- loop B2
abbrev pub file_b2 : List ℕ
file_b2 = file_with (1 ∷ 1 ∷ 1 ∷ 1 ∷ 1 ∷ 1 ∷ []) (1 ∷ 1 ∷ 1 ∷ 1 ∷ 3 ∷ 3 ∷ []) (0 ∷ 1 ∷ 3 ∷ 0 ∷ 1 ∷ 0 ∷ 253 ∷ 0 ∷ [])

-- loop C
abbrev pub file_c : List ℕ
file_c = file_with (1 ∷ 1 ∷ 1 ∷ 1 ∷ []) (1 ∷ 1 ∷ 2 ∷ 1 ∷ []) (1 ∷ 0 ∷ 2 ∷ 0 ∷ [])

-- two operations without uses, and the dependences 0-1 and 1-0 with these delays (as bytes) and distances
abbrev pub ring : (delay distance delay' distance' : ℕ) → List ℕ
ring delay distance delay' distance' = file_with (1 ∷ 0 ∷ 1 ∷ 0 ∷ []) [] (0 ∷ 1 ∷ delay ∷ distance ∷ 1 ∷ 0 ∷ delay' ∷ distance' ∷ [])

-- one operation without uses, and the dependence 0-0-0-0
abbrev pub idle : List ℕ
idle = file_with (1 ∷ 0 ∷ []) [] (0 ∷ 0 ∷ 0 ∷ 0 ∷ [])

-- one operation that uses slot 1 for 4 cycles
abbrev pub four : List ℕ
four = file_with (1 ∷ 1 ∷ []) (1 ∷ 4 ∷ []) []

-- ---- the list

-- an answer of bounds
abbrev pub both_are : ℕ → ℕ → Answer Lower
both_are resource recurrence = answered (record { resource = resource; recurrence = recurrence })

-- an answer of a search
abbrev pub found_at : (ii resource recurrence stages count : ℕ) → List ℕ → Answer Outcome
found_at ii resource recurrence stages count xs =
    answered (found (record { ii = ii; bounds = record { resource = resource; recurrence = recurrence }; stages = stages; count = count; starts = xs }))

-- a search that ends in 10 or 11
abbrev pub ended_at : (number detail count : ℕ) → Answer Outcome
ended_at number detail count = answered (ended (record { number = number; detail = detail }) count)

-- a line of a listing
abbrev pub line : (start stage cycle order : ℕ) → Line
line start stage cycle order = record { start_at = start; stage_of = stage; cycle_of = cycle; order_in = order }

-- cases 1, 2, 3, 4, 5, 6, 7, 8, 9, 10, 11, 12, in this order; before them loop A: its reading, its search (at horizon 8 in place of 256: the
-- probes end at the answer, so the count is the same) and its listing
abbrev pub starred : List Case
starred =
    reads file_a (answered loop_a)
    ∷ searched file_a (record { cap = 4096; horizon = 8; budget = 1000000 }) (found_at 3 2 3 2 10 (0 ∷ 2 ∷ 5 ∷ []))
    ∷ listed 3 (0 ∷ 2 ∷ 5 ∷ []) (line 0 0 0 0 ∷ line 2 0 2 1 ∷ line 5 1 2 0 ∷ [])
    -- 1
    ∷ bounded file_a (both_are 2 3)
    -- 2
    ∷ judged file_a 3 (0 ∷ 2 ∷ 5 ∷ []) (answered is_legal)
    ∷ judged file_a 3 (0 ∷ 2 ∷ 4 ∷ []) (answered (breach 1))
    -- 3
    ∷ judged file_b 2 (0 ∷ 3 ∷ []) (answered is_legal)
    ∷ judged file_b 3 (0 ∷ 3 ∷ []) (answered (clash 0 1 1))
    ∷ judged file_b 4 (0 ∷ 3 ∷ []) (answered is_legal)
    -- 4; the last occupied cycle is 3, in stage 0
    ∷ searched file_b2 (record { cap = 4; horizon = 8; budget = 1000000 }) (found_at 4 3 1 1 78 (0 ∷ 3 ∷ 0 ∷ []))
    -- 5, not starred: 11 and 10; and the budget spent exactly, at the answer and at the end of an interval
    ∷ searched file_b2 (record { cap = 4; horizon = 8; budget = 78 }) (found_at 4 3 1 1 78 (0 ∷ 3 ∷ 0 ∷ []))
    ∷ searched file_b2 (record { cap = 4; horizon = 8; budget = 72 }) (ended_at 11 4 72)
    ∷ searched file_b2 (record { cap = 3; horizon = 8; budget = 72 }) (ended_at 10 3 72)
    ∷ searched file_b2 (record { cap = 4; horizon = 8; budget = 77 }) (ended_at 11 4 77)
    ∷ searched file_b2 (record { cap = 4; horizon = 8; budget = 71 }) (ended_at 11 3 71)
    ∷ searched file_b2 (record { cap = 3; horizon = 8; budget = 1000000 }) (ended_at 10 3 72)
    ∷ searched file_b2 (record { cap = 2; horizon = 8; budget = 1000000 }) (ended_at 10 2 0)
    ∷ searched file_b2 (record { cap = 4; horizon = 3; budget = 1000000 }) (ended_at 10 4 24)
    -- 6; the last occupied cycle is 2, in stage 2
    ∷ searched file_c (record { cap = 4096; horizon = 8; budget = 1000000 }) (found_at 1 1 1 3 20 (2 ∷ 0 ∷ []))
    -- 7; -1 is the byte 255
    ∷ bounded (ring 1 0 0 0) (refused (record { number = 8; detail = 0 }))
    ∷ bounded (ring 1 0 255 0) (both_are 1 1)
    -- 8
    ∷ bounded idle (both_are 1 1)
    -- 9
    ∷ bounded (ring 3 1 4 1) (both_are 1 4)
    ∷ bounded (ring 4 1 4 1) (both_are 1 4)
    ∷ bounded (ring 4 1 5 1) (both_are 1 5)
    -- 10
    ∷ judged four 3 (0 ∷ []) (answered (clash 0 0 97))
    ∷ judged four 4 (0 ∷ []) (answered is_legal)
    -- 11
    ∷ called file_a 3 256 (place 0 0 ∷ place 1 2 ∷ []) (answered done ∷ answered done ∷ []) (some 0 ∷ some 2 ∷ none ∷ []) (3 ∷ 0 ∷ 2 ∷ []) (2 ∷ 1 ∷ replicate 22 3)
    ∷ called file_a 3 256 (place 0 0 ∷ place 1 2 ∷ remove 0 ∷ []) (answered done ∷ answered done ∷ answered done ∷ [])
    (none ∷ some 2 ∷ none ∷ []) (2 ∷ 0 ∷ 2 ∷ []) (3 ∷ 1 ∷ replicate 22 3)
    -- 12
    ∷ called file_a 3 256 (place 0 0 ∷ checkpoint ∷ force 2 3 ∷ []) (answered done ∷ answered (numbered 1) ∷ answered (displaced 1) ∷ [])
    (none ∷ none ∷ some 3 ∷ []) (1 ∷ 0 ∷ 0 ∷ []) (2 ∷ 3 ∷ replicate 22 3)
    ∷ called file_a 3 256 (place 0 0 ∷ checkpoint ∷ force 2 3 ∷ rollback 1 ∷ [])
    (answered done ∷ answered (numbered 1) ∷ answered (displaced 1) ∷ answered done ∷ []) (some 0 ∷ none ∷ none ∷ []) (1 ∷ 0 ∷ 0 ∷ []) (2 ∷ 3 ∷ replicate 22 3)
    ∷ []

-- ---- the writer

-- the operations of loop A, its first two uses and its first dependence, each with these numbers after them
abbrev pub numbers_a : (ops uses deps : List ℤ) → Fields
numbers_a ops uses deps = record {
  ops = pos 2 ∷ pos 1 ∷ pos 3 ∷ pos 1 ∷ pos 1 ∷ pos 1 ∷ ops;
  uses = pos 1 ∷ pos 1 ∷ pos 2 ∷ pos 2 ∷ uses;
  deps = pos 0 ∷ pos 1 ∷ pos 2 ∷ pos 0 ∷ deps;
}

-- the numbers of loop A
abbrev pub all_of_a : Fields
all_of_a = numbers_a [] (pos 1 ∷ pos 1 ∷ []) (pos 1 ∷ pos 2 ∷ pos 3 ∷ pos 0 ∷ pos 1 ∷ pos 1 ∷ pos 3 ∷ pos 1 ∷ [])

-- a refusal of the writer
abbrev pub unwritten : (number detail : ℕ) → Answer (List ℕ)
unwritten number detail = refused (record { number = number; detail = detail })

-- loop A in a buffer of its length, and in a shorter one; then each refusal, with others that would come later: no operation, half an operation, half a
-- dependence, a latency, a number of uses, a use too few, half a use too many, a slot that does not rise, a duration, a target, a delay, a distance
abbrev pub writing : List Case
writing =
    writes all_of_a 50 (answered file_a)
    ∷ writes all_of_a 49 (unwritten 20 49)
    ∷ writes (record { ops = []; uses = []; deps = pos 1 ∷ [] }) 0 (unwritten 3 2)
    ∷ writes (numbers_a (pos 65 ∷ []) [] (pos 1 ∷ [])) 0 (unwritten 3 2)
    ∷ writes (numbers_a (pos 65 ∷ pos 0 ∷ []) [] (pos 1 ∷ [])) 0 (unwritten 3 18)
    ∷ writes (numbers_a (pos 65 ∷ pos 0 ∷ []) [] []) 0 (unwritten 4 3)
    ∷ writes (numbers_a (pos 64 ∷ negsuc 0 ∷ []) [] []) 0 (unwritten 4 3)
    ∷ writes (numbers_a [] [] []) 0 (unwritten 5 2)
    ∷ writes (numbers_a [] (pos 0 ∷ pos 1 ∷ pos 1 ∷ []) []) 0 (unwritten 5 3)
    ∷ writes (numbers_a (pos 0 ∷ pos 2 ∷ []) (pos 1 ∷ pos 1 ∷ pos 4 ∷ pos 1 ∷ pos 4 ∷ pos 1 ∷ []) (pos 4 ∷ pos 0 ∷ pos 0 ∷ pos 0 ∷ [])) 0 (unwritten 5 4)
    ∷ writes (numbers_a [] (pos 1 ∷ pos 17 ∷ []) (pos 3 ∷ pos 0 ∷ pos 0 ∷ pos 0 ∷ [])) 0 (unwritten 5 2)
    ∷ writes (numbers_a [] (pos 1 ∷ pos 1 ∷ []) (pos 0 ∷ pos 3 ∷ pos 0 ∷ pos 0 ∷ [])) 0 (unwritten 6 1)
    ∷ writes (numbers_a [] (pos 1 ∷ pos 1 ∷ []) (pos 0 ∷ pos 2 ∷ negsuc 64 ∷ pos 0 ∷ [])) 0 (unwritten 6 1)
    ∷ writes (numbers_a [] (pos 1 ∷ pos 1 ∷ []) (pos 0 ∷ pos 2 ∷ negsuc 63 ∷ pos 16 ∷ [])) 0 (unwritten 6 1)
    ∷ []
