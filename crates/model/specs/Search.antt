-- The search: which intervals and lists are tried, what is found, and how many probes that takes by definition. Assumes nothing.
use Rattle.std.specs.Prelude.{◌≡◌, Bool, true, false, cond, ◌&&◌, ◌||◌, ℕ, zero, suc, ◌+◌, ◌-◌, ◌/◌, ◌%◌, ◌≤◌, ◌<◌, max, eqb, ltb, length, get_or, take, drop, replicate}
use mathlib.Core.List.{List, [], ◌∷◌, ◌++◌, map, flat_map, drop_last}
use Rattle.std.proofs.Math.Option.{Option, none, some}
use Rattle.model.specs.Lists.{up_from, first, count_if, max_of}
use Rattle.model.specs.Refusals.{Refusal, Check, range, lent, first_refusal, Answer, answered, refused}
use Rattle.model.specs.Loop.{Loop, size, op_at}
use Rattle.model.specs.File.{file_checks, loop_of}
use Rattle.model.specs.Legality.{legal}
use Rattle.model.specs.Bounds.{Lower, LowerIs}

-- ---- one interval, over any predicate L of lists that says which are legal

-- every list of 1 to n numbers below h: a list before its extensions, else in dictionary order. The lists shorter than n are there for the probes, each of which is one of them: a legal prefix and a
-- next start joined; the answer is looked for among those of n
unfoldable pub words : ℕ → ℕ → List (List ℕ)
words h zero = []
words h (suc n) = flat_map (λ s. (s ∷ []) ∷ map (s ∷◌) (words h n)) (up_from 0 h)

-- L holds of the list, and it has n starts
abbrev pub whole : (List ℕ → Bool) → ℕ → List ℕ → Bool
whole L n q = eqb (length q) n && L q

-- the first legal list of n starts below h, in dictionary order
unfoldable pub answer : (List ℕ → Bool) → ℕ → ℕ → Option (List ℕ)
answer L h n = first (whole L n) (words h n)

-- of two lists of one length: the first is not after the second in dictionary order
abbrev pub not_after : List ℕ → List ℕ → Bool
not_after [] ys = true
not_after (x ∷ xs) [] = false
not_after (x ∷ xs) (y ∷ ys) = ltb x y || (eqb x y && not_after xs ys)

-- q is not after the answer's beginning of that length; where there is no answer, every q is so
abbrev pub reached : Option (List ℕ) → List ℕ → Bool
reached none q = true
reached (some a) q = not_after q (take (length q) a)

-- a probe: a pair of a legal prefix and a next start, here joined to the list q, that is reached
abbrev pub tried : (List ℕ → Bool) → Option (List ℕ) → List ℕ → Bool
tried L a q = L (drop_last q) && reached a q

-- the number of probes
unfoldable pub probes : (List ℕ → Bool) → ℕ → ℕ → ℕ
probes L h n = count_if (tried L (answer L h n)) (words h n)

-- ---- stages (source document 000; the stage count: document 02, order 2)

-- the start of operation o, 0 past the end of the list
abbrev pub start_of : List ℕ → ℕ → ℕ
start_of xs o = get_or xs o 0

-- the stage of a start
abbrev pub stage : ℕ → ℕ → ℕ
stage ii s = s / ii

-- the cycle of a start
abbrev pub cycle : ℕ → ℕ → ℕ
cycle ii s = s % ii

-- operation p comes before operation o in their stage: a smaller cycle, or the same and a smaller number
abbrev pub earlier : ℕ → List ℕ → ℕ → ℕ → Bool
earlier ii xs o p =
    eqb (stage ii (start_of xs p)) (stage ii (start_of xs o))
    && (ltb (cycle ii (start_of xs p)) (cycle ii (start_of xs o)) || (eqb (cycle ii (start_of xs p)) (cycle ii (start_of xs o)) && ltb p o))

-- the order of operation o in its stage
unfoldable pub order_of : ℕ → List ℕ → ℕ → ℕ
order_of ii xs o = count_if (earlier ii xs o) (up_from 0 (length xs))

-- what a listing says of operation o
pub record Line : Type 0 where
  pub start_at : ℕ
  pub stage_of : ℕ
  pub cycle_of : ℕ
  pub order_in : ℕ

-- the line of operation o
abbrev pub line_of : ℕ → List ℕ → ℕ → Line
line_of ii xs o = record { start_at = start_of xs o; stage_of = stage ii (start_of xs o); cycle_of = cycle ii (start_of xs o); order_in = order_of ii xs o }

-- the lines of all operations, in number order
unfoldable pub listing : ℕ → List ℕ → List Line
listing ii xs = map (line_of ii xs) (up_from 0 (length xs))

-- how many cycles operation o occupies, from its start on: its latency, at least one
abbrev pub occupied_by : Loop → ℕ → ℕ
occupied_by l o = max 1 (op_at l o).latency

-- the last cycle that it occupies
abbrev pub last_cycle : Loop → List ℕ → ℕ → ℕ
last_cycle l xs o = start_of xs o + occupied_by l o - 1

-- the last occupied cycle: the largest of these
unfoldable pub last_occupied : Loop → List ℕ → ℕ
last_occupied l xs = max_of (last_cycle l xs) (up_from 0 (size l))

-- the stage count: the stage of the last occupied cycle, plus 1
unfoldable pub stage_count : Loop → ℕ → List ℕ → ℕ
stage_count l ii xs = stage ii (last_occupied l xs) + 1

-- operation o occupies cycle t
abbrev pub Occupies : Loop → List ℕ → (o t : ℕ) → Type 0
Occupies l xs o t = (o < size l) × (start_of xs o ≤ t) × (t < start_of xs o + occupied_by l o)

-- in plain words, for laws: n is one more than the largest stage of an occupied cycle. So the last of n stages is not empty
pub record LastStage (l : Loop) (ii : ℕ) (xs : List ℕ) (n : ℕ) : Type 0 where
  -- every occupied cycle is in one of n stages
  pub within : (o t : ℕ) → Occupies l xs o t → stage ii t < n
  -- an operation occupies a cycle of the last of them
  pub op : ℕ
  pub at : ℕ
  pub occupies : Occupies l xs op at
  pub is_last : stage ii at + 1 ≡ n

-- ---- the request, and what it is refused for

-- the largest interval, the bound that starts stay below, and how many probes may be made (document 01: cap, horizon, allowance)
pub record Request : Type 0 where
  pub cap : ℕ
  pub horizon : ℕ
  pub budget : ℕ

-- 7, in field order
unfoldable pub request_checks : Request → List Check
request_checks q =
    range 1 4096 q.cap ∷ range 2 4096 q.horizon ∷ range 3 1000000 q.budget ∷ []

-- 20: the output list, of which there is to be a number for each operation, then the scratch table, of which 4,096 rows are used
unfoldable pub room_checks : Loop → ℕ → ℕ → List Check
room_checks l list rows = lent (size l) list ∷ lent 4096 rows ∷ []

-- 1 to 6, 7, 20
unfoldable pub search_checks : List ℕ → Request → ℕ → ℕ → List Check
search_checks f q list rows = file_checks f ++ request_checks q ++ room_checks (loop_of f) list rows

-- ---- the outcome

-- the schedule that is found
pub record Schedule : Type 0 where
  pub ii : ℕ
  pub bounds : Lower
  pub stages : ℕ
  pub count : ℕ
  pub starts : List ℕ

-- what a search that was made comes to: a schedule, or refusal 10 or 11, which also carry the count. Both are refusals of document 01; they stand here, and so under `answered`, because the search was made: the rows are
-- cleared and probes were counted, as for no other refusal
pub data Outcome : Type 0 where
  found : Schedule → Outcome
  ended : Refusal → (count : ℕ) → Outcome

-- the intervals that may be tried: from the larger bound to the cap
abbrev pub intervals : Lower → ℕ → List ℕ
intervals b cap = up_from (max b.resource b.recurrence) (suc cap - max b.resource b.recurrence)

-- an interval whose probes end at the number `total`: 11 where that is over the budget, the schedule where it has one, else what the later intervals give
abbrev pub try_interval : Loop → Request → Lower → (ii total : ℕ) → Option (List ℕ) → Outcome → Outcome
try_interval l q b ii total none later = cond (ltb q.budget total) (ended (record { number = 11; detail = ii }) q.budget) later
try_interval l q b ii total (some xs) later =
    cond (ltb q.budget total) (ended (record { number = 11; detail = ii }) q.budget)
    (found (record { ii = ii; bounds = b; stages = stage_count l ii xs; count = total; starts = xs }))

-- the intervals in turn, after `spent` probes; 10 where none has a schedule
unfoldable pub sweep : Loop → Request → Lower → ℕ → List ℕ → Outcome
sweep l q b spent [] = ended (record { number = 10; detail = q.cap }) spent
sweep l q b spent (ii ∷ iis) =
    let total : ℕ = spent + probes (legal l ii) q.horizon (size l) in
    let later : Outcome = sweep l q b total iis in
    try_interval l q b ii total (answer (legal l ii) q.horizon (size l)) later

-- the answer for a file, a request, and a lent list and table of these lengths: 1 to 6, 7, 20; then 8, 9; then the search is made
pub data SearchIs (f : List ℕ) (q : Request) (list rows : ℕ) (a : Answer Outcome) : Type 0 where
  by_check : (r : Refusal) → first_refusal (search_checks f q list rows) ≡ some r → a ≡ refused r → SearchIs f q list rows a
  by_bound : (r : Refusal) → first_refusal (search_checks f q list rows) ≡ none → LowerIs (loop_of f) (refused r) → a ≡ refused r
      → SearchIs f q list rows a
  by_sweep : (b : Lower) → first_refusal (search_checks f q list rows) ≡ none → LowerIs (loop_of f) (answered b)
      → a ≡ answered (sweep (loop_of f) q b 0 (intervals b q.cap)) → SearchIs f q list rows a

-- ---- lent memory

-- the output list afterwards: one start an operation where a schedule is found, else as it was
abbrev pub list_after : Answer Outcome → List ℕ → List ℕ
list_after (answered (found s)) old = s.starts ++ drop (length s.starts) old
list_after (answered (ended r count)) old = old
list_after (refused r) old = old

-- the scratch table afterwards: its first 4,096 rows cleared by a search that was made, else as it was
abbrev pub rows_after : Answer Outcome → List ℕ → List ℕ
rows_after (answered a) old = replicate 4096 0 ++ drop 4096 old
rows_after (refused r) old = old
