-- The session: the reference state (document 01: the book) and what each call does to it. Assumes nothing.
use Rattle.std.specs.Prelude.{Bool, true, false, not, cond, ◌&&◌, ◌||◌, List, [], ◌∷◌, ◌++◌, map, ℕ, ◌+◌, ◌-◌, ◌^◌, eqb, leb, ltb, length, get_or, set, take, drop, replicate}
use Rattle.std.proofs.Math.Option.{Option, none, some}
use Rattle.model.specs.Lists.{up_from, any_of, sum_of}
use Rattle.model.specs.Refusals.{Check, check, if_found, range, lent, Answer, answered, refused, settle}
use Rattle.model.specs.Loop.{Use, Loop, size, op_at}
use Rattle.model.specs.File.{file_checks, loop_of}
use Rattle.model.specs.Legality.{Placing, touches, breaks, first_breach, conflicts_with}
use Rattle.model.specs.Table.{table_at}
use Rattle.model.specs.Counts.{number_of, place_clash, own_clash}

-- ---- opening

-- what a session is opened with and never changes
pub record Setup : Type 0 where
  pub loop : Loop
  pub ii : ℕ
  pub horizon : ℕ

-- 1 to 6, 7, 20, for a file, an interval, a horizon and a lent table of `rows` rows
unfoldable pub open_checks : List ℕ → ℕ → ℕ → ℕ → List Check
open_checks f ii horizon rows =
    file_checks f ++ (range 1 4096 ii ∷ range 2 4096 horizon ∷ lent ii rows ∷ [])

-- the answer for any file, numbers and table
unfoldable pub open_file : List ℕ → ℕ → ℕ → ℕ → Answer Setup
open_file f ii horizon rows =
    settle (open_checks f ii horizon rows) (record { loop = loop_of f; ii = ii; horizon = horizon })

-- the lent table afterwards: its first ii rows cleared where the session opens, else as it was
abbrev pub open_rows : Answer Setup → List ℕ → List ℕ
open_rows (answered u) old = replicate u.ii 0 ++ drop u.ii old
open_rows (refused r) old = old

-- ---- the state

-- a start for each operation, none where it is not placed (document 01: not seated)
abbrev pub Starts : Type 0
Starts = List (Option ℕ)

-- the starts, and a copy of all starts for each open checkpoint, oldest first (document 01: mark)
pub record State : Type 0 where
  pub starts : Starts
  pub checkpoints : List Starts

-- at first nothing is placed and no checkpoint open
abbrev pub start : Setup → State
start u = record { starts = replicate (size u.loop) none; checkpoints = [] }

-- the starts as a placing
abbrev pub placed_in : Starts → Placing
placed_in xs o = get_or xs o none

-- the table of a state
abbrev pub state_table : Setup → State → List ℕ
state_table u st = table_at u.loop u.ii (placed_in st.starts)

-- ---- the calls

-- document 01: seat, force, withdraw, mark, drop, back to mark
pub data Call : Type 0 where
  place : (op at : ℕ) → Call
  force : (op at : ℕ) → Call
  remove : (op : ℕ) → Call
  checkpoint : Call
  release : Call
  rollback : (mark : ℕ) → Call

-- done; the operations that were displaced, bit i for operation i; the number of the new checkpoint
pub data Reply : Type 0 where
  done : Reply
  displaced : ℕ → Reply
  numbered : ℕ → Reply

-- whether there is a start
abbrev pub is_placed : Option ℕ → Bool
is_placed none = false
is_placed (some t) = true

-- ---- what each call is refused for, in order

-- no such operation
abbrev pub absent : Setup → ℕ → Check
absent u o = check (leb (size u.loop) o) 12 o

-- already placed
abbrev pub taken : State → ℕ → Check
taken st o = check (is_placed (get_or st.starts o none)) 13 o

-- start not below the horizon
abbrev pub late : Setup → ℕ → ℕ → Check
late u o t = check (leb u.horizon t) 15 o

-- a dependence of o with itself or an operation of f broken by o at t: the first is the detail
abbrev pub unmet : Setup → Placing → ℕ → ℕ → Check
unmet u f o t = if_found 16 (first_breach u.loop u.ii f o t)

-- a taken cell met: the number of the first place is the detail
abbrev pub clashed : Option (ℕ × Use) → Check
clashed q = if_found 17 (number_of q)

-- no operation is placed
abbrev pub nowhere : Placing
nowhere p = none

-- each call's table of checks; for force only what concerns the operation itself counts
abbrev pub checks : Setup → Call → State → List Check
checks u (place o t) st =
    absent u o ∷ taken st o ∷ late u o t
    ∷ unmet u (placed_in st.starts) o t ∷ clashed (place_clash u.loop u.ii (placed_in st.starts) o t)
    ∷ []
checks u (force o t) st =
    absent u o ∷ taken st o ∷ late u o t
    ∷ unmet u nowhere o t ∷ clashed (own_clash u.ii (op_at u.loop o) t)
    ∷ []
checks u (remove o) st = absent u o ∷ check (not (is_placed (get_or st.starts o none))) 14 o ∷ []
checks u checkpoint st = check (leb 16 (length st.checkpoints)) 18 0 ∷ []
checks u release st = check (eqb (length st.checkpoints) 0) 19 0 ∷ []
checks u (rollback m) st = check (eqb m 0 || ltb (length st.checkpoints) m) 19 0 ∷ []

-- ---- what each call does where it is not refused

-- operation p is placed and conflicts with o at t, or a dependence between the two is broken
unfoldable pub in_the_way : Setup → Starts → ℕ → ℕ → ℕ → Bool
in_the_way u xs o t p =
    is_placed (get_or xs p none)
    && (conflicts_with u.loop u.ii (placed_in xs) o t p || any_of (λ d. touches p d && breaks u.ii (placed_in xs) o t d) u.loop.deps)

-- the starts without those of the operations in the way
unfoldable pub without : Setup → Starts → ℕ → ℕ → Starts
without u xs o t = map (λ p. cond (in_the_way u xs o t p) none (get_or xs p none)) (up_from 0 (length xs))

-- the operations in the way: bit p for operation p
unfoldable pub mask_of : Setup → Starts → ℕ → ℕ → ℕ
mask_of u xs o t = sum_of (λ p. cond (in_the_way u xs o t p) (2 ^ p) 0) (up_from 0 (length xs))

-- the new state and the reply
abbrev pub effect : Setup → Call → State → State × Reply
effect u (place o t) st = (record { starts = set st.starts o (some t); checkpoints = st.checkpoints }, done)
effect u (force o t) st =
    (record { starts = set (without u st.starts o t) o (some t); checkpoints = st.checkpoints }, displaced (mask_of u st.starts o t))
effect u (remove o) st = (record { starts = set st.starts o none; checkpoints = st.checkpoints }, done)
effect u checkpoint st =
    (record { starts = st.starts; checkpoints = st.checkpoints ++ (st.starts ∷ []) }, numbered (length st.checkpoints + 1))
effect u release st =
    (record { starts = st.starts; checkpoints = take (length st.checkpoints - 1) st.checkpoints }, done)
effect u (rollback m) st =
    (record { starts = get_or st.checkpoints (m - 1) []; checkpoints = take m st.checkpoints }, done)

-- a refusal hands back the state as it was
abbrev pub step_as : State → Answer (State × Reply) → State × Answer Reply
step_as st (answered e) = (e.0, answered e.1)
step_as st (refused r) = (st, refused r)

-- a call: the first failing check is the reply and nothing changes, else the effect
unfoldable pub step : Setup → Call → State → State × Answer Reply
step u c st = step_as st (settle (checks u c st) (effect u c st))

-- ---- a list of calls

-- the state after them
unfoldable pub after : Setup → List Call → State → State
after u [] st = st
after u (c ∷ cs) st = after u cs (step u c st).0

-- their replies
unfoldable pub replies : Setup → List Call → State → List (Answer Reply)
replies u [] st = []
replies u (c ∷ cs) st = (step u c st).1 ∷ replies u cs (step u c st).0
