-- Laws of the session's calls: what a refused call leaves, and which checkpoints are open. Assumes nothing.
use mathlib.Core.Path.{◌≡◌, refl, ap, ◌∙◌}
use mathlib.Core.List.{List, [], ◌∷◌, ◌++◌}
use mathlib.Core.Option.{Option, none, some}
use Prim.Native.Nat.{ℕ, ◌+◌, ◌-◌, ◌≤◌, ◌<◌}
use native.Mathlib.Omega.{arith}
use lib.ListN.{length, get_or, take, length-append}
use lib.Seq.{length-take-le, get_or-append_seam, take_all}
use borrow.Author.Tests.{ne_eqb, le-ltb, lt-leb}
use Rattle.model.specs.Refusals.{Refusal, first_refusal, Answer, answered, refused, settled}
use Rattle.model.specs.Session.{Setup, Starts, State, Call, checkpoint, rollback, Reply, done, numbered, checks, effect, step_as, step}

-- a call is refused, and then by the first check that fails; or it has its effect
pub step_refused : (u : Setup) (c : Call) (st : State) (r : Refusal) → first_refusal (checks u c st) ≡ some r → step u c st ≡ (st, refused r)
unfolding step
step_refused u c st r e = ap (λ (o : Option Refusal). step_as st (settled o (effect u c st))) e

pub step_done : (u : Setup) (c : Call) (st : State) → first_refusal (checks u c st) ≡ none → step u c st ≡ ((effect u c st).0, answered (effect u c st).1)
unfolding step
step_done u c st e = ap (λ (o : Option Refusal). step_as st (settled o (effect u c st))) e

-- a call that is answered has passed its checks
pub answered_passes : (u : Setup) (c : Call) (st : State) (r : Reply) → (step u c st).1 ≡ answered r → first_refusal (checks u c st) ≡ none
unfolding step
answered_passes u c st r e = pick (first_refusal (checks u c st)) e
  where
    pick : (o : Option Refusal) → (step_as st (settled o (effect u c st))).1 ≡ answered r → o ≡ none
    pick none e = refl
    pick (some q) e = let z : ◌≡◌ {A = ℕ} 0 1 = cc in absurd (omega arith)

-- a refused call changes nothing
pub refused_same : (u : Setup) (c : Call) (st : State) (r : Refusal) → (step u c st).1 ≡ refused r → (step u c st).0 ≡ st
unfolding step
refused_same u c st r e = pick (first_refusal (checks u c st)) e
  where
    pick : (o : Option Refusal) → (step_as st (settled o (effect u c st))).1 ≡ refused r → (step_as st (settled o (effect u c st))).0 ≡ st
    pick (some q) e = refl
    pick none e = let z : ◌≡◌ {A = ℕ} 0 1 = cc in absurd (omega arith)

-- ---- checkpoints

-- a new checkpoint is the newest, and its number says how many are open
pub checkpoint_done : (u : Setup) (st : State) → length st.checkpoints < 16
    → step u checkpoint st ≡ (record { starts = st.starts; checkpoints = st.checkpoints ++ (st.starts ∷ []) }, answered (numbered (length st.checkpoints + 1)))
unfolding first_refusal
checkpoint_done u st h = step_done u checkpoint st (rw (lt-leb 16 (length st.checkpoints) h))

-- rolling back to an open checkpoint gives its starts, and leaves it the newest
pub rollback_done : (u : Setup) (st : State) (m : ℕ) → 1 ≤ m → m ≤ length st.checkpoints
    → step u (rollback m) st ≡ (record { starts = get_or st.checkpoints (m - 1) []; checkpoints = take m st.checkpoints }, answered done)
unfolding first_refusal
rollback_done u st m low high = step_done u (rollback m) st (rw (ne_eqb m 0 (λ e. omega arith), le-ltb (length st.checkpoints) m high))

-- m stays open, and later ones are forgotten: m are open then
pub rollback_open : (u : Setup) (st : State) (m : ℕ) → 1 ≤ m → m ≤ length st.checkpoints → length (step u (rollback m) st).0.checkpoints ≡ m
rollback_open u st m low high =
    ap (λ (p : State × Answer Reply). length p.0.checkpoints) (rollback_done u st m low high) ∙ length-take-le m st.checkpoints high

-- states are equal where their parts are
pub state_same : {a b : Starts} {c d : List Starts} → a ≡ b → c ≡ d → ◌≡◌ {A = State} (record { starts = a; checkpoints = c }) (record { starts = b; checkpoints = d })
state_same p q = rw (p, q)

-- the state with one checkpoint more
abbrev pub marked : State → State
marked st = record { starts = st.starts; checkpoints = st.checkpoints ++ (st.starts ∷ []) }

-- the state that going back to checkpoint m gives
abbrev pub went_back : ℕ → State → State
went_back m st = record { starts = get_or st.checkpoints (m - 1) []; checkpoints = take m st.checkpoints }

-- going back to a checkpoint just set gives the state of then
pub back_newest : (m : ℕ) (st : State) → m ≡ length st.checkpoints + 1 → went_back m (marked st) ≡ marked st
back_newest m st e =
    let long : length (marked st).checkpoints ≡ length st.checkpoints + 1 = length-append st.checkpoints (st.starts ∷ []) in
    state_same
    (ap (λ (i : ℕ). get_or (marked st).checkpoints i []) (omega arith) ∙ get_or-append_seam st.checkpoints st.starts [] [])
    (take_all m (marked st).checkpoints (omega arith))

-- so does the call
pub rollback_exact : (u : Setup) (st : State) → length st.checkpoints < 16
    → (step u (rollback (length st.checkpoints + 1)) (step u checkpoint st).0).0 ≡ (step u checkpoint st).0
rollback_exact u st h =
    let long : length (marked st).checkpoints ≡ length st.checkpoints + 1 = length-append st.checkpoints (st.starts ∷ []) in
    rw (checkpoint_done u st h, rollback_done u (marked st) (length st.checkpoints + 1) (omega arith) (omega arith)) (back_newest _ st refl)
