-- What the search of a file that has passed every check uses: the table that is cleared before the sweep, and the answer at each end of it. Assumes nothing.
use mathlib.Core.Path.{◌≡◌, refl, sym, ap, ap₂, subst, ◌∙◌}
use mathlib.Core.List.{List, ◌++◌}
use Prim.Native.Nat.{ℕ, suc, ◌+◌, ◌-◌, ◌≤◌, max}
use native.Mathlib.Omega.{arith}
use lib.ListN.{length, take, drop, replicate}
use lib.Seq.{get_or-take, length-take-le, take_at}
use Rattle.model.specs.Lists.{up_from}
use Rattle.model.specs.Refusals.{answered}
use Rattle.model.specs.Loop.{Loop, size}
use Rattle.model.specs.File.{loop_of, Accepted}
use Rattle.model.specs.Bounds.{Lower}
use Rattle.model.specs.Search.{stage, occupied_by, last_cycle, last_occupied, stage_count, found, sweep, list_after, rows_after}
use Rattle.model.proofs.File.{accepted_ok}
use Rattle.model.proofs.Sums.{max_same}
use Rattle.reservation.proofs.Stores.{cleared, cleared_length}
use Rattle.std.specs.Prelude.{Result, Ok, Err, IsErrAnd}
use Rattle.lower_bounds.specs.declared.Bounds as lower
use Rattle.search.specs.Sweep.{Clear, SweptIs, Within}
use Rattle.search.specs.Admitted.{Passed}
use Rattle.search.specs.Answer.{Attempted}
use Rattle.search.specs.declared.Solution.{Solution}
use Rattle.search.specs.declared.Unsolved.{Unsolved}
use Rattle.search.specs.declared.Unsolved.TheVariants.{NoSchedule, BudgetSpent, Refused}
use Rattle.search.specs.Unsolved.{unsolved_of}

-- ---- the stage count

-- it depends on the starts of the loop's operations alone
pub stages_take : (l : Loop) (ii n : ℕ) (xs : List ℕ) → n ≡ size l → stage_count l ii (take n xs) ≡ stage_count l ii xs
unfolding stage_count last_occupied
stages_take l ii n xs e =
    ap (λ (m : ℕ). stage ii m + 1)
    (max_same (last_cycle l (take n xs)) (last_cycle l xs) 0 (size l)
    (λ o i j. ap (λ (s : ℕ). s + occupied_by l o - 1) (get_or-take n xs o 0 (omega arith))))

-- ---- before the sweep

-- a loop has at most 64 operations
pub few : (f : List ℕ) (n : ℕ) → Accepted f → n ≡ size (loop_of f) → n ≤ 64
few f n a e = omega (arith, (accepted_ok f a).few)

-- what the sweep asks for holds once the rows are cleared
pub clears : {f : List ℕ} {n recurrence cap horizon list : ℕ} (rows starts rows' : List ℕ) (resource least : ℕ) → Passed f n recurrence cap horizon list (length rows)
    → length starts ≡ 64 → rows' ≡ replicate 4096 0 ++ drop 4096 rows → least ≡ max resource recurrence → Clear f starts rows' n least cap horizon
clears {f} {n} rows starts rows' resource least p wide e m =
    record {
      accepted = p.accepted;
      is_size = p.is_size;
      some = omega (arith, p.positive);
      capped = p.capped;
      near = p.near;
      room = omega (arith, few f n p.accepted p.is_size);
      long = rw (e, cleared_length 4096 rows p.long) p.long;
      clear = λ r l. rw e (cleared 4096 rows r l);
    }

-- ---- after the sweep

-- once its case is known: no more probes are made than the budget
pub left_within : (budget : ℕ) {r : Result (ℕ × ℕ) Unsolved} → Within budget r → (s : Result (ℕ × ℕ) Unsolved) → r ≡ s → Within budget s
left_within budget w s e = subst (Within budget) e w

-- a list is found, and written
pub finds : {f : List ℕ} {n cap horizon : ℕ} {bounds : lower.Bounds} (least budget ii probes stages : ℕ) (list rows starts list' rows' : List ℕ) → Passed f n bounds.recurrence cap horizon (length list) (length rows)
    → least ≡ max bounds.resource bounds.recurrence → length starts ≡ 64 → SweptIs f n least cap horizon budget starts (Ok (ii, probes)) → rows' ≡ replicate 4096 0 ++ drop 4096 rows → list' ≡ take n starts ++ drop n list
    → stages ≡ stage_count (loop_of f) ii starts
    → Attempted f bounds cap horizon budget list rows (Ok (record { interval = ii; resource = bounds.resource; recurrence = bounds.recurrence; stages = stages; probes = probes })) list' rows'
finds {f} {n} {cap} {horizon} {bounds} least budget ii probes stages list rows starts list' rows' p least_is wide h rows_are w s =
    let b : Lower = record { resource = bounds.resource; recurrence = bounds.recurrence } in
    let long : length (take n starts) ≡ n = length-take-le n starts (omega (arith, few f n p.accepted p.is_size)) in
    let front : take (size (loop_of f)) list' ≡ take n starts = ap (take (size (loop_of f))) w ∙ take_at (take n starts) (drop n list) (size (loop_of f)) (long ∙ p.is_size) in
    record {
      says =
          ap₂ (λ (k : ℕ) (xs : List ℕ). answered (found (record { ii = ii; bounds = b; stages = k; count = probes; starts = xs }))) (s ∙ sym (stages_take (loop_of f) ii n starts p.is_size)) front
          ∙ h b ∙ ap (λ (m : ℕ). answered (sweep (loop_of f) (record { cap = cap; horizon = horizon; budget = budget }) b 0 (up_from m (suc cap - m)))) least_is;
      list_is = w ∙ sym (ap (λ (xs : List ℕ). xs ++ drop (length xs) list) front ∙ ap (λ (k : ℕ). take n starts ++ drop k list) long);
      rows_are = rows_are;
    }

-- an end leaves the list
list_same : (u : Unsolved) (list : List ℕ) → list ≡ list_after (unsolved_of u) list
list_same (NoSchedule c k) list = refl
list_same (BudgetSpent ii k) list = refl
list_same (Refused x) list = refl

-- none is: `?` passes the end on
pub ends : {f : List ℕ} {cap horizon budget : ℕ} {bounds : lower.Bounds} (n least : ℕ) (u : Unsolved) (list rows starts rows' : List ℕ) (r : Result Solution Unsolved) → IsErrAnd r (λ y. y ≡ u)
    → least ≡ max bounds.resource bounds.recurrence → SweptIs f n least cap horizon budget starts (Err u) → rows' ≡ replicate 4096 0 ++ drop 4096 rows → Attempted f bounds cap horizon budget list rows r list rows'
ends n least u list rows starts rows' (Ok s) e least_is h rows_are = absurd e
ends {f} {cap} {horizon} {budget} {bounds} n least u list rows starts rows' (Err y) e least_is h rows_are =
    let b : Lower = record { resource = bounds.resource; recurrence = bounds.recurrence } in
    rw e
    (record {
      says = h b ∙ ap (λ (m : ℕ). answered (sweep (loop_of f) (record { cap = cap; horizon = horizon; budget = budget }) b 0 (up_from m (suc cap - m)))) least_is;
      list_is = list_same u list;
      rows_are = rows_are ∙ sym (ap (λ a. rows_after a rows) (h b));
    })
