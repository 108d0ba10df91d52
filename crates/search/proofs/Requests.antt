-- What comes of a request: the checks before a search, and the answer that they lead to. Assumes nothing.
use mathlib.Core.Path.{◌≡◌, refl, sym, ap, ◌∙◌}
use mathlib.Core.Bool.{true≢false}
use mathlib.Core.List.{List, ◌++◌, append_assoc, ◌∷◌}
use mathlib.Core.Option.{none, some}
use Prim.Native.Nat.{ℕ, ◌≤◌}
use native.Mathlib.Omega.{arith}
use lib.ListN.{length}
use borrow.Author.Tests.{ltb-false}
use Rattle.std.specs.Prelude.{Result, Ok, Err, IsErr, IsErrAnd, IfErr}
use Rattle.model.specs.Refusals as model
use Rattle.model.specs.Refusals.{Check, first_refusal, range, refused}
use Rattle.model.specs.Loop.{Loop, size}
use Rattle.model.specs.File.{file_checks, loop_of, Accepted, read_file}
use Rattle.model.specs.Bounds.{resource_bound, Lower, LowerIs, cyclic, beyond, within}
use Rattle.model.specs.Search.{Request, request_checks, room_checks, search_checks, SearchIs, by_check, by_bound, by_sweep}
use Rattle.model.proofs.Checks.{refusal_append, refusal_early, passes_head, passes_tail, at_most, in_range}
use Rattle.model.proofs.Answers.{search_accepted}
use Rattle.refusals.specs.Told.{told, AskedIs}
use Rattle.refusals.specs.declared.Refusal.{Refusal}
use Rattle.loop_file.specs.Read.{reading_of, counted}
use Rattle.loop_file.proofs.Answers.{IsAccepted, read_refused}
use Rattle.lower_bounds.specs.Answer.{bounds_of}
use Rattle.lower_bounds.specs.declared.Bounds as lower
use Rattle.search.specs.Admitted.{AllPassed, Refuses, unchecked, unbounded, Admitted}
use Rattle.search.specs.Answer.{Searches, Attempted}
use Rattle.search.specs.declared.Solution.{Solution}
use Rattle.search.specs.declared.Unsolved.{Unsolved}
use Rattle.search.specs.declared.Unsolved.TheVariants.{Refused}

-- ---- all checks

module _ (f : List ℕ) (q : Request) (list rows : ℕ) where
  -- the checks after the reader's
  abbrev later_checks : List Check
  later_checks = request_checks q ++ room_checks (loop_of f) list rows

  -- all are the reader's, then these
  all_checks : search_checks f q list rows ≡ file_checks f ++ later_checks
  unfolding search_checks
  all_checks = append_assoc (file_checks f) (request_checks q) (room_checks (loop_of f) list rows)

  -- the reader's refusal is the first
  file_first : (r : model.Refusal) → first_refusal (file_checks f) ≡ some r → first_refusal (search_checks f q list rows) ≡ some r
  file_first r e = ap first_refusal all_checks ∙ refusal_early (file_checks f) later_checks r e

  -- on an accepted file the later checks decide
  later_decide : Accepted f → first_refusal (search_checks f q list rows) ≡ first_refusal later_checks
  later_decide a = ap first_refusal all_checks ∙ refusal_append (file_checks f) later_checks a

-- where all checks pass, they do with any other cap that is in range
pub other_cap : (f : List ℕ) (q : Request) (list rows cap : ℕ) → 1 ≤ cap → cap ≤ 4096 → first_refusal (search_checks f q list rows) ≡ none
    → first_refusal (search_checks f (record { cap = cap; horizon = q.horizon; budget = q.budget }) list rows) ≡ none
unfolding request_checks first_refusal
other_cap f q list rows cap lo hi e =
    let a = search_accepted f q list rows e in
    let rest : List Check = range 2 4096 q.horizon ∷ range 3 1000000 q.budget ∷ room_checks (loop_of f) list rows in
    let passes : first_refusal rest ≡ none = passes_tail (range 1 4096 q.cap) rest (sym (later_decide f q list rows a) ∙ e) in
    later_decide f (record { cap = cap; horizon = q.horizon; budget = q.budget }) list rows a ∙ rw (in_range 4096 cap lo hi) passes

-- ---- what `admitted` answers

-- the recurrence bound is at least 1
pub bound_positive : (l : Loop) (b : lower.Bounds) → LowerIs l (bounds_of (Ok b)) → 1 ≤ b.recurrence
bound_positive l b (cyclic s g) = let z : ◌≡◌ {A = ℕ} 0 1 = cc in absurd (omega arith)
bound_positive l b (beyond c r i g) = let z : ◌≡◌ {A = ℕ} 0 1 = cc in absurd (omega arith)
bound_positive l b (within c r i g) =
    let z : ◌≡◌ {A = Lower} (record { resource = b.resource; recurrence = b.recurrence }) (record { resource = resource_bound l; recurrence = c }) = cc in
    omega (arith, r.positive, ap (λ (b : Lower). b.recurrence) z)

module _ (f : List ℕ) (cap horizon budget list rows : ℕ) where
  abbrev q : Request
  q = record { cap = cap; horizon = horizon; budget = budget }

  -- a refusal that `?` passes on
  passes_on : (r : Result (ℕ × lower.Bounds) Refusal) (e : Refusal) → IsErrAnd r (λ y. y ≡ e) → Refuses f q list rows (told e) → Admitted f cap horizon budget list rows r
  passes_on (Ok a) e h g = absurd h
  passes_on (Err y) e h g = rw h g

  -- the reader's
  pub by_file : (r : Result (ℕ × lower.Bounds) Refusal) (e : Refusal) → reading_of (Err e) ≡ counted (read_file f) → IsErrAnd r (λ y. y ≡ e) → Admitted f cap horizon budget list rows r
  by_file r e g h = passes_on r e h (unchecked (file_first f q list rows (told e) (read_refused f e g)))

  module _ {n u k : ℕ} (known : IsAccepted f n u k) where
    -- the request's
    pub by_request : (r : Result (ℕ × lower.Bounds) Refusal) (e : Refusal) → AskedIs {A = Unit {0}} n cap horizon budget list rows (Err e) → IsErrAnd r (λ y. y ≡ e) → Admitted f cap horizon budget list rows r
    by_request r e g h = passes_on r e h (unchecked (later_decide f q list rows known.file ∙ sym (g (loop_of f) known.ops_are)))

    module _ (asked : AskedIs {A = Unit {0}} n cap horizon budget list rows (Ok tt)) where
      -- no check fails
      none_fails : first_refusal (search_checks f q list rows) ≡ none
      none_fails = later_decide f q list rows known.file ∙ sym (asked (loop_of f) known.ops_are)

      -- the bounds'
      pub by_lower : (r : Result (ℕ × lower.Bounds) Refusal) (e : Refusal) → LowerIs (loop_of f) (bounds_of (Err e)) → IsErrAnd r (λ y. y ≡ e) → Admitted f cap horizon budget list rows r
      by_lower r e g h = passes_on r e h (unbounded none_fails g)

      -- none
      pub all_pass : (b : lower.Bounds) → LowerIs (loop_of f) (bounds_of (Ok b)) → AllPassed f n b cap horizon budget list rows
      unfolding request_checks room_checks
      all_pass b is =
          let all : first_refusal (later_checks f q list rows) ≡ none = sym (asked (loop_of f) known.ops_are) in
          let rest = passes_tail _ _ all in
          let lent = passes_tail _ _ (passes_tail _ _ rest) in
          record {
            none_fails = none_fails;
            bounds_are = is;
            passed = record {
              accepted = known.file;
              is_size = known.ops_are;
              positive = bound_positive (loop_of f) b is;
              capped = at_most 4096 cap (passes_head _ _ all);
              near = at_most 4096 horizon (passes_head _ _ rest);
              room = omega (arith, known.ops_are, ltb-false list (size (loop_of f)) (passes_head _ _ lent));
              long = ltb-false rows 4096 (passes_head _ _ (passes_tail _ _ lent));
            };
          }

-- ---- what comes of it

-- the refusal e, told by r
pub record TurnedAway {A : Type 0} (f : List ℕ) (q : Request) (list rows : ℕ) (r : Result A Unsolved) : Type 0 where
  pub refusal : Refusal
  pub is : r ≡ Err (Refused refusal)
  pub why : Refuses f q list rows (told refusal)

-- a refusal that the function `passed_on` passes on, by a search or by a plan
pub turned_away : {A : Type 0} {f : List ℕ} {cap horizon budget list rows : ℕ} (a : Result (ℕ × lower.Bounds) Refusal) (r : Result A Unsolved) → IsErr a → IsErrAnd r (λ y. IfErr a (λ x. y ≡ Refused x))
    → Admitted f cap horizon budget list rows a → TurnedAway f (record { cap = cap; horizon = horizon; budget = budget }) list rows r
turned_away (Ok x) r e h g = absurd (true≢false (sym e))
turned_away (Err x) (Ok y) e h g = absurd h
turned_away (Err x) (Err y) e h g = record { refusal = x; is = ap Err h; why = g }

module _ {f : List ℕ} {cap horizon budget : ℕ} {list rows : List ℕ} where
  -- the search's answer
  pub searches_not : {r : Result Solution Unsolved} → TurnedAway f (record { cap = cap; horizon = horizon; budget = budget }) (length list) (length rows) r → Searches f cap horizon budget list rows r list rows
  searches_not t = rw t.is (record { says = pick t.why; list_is = refl; rows_are = refl })
    where
      pick : {x : model.Refusal} → Refuses f (record { cap = cap; horizon = horizon; budget = budget }) (length list) (length rows) x
          → SearchIs f (record { cap = cap; horizon = horizon; budget = budget }) (length list) (length rows) (refused x)
      pick (unchecked h) = by_check _ h refl
      pick (unbounded h g) = by_bound _ h g refl

  -- and where nothing is against it
  pub by_attempt : {n : ℕ} {b : lower.Bounds} {r : Result Solution Unsolved} {list' rows' : List ℕ} → AllPassed f n b cap horizon budget (length list) (length rows)
      → Attempted f b cap horizon budget list rows r list' rows' → Searches f cap horizon budget list rows r list' rows'
  by_attempt p t = record { says = by_sweep _ p.none_fails p.bounds_are t.says; list_is = t.list_is; rows_are = t.rows_are }
