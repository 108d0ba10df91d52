-- Each relation of the model has one answer for each input, so a statement by it fixes the whole answer. Assumes nothing.
use mathlib.Core.Path.{◌≡◌, sym, ap, ◌∙◌}
use mathlib.Core.List.{List}
use mathlib.Core.Option.{Option, none, some}
use Prim.Native.Nat.{ℕ}
use native.Mathlib.Omega.{arith}
use Rattle.model.specs.Refusals.{Refusal, Answer, answered, refused, first_refusal}
use Rattle.model.specs.File.{loop_of, Accepted, file_checks}
use Rattle.model.specs.Bounds.{Lower, BoundsIs, by_file, by_loop}
use Rattle.model.specs.Search.{Request, Outcome, request_checks, room_checks, search_checks, sweep, intervals, SearchIs, by_check, by_bound, by_sweep}
use Rattle.model.proofs.Checks.{passes_left}
use Rattle.model.proofs.File.{accepted_ok}
use Rattle.model.proofs.Bounds.{lower_unique}

-- no table is both passed and refused by
both_ways : {X : Type 0} (o : Option Refusal) (r : Refusal) → o ≡ none → o ≡ some r → X
both_ways o r p q = let z : ◌≡◌ {A = ℕ} 0 1 = cc in absurd (omega arith)

-- the bounds of a file are determined
pub bounds_unique : (f : List ℕ) (a b : Answer Lower) → BoundsIs f a → BoundsIs f b → a ≡ b
bounds_unique f a b (by_file r p e) (by_file s q d) = cc
bounds_unique f a b (by_file r p e) (by_loop q d) = both_ways (first_refusal (file_checks f)) r q p
bounds_unique f a b (by_loop p e) (by_file s q d) = both_ways (first_refusal (file_checks f)) s p q
bounds_unique f a b (by_loop p e) (by_loop q d) = lower_unique (loop_of f) (accepted_ok f p).dep_ok a b e d

-- a request that passes its checks has an accepted file
pub search_accepted : (f : List ℕ) (q : Request) (list rows : ℕ) → first_refusal (search_checks f q list rows) ≡ none → Accepted f
unfolding search_checks
search_accepted f q list rows e = passes_left (file_checks f) (request_checks q) (passes_left _ (room_checks (loop_of f) list rows) e)

-- the answer of a search is determined
pub search_unique : (f : List ℕ) (q : Request) (list rows : ℕ) (a b : Answer Outcome) → SearchIs f q list rows a → SearchIs f q list rows b → a ≡ b
search_unique f q list rows a b (by_check r p e) (by_check s u d) = cc
search_unique f q list rows a b (by_check r p e) (by_bound s u k d) = both_ways (first_refusal (search_checks f q list rows)) r u p
search_unique f q list rows a b (by_check r p e) (by_sweep y u k d) = both_ways (first_refusal (search_checks f q list rows)) r u p
search_unique f q list rows a b (by_bound r p h e) (by_check s u d) = both_ways (first_refusal (search_checks f q list rows)) s p u
search_unique f q list rows a b (by_bound r p h e) (by_bound s u k d) =
    let z : refused r ≡ refused s = lower_unique (loop_of f) (accepted_ok f (search_accepted f q list rows p)).dep_ok (refused r) (refused s) h k in cc
search_unique f q list rows a b (by_bound r p h e) (by_sweep y u k d) =
    let z : refused r ≡ answered y = lower_unique (loop_of f) (accepted_ok f (search_accepted f q list rows p)).dep_ok (refused r) (answered y) h k in cc
search_unique f q list rows a b (by_sweep x p h e) (by_check s u d) = both_ways (first_refusal (search_checks f q list rows)) s p u
search_unique f q list rows a b (by_sweep x p h e) (by_bound s u k d) =
    let z : answered x ≡ refused s = lower_unique (loop_of f) (accepted_ok f (search_accepted f q list rows p)).dep_ok (answered x) (refused s) h k in cc
search_unique f q list rows a b (by_sweep x p h e) (by_sweep y u k d) =
    let z : answered x ≡ answered y = lower_unique (loop_of f) (accepted_ok f (search_accepted f q list rows p)).dep_ok (answered x) (answered y) h k in
    e ∙ ap (λ (w : Lower). answered (sweep (loop_of f) q w 0 (intervals w q.cap))) (cc) ∙ sym d
