-- The first late start and the first broken dependence, as the walks over starts and dependences find them. Assumes nothing.
use mathlib.Core.Path.{◌≡◌, sym, ap, ap₂, ◌∙◌}
use mathlib.Core.Bool.{Bool, true, false, not}
use mathlib.Core.List.{List, [], ◌∷◌}
use mathlib.Core.Option.{none, some}
use Prim.Native.Nat.{ℕ, ◌≤◌, ◌<◌}
use native.Mathlib.Omega.{arith}
use lib.Dec.{leb}
use lib.ListN.{length, get_or, take}
use lib.Seq.{get_or-take, length-take-le}
use Rattle.std.specs.Prelude as code
use Rattle.std.specs.Prelude.{nat_lt}
use Rattle.std.specs.List.{position, position_or_len}
use Rattle.std.proofs.lemmas.Bool.Decides.{nat_tests}
use Rattle.std.proofs.lemmas.List.Quantifiers.{position-Some}
use Rattle.std.proofs.lemmas.List.Sums.{fails_before_first}
use Rattle.model.specs.Lists.{up_from, first}
use Rattle.model.specs.Refusals.{first_refusal}
use Rattle.model.specs.Loop.{Loop, size, dep_at}
use Rattle.model.specs.File.{loop_of, Accepted}
use Rattle.model.specs.Legality.{holds, broken_at, broken, placed}
use Rattle.model.specs.Verifier.{late_start, first_broken}
use Rattle.model.proofs.Checks.{found_refused, found_passed}
use Rattle.model.proofs.File.{accepted_ok}
use Rattle.model.proofs.Firsts.{row_not}
use Rattle.model.proofs.Lists.{row_first}
use Rattle.model.proofs.StartLists.{placed_take}
use Rattle.refusals.specs.Told.{refusal}
use Rattle.verifier.specs.Walk.{one_each, Proposal}

-- ---- starts

-- start number o of a list is late
abbrev pub late : List ℕ → ℕ → Bool
late xs o = leb 4096 (get_or xs o 0)

module _ (xs : List ℕ) (n : ℕ) (long : n ≤ length xs) where
  -- a late one is found among the first n
  pub late_at : (o : ℕ) → position (λ s. leb 4096 s) (take n xs) ≡ code.Some o → some (refusal 15 o) ≡ first_refusal (late_start xs n ∷ [])
  late_at o e =
      let at = position-Some (λ s. leb 4096 s) (take n xs) o 0 e in
      let l : o < n = omega (arith, at.0, length-take-le n xs long) in
      sym (found_refused 15 (first (late xs) (up_from 0 n)) o []
      (row_first (late xs) n o l (λ k m. ap (leb 4096) (sym (get_or-take n xs k 0 (omega arith))) ∙ at.2 k m) (ap (leb 4096) (sym (get_or-take n xs o 0 l)) ∙ at.1)))

  -- none is
  pub late_none : position (λ s. leb 4096 s) (take n xs) ≡ code.None → none ≡ first_refusal (late_start xs n ∷ [])
  unfolding first_refusal
  late_none e =
      let past : length (take n xs) ≤ position_or_len (λ s. leb 4096 s) (take n xs) = grind (arith, nat_tests) in
      sym (found_passed 15 (first (late xs) (up_from 0 n)) []
      (row_not (late xs) n (λ k m. ap (leb 4096) (sym (get_or-take n xs k 0 m)) ∙ fails_before_first (λ s. leb 4096 s) (take n xs) k 0 (omega (arith, past, m, length-take-le n xs long)))))

-- ---- dependences

-- dependence e holds with the starts
abbrev pub dep_kept : Loop → ℕ → List ℕ → ℕ → Bool
dep_kept l ii xs e = holds ii (dep_at l e) (get_or xs (dep_at l e).src 0) (get_or xs (dep_at l e).dst 0)

-- the first n do
pub record Kept (l : Loop) (ii : ℕ) (xs : List ℕ) (n : ℕ) : Type 0 where
  pub each : (e : ℕ) → e < n → dep_kept l ii xs e ≡ true

module _ (f : List ℕ) {ii : ℕ} {xs : List ℕ} {n : ℕ} (h : Kept (loop_of f) ii xs n) (file : Accepted f) (asked : Proposal (loop_of f) ii xs) where
  -- whether the starts break a dependence
  abbrev breaks : ℕ → Bool
  breaks e = broken ii (placed (one_each (loop_of f) xs)) (dep_at (loop_of f) e)

  -- they do exactly where it does not hold
  breaks_is : (e : ℕ) → e < length (loop_of f).deps → breaks e ≡ not (dep_kept (loop_of f) ii xs e)
  breaks_is e m =
      let ok = (accepted_ok f file).dep_ok e m in
      ap₂ (broken_at ii (dep_at (loop_of f) e)) (placed_take (size (loop_of f)) xs _ asked.all ok.source) (placed_take (size (loop_of f)) xs _ asked.all ok.target)

  -- dependence n does not, and is the first
  pub kept_until : n < length (loop_of f).deps → false ≡ dep_kept (loop_of f) ii xs n → some n ≡ first_broken (loop_of f) ii (one_each (loop_of f) xs)
  unfolding first_broken
  kept_until l e = sym (row_first breaks _ n l (λ k m. breaks_is k (omega arith) ∙ ap not (h.each k m)) (breaks_is n l ∙ ap not (sym e)))

  -- there is none more
  pub kept_all : length (loop_of f).deps ≤ n → none ≡ first_broken (loop_of f) ii (one_each (loop_of f) xs)
  unfolding first_broken
  kept_all l = sym (row_not breaks _ (λ k m. breaks_is k m ∙ ap not (h.each k (omega arith))))
