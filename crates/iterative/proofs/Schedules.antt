-- A board of which every operation is placed, as a schedule; and what an attempt at an interval leaves. Assumes nothing.
use mathlib.Core.Path.{◌≡◌, sym, ap, ◌∙◌}
use mathlib.Core.Bool.{Bool}
use mathlib.Core.List.{List, ◌++◌}
use mathlib.Core.Option.{none, some}
use Prim.Native.Nat.{ℕ, ◌+◌, ◌-◌, ◌≤◌, ◌<◌}
use native.Mathlib.Decide.{dec_lt}
use native.Mathlib.Omega.{arith}
use lib.ListN.{length, get_or, take, drop, replicate, length-replicate}
use lib.Seq.{drop-drop, drop_at, length-take-le}
use Rattle.model.specs.Loop.{size}
use Rattle.model.specs.File.{loop_of}
use Rattle.model.specs.Legality.{placed}
use Rattle.model.proofs.File.{accepted_ok}
use Rattle.model.proofs.Firsts.{get_or_within}
use Rattle.model.proofs.StartLists.{placed_take, placed_after}
use Rattle.model.proofs.Legality.{SubPlacing}
use Rattle.model.proofs.Counts.{legal_part}
use Rattle.reservation.specs.Seats.{seats}
use Rattle.reservation.proofs.Seats.{seat_some}
use Rattle.reservation.proofs.Stores.{cleared_length}
use Rattle.board.specs.Board.{Board}
use Rattle.board.proofs.Boards.{few_operations, sane_near, empty_board, rest_length}
use Rattle.iterative.specs.Priority.{AllPlaced}
use Rattle.iterative.specs.Placed.{PutAll, IntervalReady, LegalStarts, AttemptLeaves}

-- ---- every operation is placed

module _ {f xs rows : List ℕ} {n ii h : ℕ} (b : Board f ii h xs rows) (e : n ≡ size (loop_of f)) (all : AllPlaced n xs) where
  room : n ≤ length xs
  room = omega (arith, few_operations f b.accepted, b.sane.whole)

  -- the list of starts says no other starts than the board
  part : SubPlacing (placed (take n xs)) (seats xs)
  part = record { same = λ o t p. go o t p (dec_lt o n) }
    where
      go : (o t : ℕ) → placed (take n xs) o ≡ some t → Dec (o < n) → seats xs o ≡ some t
      go o t p (yes m) =
          seat_some (get_or xs o 65535) (all o m) ∙ ap some (get_or_within xs o 65535 0 (omega (arith, room))) ∙ sym (placed_take n xs o room m) ∙ p
      go o t p (no m) =
          let y : none ≡ some t = sym (placed_after (take n xs) o (omega (arith, length-take-le n xs room))) ∙ p in
          let z : ◌≡◌ {A = ℕ} 0 1 = cc in absurd (omega arith)

  -- so it is legal, and below the horizon
  pub schedule : LegalStarts (loop_of f) n ii h xs
  schedule = record {
    fine = legal_part (loop_of f) ii (accepted_ok f b.accepted) b.numbers.some (placed (take n xs)) (seats xs) part b.sane.fine;
    near = λ o m. rw (get_or_within xs o 0 65535 (omega (arith, room))) (sane_near b.sane o (all o m));
  }

-- ---- an attempt at an interval

-- where later rows than the interval's are as they were, so are those after 4,096
far_rest : (ii : ℕ) (xs ys : List ℕ) → ii ≤ 4096 → drop ii xs ≡ drop ii ys → drop 4096 xs ≡ drop 4096 ys
far_rest ii xs ys m e =
    let s : ii + (4096 - ii) ≡ 4096 = omega arith in
    ap (λ (k : ℕ). drop k xs) (sym s) ∙ sym (drop-drop (4096 - ii) ii xs) ∙ ap (drop (4096 - ii)) e ∙ drop-drop (4096 - ii) ii ys ∙ ap (λ (k : ℕ). drop k ys) s

module _ {f xs₀ rows₀ rows₁ : List ℕ} {n ii h : ℕ} (q : IntervalReady f n ii h xs₀ rows₀) (clear : rows₁ ≡ replicate ii 0 ++ drop ii rows₀) where
  room₁ : ii ≤ length rows₀
  room₁ = omega (arith, q.numbers.short, q.long)

  -- an attempt begins with an empty board
  pub begins : Board f ii h (replicate 64 65535) rows₁
  begins = empty_board rows₀ q.accepted q.numbers room₁ clear

  -- what its steps leave
  pub attempted : {xs rows : List ℕ} {r : Bool} → PutAll f n ii h rows₁ xs rows r → AttemptLeaves f n ii h xs₀ rows₀ xs rows r
  attempted {xs} {rows} s =
      let k = s.kept in
      record {
        found = λ e. schedule k.board q.is_size (s.all e);
        untouched = record {
          rest = far_rest ii rows rows₀ q.numbers.short (k.rest ∙ ap (drop ii) clear ∙ drop_at (replicate ii 0) (drop ii rows₀) ii (length-replicate ii 0));
          starts_length = k.board.sane.whole ∙ sym q.whole;
          rows_length = rest_length begins k.board k.rest ∙ ap length clear ∙ cleared_length ii rows₀ room₁;
        };
      }
