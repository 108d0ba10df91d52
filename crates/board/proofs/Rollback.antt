-- Going back to wanted starts: each operation that is elsewhere is taken out, then each that is missing is put in, in the order of their numbers. Assumes nothing.
use mathlib.Core.Path.{◌≡◌, refl, sym, ap, ◌∙◌}
use mathlib.Core.Bool.{Bool, true, false, cond}
use mathlib.Core.List.{List}
use mathlib.Core.Logic.{◌⊎◌, inl, inr}
use mathlib.Core.Option.{none}
use Prim.Native.Nat.{ℕ, ◌+◌, ◌<◌}
use native.Mathlib.Decide.{ℕ_discrete, dec_lt}
use native.Mathlib.Omega.{arith}
use borrow.Author.Tests.{eq-eqb, ne_eqb, le-ltb}
use lib.Dec.{eqb}
use lib.ListN.{get_or, set, drop}
use lib.Seq.{get_or-set_same, get_or-set_other, ext_get_or}
use Rattle.model.specs.Loop.{size}
use Rattle.model.specs.File.{loop_of}
use Rattle.model.specs.Legality.{legal_at, fits_at}
use Rattle.model.proofs.Lists.{and_right}
use Rattle.model.proofs.File.{accepted_ok}
use Rattle.model.proofs.Firsts.{get_or_within}
use Rattle.model.proofs.Counts.{legal_part, legal_place}
use Rattle.reservation.specs.Seats.{seats}
use Rattle.reservation.proofs.Seats.{seat_none}
use Rattle.board.specs.Board.{Sane, Board, MayPut, IsPut}
use Rattle.board.specs.Moves.{Thinned, Agrees, Restored}
use Rattle.board.proofs.Boards.{Fewer, few_operations, sane_near, put_seats, turn_next, part_seats, board_inside, number_there, part_board, lift_board}

-- what is read of the wanted starts
wanted_there : {f : List ℕ} {ii h k : ℕ} {wanted xs rows : List ℕ} (o : ℕ) → Board f ii h xs rows → Sane (loop_of f) ii k wanted → o < size (loop_of f) → get_or wanted o 65535 ≡ get_or wanted o 0
wanted_there {f} {wanted = wanted} o b s m = get_or_within wanted o 65535 0 (omega (arith, few_operations f b.accepted, s.whole))

-- ---- taking out

module _ {f : List ℕ} {ii p : ℕ} {wanted xs₀ rows₀ xs rows : List ℕ} (t : Thinned f ii p wanted xs₀ rows₀ xs rows) (inside : p < size (loop_of f)) where
  -- what stands in place q, by whether it has had its turn
  abbrev thinned : Bool → ℕ → ℕ
  thinned b q = cond b (cond (eqb (get_or xs₀ q 65535) (get_or wanted q 65535)) (get_or xs₀ q 65535) 65535) (get_or xs₀ q 65535)

  -- operation p is as it was
  thin_here : get_or xs p 65535 ≡ get_or xs₀ p 65535
  thin_here = t.at p ∙ ap (λ (b : Bool). thinned b p) (le-ltb p p (omega arith))

  -- a turn that leaves it
  thin_keep : cond (eqb (get_or xs₀ p 65535) (get_or wanted p 65535)) (get_or xs₀ p 65535) 65535 ≡ get_or xs₀ p 65535 → Thinned f ii (p + 1) wanted xs₀ rows₀ xs rows
  thin_keep h = record { at = turn_next thinned p xs xs t.at (thin_here ∙ sym h) (λ q n. refl); board = t.board; rest = t.rest }

  -- a turn: it is not placed
  pub thin_blank : get_or xs p 0 ≡ 65535 → Thinned f ii (p + 1) wanted xs₀ rows₀ xs rows
  thin_blank e = thin_keep (pick (eqb (get_or xs₀ p 65535) (get_or wanted p 65535)))
    where
      pick : (b : Bool) → cond b (get_or xs₀ p 65535) 65535 ≡ get_or xs₀ p 65535
      pick true = refl
      pick false = sym e ∙ sym (number_there p t.board inside) ∙ thin_here

  module _ (s : Sane (loop_of f) ii 4096 wanted) where
    -- a turn: it is where it is wanted
    pub thin_same : get_or xs p 0 ≡ get_or wanted p 0 → Thinned f ii (p + 1) wanted xs₀ rows₀ xs rows
    thin_same e = thin_keep (rw (eq-eqb (get_or xs₀ p 65535) (get_or wanted p 65535) (sym thin_here ∙ number_there p t.board inside ∙ e ∙ sym (wanted_there p t.board s inside))))

    -- a turn: it is elsewhere, and is taken out
    pub thin_lift : {xs' rows' : List ℕ} → (get_or xs p 0 ≡ get_or wanted p 0 → ⊥) → IsPut f ii p 65535 xs rows xs' rows' → Thinned f ii (p + 1) wanted xs₀ rows₀ xs' rows'
    thin_lift {xs'} n i = record {
      at = λ q. rw i.starts_are (turn_next thinned p xs (set xs p 65535) t.at gone (λ q d. get_or-set_other xs p q 65535 65535 d) q);
      board = lift_board t.board i;
      rest = i.rest ∙ t.rest;
    }
      where
        apart : get_or xs₀ p 65535 ≡ get_or wanted p 65535 → ⊥
        apart e = n (sym (number_there p t.board inside) ∙ thin_here ∙ e ∙ wanted_there p t.board s inside)

        gone : get_or (set xs p 65535) p 65535 ≡ thinned true p
        gone = get_or-set_same xs p 65535 65535 (board_inside p t.board inside) ∙ sym (rw (ne_eqb (get_or xs₀ p 65535) (get_or wanted p 65535) apart))

-- ---- putting in

-- each of the first k operations is where it is wanted, the rows are the table of the starts, and later rows as they were
pub record Filled (f : List ℕ) (ii k : ℕ) (wanted rows xs' rows' : List ℕ) : Type 0 where
  pub board : Board f ii 4096 xs' rows'
  pub agrees : Agrees k wanted xs'
  pub rest : drop ii rows' ≡ drop ii rows

module _ {f : List ℕ} {ii p : ℕ} {wanted rows₀ xs rows : List ℕ} (t : Filled f ii p wanted rows₀ xs rows) (s : Sane (loop_of f) ii 4096 wanted) (inside : p < size (loop_of f)) where
  -- a turn: operation p is where it is wanted
  fill_keep : get_or xs p 65535 ≡ get_or wanted p 65535 → Filled f ii (p + 1) wanted rows₀ xs rows
  fill_keep h = record { board = t.board; agrees = record { done = λ q l. go q l (ℕ_discrete q p); to_do = t.agrees.to_do }; rest = t.rest }
    where
      go : (q : ℕ) → q < p + 1 → Dec (q ≡ p) → get_or xs q 65535 ≡ get_or wanted q 65535
      go q l (yes e) = rw e h
      go q l (no n) = t.agrees.done q (omega arith)

  -- a turn: it is placed
  pub fill_placed : (get_or xs p 0 ≡ 65535 → ⊥) → Filled f ii (p + 1) wanted rows₀ xs rows
  fill_placed n = fill_keep (pick (t.agrees.to_do p))
    where
      pick : (get_or xs p 65535 ≡ 65535) ⊎ (get_or xs p 65535 ≡ get_or wanted p 65535) → get_or xs p 65535 ≡ get_or wanted p 65535
      pick (inl e) = absurd (n (sym (number_there p t.board inside) ∙ e))
      pick (inr e) = e

  module _ (free : get_or xs p 0 ≡ 65535) where
    -- it is not placed
    fill_free : get_or xs p 65535 ≡ 65535
    fill_free = number_there p t.board inside ∙ free

    -- a turn: it is not placed, and not wanted
    pub fill_blank : get_or wanted p 0 ≡ 65535 → Filled f ii (p + 1) wanted rows₀ xs rows
    fill_blank h = fill_keep (fill_free ∙ sym (wanted_there p t.board s inside ∙ h))

    module _ (some : get_or wanted p 0 ≡ 65535 → ⊥) where
      -- a turn: it is wanted and not placed. With it where it is wanted the starts are a part of those that are wanted
      fill_fewer : Fewer (set xs p (get_or wanted p 0)) wanted
      fill_fewer q = go (ℕ_discrete q p)
        where
          go : Dec (q ≡ p) → (get_or (set xs p (get_or wanted p 0)) q 65535 ≡ 65535) ⊎ (get_or (set xs p (get_or wanted p 0)) q 65535 ≡ get_or wanted q 65535)
          go (yes e) = inr (rw e (get_or-set_same xs p (get_or wanted p 0) 65535 (board_inside p t.board inside) ∙ sym (wanted_there p t.board s inside)))
          go (no n) = rw (get_or-set_other xs p q (get_or wanted p 0) 65535 n) (t.agrees.to_do q)

      -- so it can be put in: without it, it is open, and it fits
      pub fill_may : MayPut f ii p (get_or wanted p 0) xs rows
      fill_may =
          let ok = accepted_ok f t.board.accepted in
          let x = get_or wanted p 0 in
          let clear : seats xs p ≡ none = seat_none (get_or xs p 65535) fill_free in
          let is = wanted_there p t.board s inside in
          record {
            board = t.board;
            inside = inside;
            blank = fill_free;
            near = omega (arith, is, sane_near s p (λ e. some (sym is ∙ e)));
            fits =
                and_right (legal_at (loop_of f) ii (seats xs)) (fits_at (loop_of f) ii (seats xs) p x)
                (sym (legal_place (loop_of f) ii ok t.board.numbers.some (seats xs) p x inside clear)
                ∙ ap (legal_at (loop_of f) ii) (sym (put_seats xs p x (board_inside p t.board inside) some))
                ∙ legal_part (loop_of f) ii ok t.board.numbers.some (seats (set xs p x)) (seats wanted) (part_seats (set xs p x) wanted fill_fewer) s.fine);
          }

      -- and with it put in its turn is over
      pub fill_put : {xs' rows' : List ℕ} → IsPut f ii p (get_or wanted p 0) xs rows xs' rows' → Filled f ii (p + 1) wanted rows₀ xs' rows'
      fill_put {xs'} i = record {
        board = part_board t.board s fill_fewer i;
        agrees = rw i.starts_are (record { done = λ q l. go q l (ℕ_discrete q p); to_do = fill_fewer });
        rest = i.rest ∙ t.rest;
      }
        where
          go : (q : ℕ) → q < p + 1 → Dec (q ≡ p) → get_or (set xs p (get_or wanted p 0)) q 65535 ≡ get_or wanted q 65535
          go q l (yes e) = rw e (get_or-set_same xs p (get_or wanted p 0) 65535 (board_inside p t.board inside) ∙ sym (wanted_there p t.board s inside))
          go q l (no n) = get_or-set_other xs p q (get_or wanted p 0) 65535 n ∙ t.agrees.done q (omega arith)

-- at the end the starts are those that are wanted
pub fill_end : {f : List ℕ} {ii k : ℕ} {wanted rows xs' rows' : List ℕ} → Sane (loop_of f) ii 4096 wanted → k ≡ size (loop_of f) → Filled f ii k wanted rows xs' rows'
    → Restored f ii wanted rows xs' rows'
fill_end {f} {ii} {k} {wanted} {rows} {xs'} {rows'} s all t = record { starts_are = same; held = rw (← same) t.board.held; rest = t.rest }
  where
    go : (p : ℕ) → Dec (p < size (loop_of f)) → get_or xs' p 65535 ≡ get_or wanted p 65535
    go p (yes l) = t.agrees.done p (omega arith)
    go p (no m) = t.board.sane.blank p (omega arith) ∙ sym (s.blank p (omega arith))

    same : xs' ≡ wanted
    same = ext_get_or 65535 xs' wanted (t.board.sane.whole ∙ sym s.whole) (λ p l. go p (dec_lt p (size (loop_of f))))
