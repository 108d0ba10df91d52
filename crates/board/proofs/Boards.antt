-- Laws of lists of starts and of the boards that they make with their rows: none placed, one operation put in, one taken out, and fewer operations. Assumes nothing.
use mathlib.Core.Path.{◌≡◌, refl, sym, ap, ◌∙◌}
use mathlib.Core.Bool.{Bool, true}
use mathlib.Core.List.{List, ◌++◌}
use mathlib.Core.Logic.{◌⊎◌, inl, inr}
use mathlib.Core.Option.{Option, none, some}
use Prim.Native.Nat.{ℕ, ◌+◌, ◌≤◌, ◌<◌}
use native.Mathlib.Decide.{ℕ_discrete, dec_lt}
use native.Mathlib.Omega.{arith}
use borrow.Author.Tests.{lt-ltb, le-ltb}
use lib.Dec.{ltb}
use lib.ListN.{length, get_or, set, drop, replicate, length-set, length-drop, length-replicate}
use lib.Seq.{get_or-set_same, get_or-set_other, set_out, set-set, set-get_or}
use Rattle.model.specs.Loop.{Loop, size, op_at, LoopOk}
use Rattle.model.specs.File.{loop_of, Accepted}
use Rattle.model.specs.Legality.{Placing, legal_at, place_at, fits_at}
use Rattle.model.specs.Table.{row_base, IsTable, cells_of}
use Rattle.model.specs.Session.{placed_in}
use Rattle.model.proofs.Lists.{get_or_filled}
use Rattle.model.proofs.File.{accepted_ok}
use Rattle.model.proofs.Firsts.{get_or_within}
use Rattle.model.proofs.StartLists.{set_places}
use Rattle.model.proofs.Legality.{fits_conflict, SubPlacing}
use Rattle.model.proofs.Counts.{legal_part, legal_nothing}
use Rattle.model.proofs.Table.{table_nil, cells_nothing}
use Rattle.model.proofs.Good.{Good}
use Rattle.reservation.specs.Rows.{over_uses, with_one, less_one, UsesIn}
use Rattle.reservation.specs.Seats.{seat_of, seats}
use Rattle.reservation.proofs.RowUpdates.{uses_rest}
use Rattle.reservation.proofs.Placings.{legal_digits, reserve_place, reserve_uses, release_place, release_uses}
use Rattle.reservation.proofs.Seats.{seat_some, seat_none}
use Rattle.reservation.proofs.Stores.{cleared, cleared_length}
use Rattle.board.specs.Board.{starts_of, setup_as, Numbers, Sane, Board, IsPut}
use Rattle.board.proofs.Readings.{starts_length, seats_are}

-- ---- ranges

-- an accepted file has at most 64 operations
pub few_operations : (f : List ℕ) → Accepted f → size (loop_of f) ≤ 64
few_operations f a = (accepted_ok f a).few

-- starts that are sane at a horizon are so at a farther one
pub sane_more : {l : Loop} {ii h k : ℕ} {xs : List ℕ} → h ≤ k → Sane l ii h xs → Sane l ii k xs
sane_more m s = record { whole = s.whole; blank = s.blank; near = λ o t e. omega (arith, s.near o t e); fine = s.fine }

-- a board is one at the farthest horizon too
pub board_far : {f : List ℕ} {ii h : ℕ} {xs rows : List ℕ} → Board f ii h xs rows → Board f ii 4096 xs rows
board_far b = record {
  accepted = b.accepted;
  numbers = record { some = b.numbers.some; short = b.numbers.short; far = omega arith };
  sane = sane_more b.numbers.far b.sane;
  held = b.held;
}

-- a number that is a start is below the horizon
pub sane_near : {l : Loop} {ii h : ℕ} {xs : List ℕ} → Sane l ii h xs → (o : ℕ) → (get_or xs o 65535 ≡ 65535 → ⊥) → get_or xs o 65535 < h
sane_near {xs} s o n = s.near o (get_or xs o 65535) (seat_some (get_or xs o 65535) n)

-- ---- as the model has it

-- the model's placing is the array's
pub same_seats : (f xs : List ℕ) → Accepted f → length xs ≡ 64 → ((o : ℕ) → size (loop_of f) ≤ o → get_or xs o 65535 ≡ 65535) → placed_in (starts_of (size (loop_of f)) xs) ≡ seats xs
same_seats f xs a whole = seats_are (size (loop_of f)) xs (omega (arith, few_operations f a))

-- sane starts are good
pub sane_good : (f : List ℕ) {ii h : ℕ} {xs : List ℕ} → Accepted f → Sane (loop_of f) ii h xs → Good (setup_as f ii h) (starts_of (size (loop_of f)) xs)
sane_good f {ii} {xs = xs} a s =
    let same = same_seats f xs a s.whole s.blank in
    record {
      whole = starts_length (size (loop_of f)) xs (omega (arith, few_operations f a, s.whole));
      near = λ o t e. s.near o t (sym (ap (λ (g : Placing). g o) same) ∙ e);
      fine = ap (legal_at (loop_of f) ii) same ∙ s.fine;
    }

-- and the other way round, where places that are no operation's are blank
pub good_sane : (f : List ℕ) {ii h : ℕ} {xs : List ℕ} → Accepted f → length xs ≡ 64 → ((o : ℕ) → size (loop_of f) ≤ o → get_or xs o 65535 ≡ 65535)
    → Good (setup_as f ii h) (starts_of (size (loop_of f)) xs) → Sane (loop_of f) ii h xs
good_sane f {ii} {xs = xs} a whole blank g =
    let same = same_seats f xs a whole blank in
    record {
      whole = whole;
      blank = blank;
      near = λ o t e. g.near o t (ap (λ (g : Placing). g o) same ∙ e);
      fine = ap (legal_at (loop_of f) ii) (sym same) ∙ g.fine;
    }

-- ---- one number changed

-- a list with the start x put in place o says its placing with o at x
pub put_seats : (xs : List ℕ) (o x : ℕ) → o < length xs → (x ≡ 65535 → ⊥) → seats (set xs o x) ≡ place_at (seats xs) o x
put_seats xs o x l n = set_places seat_of 65535 xs o x x l (seat_some x n)

-- and one that has the start t in place o says the placing, with o at t, of the list with that place blank
lift_seats : (xs : List ℕ) (o t : ℕ) → o < length xs → get_or xs o 65535 ≡ t → (t ≡ 65535 → ⊥) → seats xs ≡ place_at (seats (set xs o 65535)) o t
lift_seats xs o t l q n =
    ap seats (sym (set-set xs o 65535 t ∙ ap (set xs o) (sym q) ∙ set-get_or xs o 65535)) ∙ put_seats (set xs o 65535) o t (rw length-set l) n

-- in which o is not placed
lift_open : (xs : List ℕ) (o : ℕ) → o < length xs → seats (set xs o 65535) o ≡ none
lift_open xs o l = seat_none (get_or (set xs o 65535) o 65535) (get_or-set_same xs o 65535 65535 l)

-- of a list whose first k places have had their turn, with one turn more; g says what stands in a place after its turn and before
pub turn_next : (g : Bool → ℕ → ℕ) (k : ℕ) (xs ys : List ℕ) → ((p : ℕ) → get_or xs p 65535 ≡ g (ltb p k) p) → get_or ys k 65535 ≡ g true k
    → ((p : ℕ) → (p ≡ k → ⊥) → get_or ys p 65535 ≡ get_or xs p 65535) → (p : ℕ) → get_or ys p 65535 ≡ g (ltb p (k + 1)) p
turn_next g k xs ys at here rest p = go (ℕ_discrete p k) (dec_lt p k)
  where
    go : Dec (p ≡ k) → Dec (p < k) → get_or ys p 65535 ≡ g (ltb p (k + 1)) p
    go (yes e) d = rw (e, lt-ltb k (k + 1) (omega arith)) here
    go (no n) (yes l) = rest p n ∙ at p ∙ ap (λ (b : Bool). g b p) (lt-ltb p k l ∙ sym (lt-ltb p (k + 1) (omega arith)))
    go (no n) (no m) = rest p n ∙ at p ∙ ap (λ (b : Bool). g b p) (le-ltb p k (omega arith) ∙ sym (le-ltb p (k + 1) (omega arith)))

-- ---- sane starts

-- each number of ys is blank or that of xs
abbrev pub Fewer : (ys xs : List ℕ) → Type 0
Fewer ys xs = (o : ℕ) → (get_or ys o 65535 ≡ 65535) ⊎ (get_or ys o 65535 ≡ get_or xs o 65535)

-- the placing is then a part of the other
pub part_seats : (ys xs : List ℕ) → Fewer ys xs → SubPlacing (seats ys) (seats xs)
part_seats ys xs h = record { same = λ o t e. go o t e (h o) }
  where
    go : (o t : ℕ) → seats ys o ≡ some t → (get_or ys o 65535 ≡ 65535) ⊎ (get_or ys o 65535 ≡ get_or xs o 65535) → seats xs o ≡ some t
    go o t e (inl q) = cc (seat_none (get_or ys o 65535) q)
    go o t e (inr q) = ap seat_of (sym q) ∙ e

-- fewer operations are as sane
part_sane : {l : Loop} {ii h : ℕ} {xs : List ℕ} (ys : List ℕ) → LoopOk l → 1 ≤ ii → Sane l ii h xs → length ys ≡ 64 → Fewer ys xs → Sane l ii h ys
part_sane {l} {ii} {h} {xs} ys ok pos s whole fewer =
    let p : SubPlacing (seats ys) (seats xs) = part_seats ys xs fewer in
    record {
      whole = whole;
      blank = λ o m. pick o (s.blank o m) (fewer o);
      near = λ o t e. s.near o t (p.same o t e);
      fine = legal_part l ii ok pos (seats ys) (seats xs) p s.fine;
    }
  where
    pick : (o : ℕ) → get_or xs o 65535 ≡ 65535 → (get_or ys o 65535 ≡ 65535) ⊎ (get_or ys o 65535 ≡ get_or xs o 65535) → get_or ys o 65535 ≡ 65535
    pick o b (inl q) = q
    pick o b (inr q) = q ∙ b

-- a number made blank
lift_fewer : (xs : List ℕ) (o : ℕ) → Fewer (set xs o 65535) xs
lift_fewer xs o p = go (ℕ_discrete p o) (dec_lt o (length xs))
  where
    go : Dec (p ≡ o) → Dec (o < length xs) → (get_or (set xs o 65535) p 65535 ≡ 65535) ⊎ (get_or (set xs o 65535) p 65535 ≡ get_or xs p 65535)
    go (yes e) (yes l) = inl (ap (λ (k : ℕ). get_or (set xs o 65535) k 65535) e ∙ get_or-set_same xs o 65535 65535 l)
    go (yes e) (no m) = inr (ap (λ (ys : List ℕ). get_or ys p 65535) (set_out xs o 65535 (omega arith)))
    go (no d) l = inr (get_or-set_other xs o p 65535 65535 d)

-- ---- boards

-- starts of which none is placed, with rows that were cleared
pub empty_board : {f : List ℕ} {ii h : ℕ} {rows' : List ℕ} (rows : List ℕ) → Accepted f → Numbers ii h → ii ≤ length rows → rows' ≡ replicate ii 0 ++ drop ii rows
    → Board f ii h (replicate 64 65535) rows'
empty_board {f} {ii} {h} rows accepted numbers room clear = record {
  accepted = accepted;
  numbers = numbers;
  sane = record {
    whole = length-replicate {A = ℕ} 64 65535;
    blank = λ o l. get_or_filled 64 o 65535;
    near = λ o t p. never t (sym (nowhere o) ∙ p);
    fine = legal_nothing (loop_of f) ii (accepted_ok f accepted) numbers.some (seats (replicate 64 65535)) nowhere;
  };
  held = rw (cells_nothing (loop_of f) ii (seats (replicate 64 65535)) nowhere, clear)
      (table_nil row_base ii (replicate ii 0 ++ drop ii rows) (rw (cleared_length ii rows room) room) (λ r l. cleared ii rows r l));
}
  where
    nowhere : (o : ℕ) → seats (replicate 64 65535) o ≡ none
    nowhere o = ap seat_of (get_or_filled 64 o 65535)

    never : (t : ℕ) → ◌≡◌ {A = Option ℕ} none (some t) → t < h
    never t q = let n : ⊥ = cc in absurd n

-- there is a place for each operation
pub board_inside : {f : List ℕ} {ii h : ℕ} {xs rows : List ℕ} (o : ℕ) → Board f ii h xs rows → o < size (loop_of f) → o < length xs
board_inside {f} o b m = omega (arith, few_operations f b.accepted, b.sane.whole)

-- what is read there
pub number_there : {f : List ℕ} {ii h : ℕ} {xs rows : List ℕ} (o : ℕ) → Board f ii h xs rows → o < size (loop_of f) → get_or xs o 65535 ≡ get_or xs o 0
number_there {xs = xs} o b m = get_or_within xs o 65535 0 (board_inside o b m)

-- a number that is no blank is a start below the horizon
pub number_near : {f : List ℕ} {ii h : ℕ} {xs rows : List ℕ} (o : ℕ) → Board f ii h xs rows → get_or xs o 65535 < 65535 → get_or xs o 65535 < h
number_near o b l = sane_near b.sane o (λ e. omega arith)

-- two tables with the same later rows have as many rows
pub rest_length : {f : List ℕ} {ii h k : ℕ} {xs rows xs' rows' : List ℕ} → Board f ii h xs rows → Board f ii k xs' rows' → drop ii rows' ≡ drop ii rows → length rows' ≡ length rows
rest_length {ii} {rows} {rows'} b d e = omega (arith, length-drop ii rows, length-drop ii rows', ap length e, b.held.long, d.held.long)

-- one number changed, so that all are blank or those of sane starts
pub part_board : {f : List ℕ} {ii h o x : ℕ} {xs rows ws xs' rows' : List ℕ} → Board f ii h xs rows → Sane (loop_of f) ii h ws → Fewer (set xs o x) ws
    → IsPut f ii o x xs rows xs' rows' → Board f ii h xs' rows'
part_board {f} {o = o} {x} {xs} b s fewer p = record {
  accepted = b.accepted;
  numbers = b.numbers;
  sane = rw p.starts_are (part_sane (set xs o x) (accepted_ok f b.accepted) b.numbers.some s (length-set xs o x ∙ b.sane.whole) fewer);
  held = p.held;
}

-- an operation taken out
pub lift_board : {f : List ℕ} {ii h o : ℕ} {xs rows xs' rows' : List ℕ} → Board f ii h xs rows → IsPut f ii o 65535 xs rows xs' rows' → Board f ii h xs' rows'
lift_board {o = o} {xs} b p = part_board b b.sane (lift_fewer xs o) p

-- ---- their rows

-- the rows with all uses of operation o, started at t, put through g
abbrev over_op : (ℕ → ℕ → ℕ) → Loop → (ii o t : ℕ) → List ℕ → List ℕ
over_op g l ii o t rows = over_uses g ii t (op_at l o).uses (length (op_at l o).uses) rows

module _ {f : List ℕ} {ii h : ℕ} {xs rows : List ℕ} (o t : ℕ) (b : Board f ii h xs rows) (inside : o < size (loop_of f)) (near : t < h) where
  module _ (free : seats xs o ≡ none) (fits : fits_at (loop_of f) ii (seats xs) o t ≡ true) where
    -- an operation that fits can be reserved
    pub put_uses : UsesIn row_base 0 rows ii t (op_at (loop_of f) o).uses
    put_uses =
        let ok = accepted_ok f b.accepted in
        reserve_uses (loop_of f) ii (seats xs) o t ok b.numbers.some inside free rows b.held (legal_digits (loop_of f) ii (seats xs) ok b.sane.fine)
        (omega (arith, b.numbers.far)) (fits_conflict (loop_of f) ii (seats xs) o t fits)

    -- and is put in then
    pub put_is : IsPut f ii o t xs rows (set xs o t) (over_op (with_one row_base) (loop_of f) ii o t rows)
    put_is = record {
      starts_are = refl;
      held = rw (put_seats xs o t (board_inside o b inside) (λ e. omega (arith, b.numbers.far)))
          (reserve_place (loop_of f) ii (seats xs) o t (accepted_ok f b.accepted) b.numbers.some inside free rows b.held);
      rest = uses_rest (with_one row_base) ii t (op_at (loop_of f) o).uses (length (op_at (loop_of f) o).uses) rows b.numbers.some;
    }

  module _ (there : get_or xs o 65535 ≡ t) where
    -- the table with the operation, by the starts without it
    lift_held : IsTable row_base ii (cells_of (loop_of f) ii (place_at (seats (set xs o 65535)) o t)) rows
    lift_held = rw (← lift_seats xs o t (board_inside o b inside) there (λ e. omega (arith, b.numbers.far))) b.held

    -- an operation that is placed can be released
    pub lift_uses : UsesIn row_base 1 rows ii t (op_at (loop_of f) o).uses
    lift_uses =
        let ok = accepted_ok f b.accepted in
        release_uses (loop_of f) ii (seats (set xs o 65535)) o t ok b.numbers.some inside (lift_open xs o (board_inside o b inside)) (omega (arith, b.numbers.far)) rows lift_held
        (rw (← lift_seats xs o t (board_inside o b inside) there (λ e. omega (arith, b.numbers.far))) (legal_digits (loop_of f) ii (seats xs) ok b.sane.fine))

    -- and is taken out then
    pub lift_is : IsPut f ii o 65535 xs rows (set xs o 65535) (over_op (less_one row_base) (loop_of f) ii o t rows)
    lift_is = record {
      starts_are = refl;
      held = release_place (loop_of f) ii (seats (set xs o 65535)) o t (accepted_ok f b.accepted) b.numbers.some inside (lift_open xs o (board_inside o b inside)) rows lift_held;
      rest = uses_rest (less_one row_base) ii t (op_at (loop_of f) o).uses (length (op_at (loop_of f) o).uses) rows b.numbers.some;
    }
