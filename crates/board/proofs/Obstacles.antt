-- What is in the way of an operation that is forced, and the starts without it. Assumes nothing.
use mathlib.Core.Path.{◌≡◌, refl, sym, ap, ap₂, ◌∙◌, subst}
use mathlib.Core.Bool.{Bool, true, false, not, cond, ◌&&◌, ◌||◌, or-false, or-true}
use mathlib.Core.List.{List}
use mathlib.Core.Option.{Option, none, some}
use Prim.Native.Nat.{ℕ, zero, suc, ◌+◌, ◌*◌, ◌%◌, ◌^◌, ◌<◌}
use native.Mathlib.Nat.{div-eq_of_lt}
use native.Mathlib.Decide.{ℕ_discrete}
use native.Mathlib.Omega.{arith}
use borrow.Author.Tests.{eq-eqb, ne_eqb, lt-ltb, le-ltb}
use lib.Bits.{bit_or}
use lib.Dec.{eqb, ltb}
use lib.ListN.{length, get_or, set}
use lib.Pow.{pow_pos, pow-add}
use lib.Seq.{get_or-set_same, get_or-set_other, ext_get_or}
use Rattle.model.specs.Lists.{up_from, any_of, sum_of}
use Rattle.std.specs.Prelude.{Ok}
use Rattle.model.specs.Refusals.{first_refusal}
use Rattle.model.specs.Loop.{Loop, no_dep, size, op_at, LoopOk}
use Rattle.model.specs.File.{loop_of, Accepted}
use Rattle.model.specs.Legality.{Placing, self_conflict, conflict, conflict_at, touches, breaks, conflicts_with, fits_at}
use Rattle.model.specs.Table.{row_base}
use Rattle.model.specs.Session.{Starts, placed_in, force, displaced, is_placed, checks, in_the_way, without, mask_of}
use Rattle.model.proofs.Lists.{or_false_right, any_row, any_places}
use Rattle.model.proofs.File.{accepted_ok}
use Rattle.model.proofs.Firsts.{get_or_within}
use Rattle.model.proofs.Sums.{sum_next}
use Rattle.model.proofs.Good.{New, without_length, without_at, new_passed}
use Rattle.model.proofs.Good as good
use Rattle.reservation.specs.Place.{first_met, FreeIs}
use Rattle.reservation.specs.Seats.{seat_of, seats}
use Rattle.reservation.proofs.Bits.{or_shl}
use Rattle.reservation.proofs.Seats.{seat_none, seat_some}
use Rattle.reservation.proofs.Placings.{legal_digits, free_conflict}
use Rattle.board.specs.Board.{setup_as, starts_of, bare, Sane, Board, MayPut, IsPut}
use Rattle.board.specs.Moves.{hit_by, HitsAre, MarkKnown, way, Cleared, Did}
use Rattle.board.specs.declared.Reply.TheVariants as reply
use Rattle.board.proofs.Readings.{starts_at, starts_length, starts_set}
use Rattle.board.proofs.Boards.{few_operations, board_far, sane_near, same_seats, turn_next, lift_board}
use Rattle.board.proofs.Hits.{hit_same}
use Rattle.board.proofs.Effects.{blank_is, did_done}

-- ---- in the way

-- operation p, by a placing: it is placed, and conflicts with o at t or has a dependence with it that is broken
abbrev in_way : Loop → ℕ → Placing → (o t p : ℕ) → Bool
in_way l ii g o t p = is_placed (g p) && (conflicts_with l ii g o t p || hit_by l ii g o t (length l.deps) p)

module _ (f : List ℕ) {ii h : ℕ} {xs : List ℕ} (a : Accepted f) (s : Sane (loop_of f) ii h xs) (o t p : ℕ) where
  -- the model says the same off the starts, at any horizon
  way_is : (k : ℕ) → in_the_way (setup_as f ii k) (starts_of (size (loop_of f)) xs) o t p ≡ in_way (loop_of f) ii (seats xs) o t p
  unfolding in_the_way hit_by
  way_is k =
      ap (λ (g : Placing). is_placed (g p) && (conflicts_with (loop_of f) ii g o t p || any_of (λ d. touches p d && breaks ii g o t d) (loop_of f).deps))
      (same_seats f xs a s.whole s.blank)
      ∙ ap (λ (b : Bool). is_placed (seats xs p) && (conflicts_with (loop_of f) ii (seats xs) o t p || b))
      (any_places (λ d. touches p d && breaks ii (seats xs) o t d) (loop_of f).deps no_dep)

  -- it is not placed
  way_blank : get_or xs p 65535 ≡ 65535 → way f ii o t xs p ≡ false
  way_blank e = way_is 0 ∙ rw (eq-eqb (get_or xs p 65535) 65535 e)

  module _ (x : ℕ) (is : get_or xs p 65535 ≡ x) (there : x ≡ 65535 → ⊥) where
    -- it is placed, at x
    way_placed : way f ii o t xs p ≡ (conflicts_with (loop_of f) ii (seats xs) o t p || hit_by (loop_of f) ii (seats xs) o t (length (loop_of f).deps) p)
    way_placed =
        way_is 0
        ∙ ap (λ (z : Option ℕ). is_placed z && (conflicts_with (loop_of f) ii (seats xs) o t p || hit_by (loop_of f) ii (seats xs) o t (length (loop_of f).deps) p))
        (ap seat_of is ∙ seat_some x there)

    -- and marked
    way_hit : hit_by (loop_of f) ii (seats xs) o t (length (loop_of f).deps) p ≡ true → way f ii o t xs p ≡ true
    way_hit e = way_placed ∙ rw e (or-true (conflicts_with (loop_of f) ii (seats xs) o t p))

    -- and neither marked nor in conflict
    way_free : hit_by (loop_of f) ii (seats xs) o t (length (loop_of f).deps) p ≡ false → conflicts_with (loop_of f) ii (seats xs) o t p ≡ false → way f ii o t xs p ≡ false
    way_free e c = way_placed ∙ rw (e, c)

    -- and not marked: the cells decide
    way_clash : (p ≡ o → ⊥) → hit_by (loop_of f) ii (seats xs) o t (length (loop_of f).deps) p ≡ false
        → way f ii o t xs p ≡ conflict ii (op_at (loop_of f) o) t (op_at (loop_of f) p) x
    way_clash n e = way_placed ∙ rw (e, ne_eqb p o n, is, ne_eqb x 65535 there) (or-false (conflict ii (op_at (loop_of f) o) t (op_at (loop_of f) p) x))

-- only its own number counts
way_same : (f : List ℕ) {ii h k : ℕ} {xs ys : List ℕ} → Accepted f → Sane (loop_of f) ii h xs → Sane (loop_of f) ii k ys → (o t p : ℕ)
    → get_or xs p 65535 ≡ get_or ys p 65535 → (p ≡ o → ⊥) → way f ii o t xs p ≡ way f ii o t ys p
way_same f {ii} {h} {k} {xs} {ys} a s r o t p e n =
    way_is f a s o t p 0
    ∙ ap₂ (λ (x : Option ℕ) (b : Bool). is_placed x && ((not (eqb p o) && conflict_at ii (op_at (loop_of f) o) (some t) (op_at (loop_of f) p) x) || b)) (ap seat_of e)
    (hit_same ii (seats xs) (seats ys) o t p (ap seat_of e) n (loop_of f) (length (loop_of f).deps))
    ∙ sym (way_is f a r o t p 0)

-- ---- one operation, by its mark

module _ {f : List ℕ} {ii o t p : ℕ} {free : Bool} {xs : List ℕ} {hits : List Bool} (k : MarkKnown f ii o t p free xs hits) where
  -- what is read of it
  number_is : get_or xs p 65535 ≡ get_or xs p 0
  number_is = get_or_within xs p 65535 0 (omega (arith, few_operations f k.accepted, k.inside_p, k.sane.whole))

  -- it is not placed
  pub known_blank : get_or xs p 0 ≡ 65535 → way f ii o t xs p ≡ false
  known_blank e = way_blank f k.accepted k.sane o t p (number_is ∙ e)

  module _ (there : get_or xs p 0 ≡ 65535 → ⊥) where
    -- it is placed: its start is in range
    pub known_near : get_or xs p 0 < 4096
    known_near = omega (arith, number_is, sane_near k.sane p (λ e. there (sym number_is ∙ e)))

    -- and it is another one
    other : p ≡ o → ⊥
    other e = there (sym number_is ∙ ap (λ (q : ℕ). get_or xs q 65535) e ∙ k.blank)

    -- it is marked
    pub known_marked : get_or hits p false ≡ true → way f ii o t xs p ≡ true
    known_marked e = way_hit f k.accepted k.sane o t p (get_or xs p 0) number_is there (sym (k.hit.1 other) ∙ e)

    module _ (unmarked : get_or hits p false ≡ false) where
      -- it is not marked: the cells decide
      pub known_clash : way f ii o t xs p ≡ conflict ii (op_at (loop_of f) o) t (op_at (loop_of f) p) (get_or xs p 0)
      known_clash = way_clash f k.accepted k.sane o t p (get_or xs p 0) number_is there other (sym (k.hit.1 other) ∙ unmarked)

      -- and no placed operation conflicts with o
      pub known_free : free ≡ true → way f ii o t xs p ≡ false
      known_free e = way_free f k.accepted k.sane o t p (get_or xs p 0) number_is there (sym (k.hit.1 other) ∙ unmarked) (k.apart e)

-- ---- the mask

-- the bits of the first k numbers that pass
abbrev bits : (ℕ → Bool) → ℕ → ℕ
bits w k = sum_of (λ p. cond (w p) (2 ^ p) 0) (up_from 0 k)

-- of none
bits_none : (w : ℕ → Bool) → bits w 0 ≡ 0
unfolding sum_of up_from
bits_none w = refl

-- of one number more
bits_skip : (w : ℕ → Bool) (k : ℕ) → w k ≡ false → bits w (k + 1) ≡ bits w k
bits_skip w k e = sum_next (λ p. cond (w p) (2 ^ p) 0) k ∙ rw e (omega arith)

bits_with : (w : ℕ → Bool) (k : ℕ) → w k ≡ true → bits w (k + 1) ≡ bits w k + 2 ^ k
bits_with w k e = sum_next (λ p. cond (w p) (2 ^ p) 0) k ∙ rw e

-- they are below bit k
bits_below : (w : ℕ → Bool) (k : ℕ) → bits w k < 2 ^ k
bits_below w zero = rw (bits_none w) (pow_pos 0)
bits_below w (suc k) = let e : suc k ≡ k + 1 = omega arith in rw e (pick (w k) refl (bits_below w k))
  where
    pick : (b : Bool) → w k ≡ b → bits w k < 2 ^ k → bits w (k + 1) < 2 ^ (k + 1)
    pick true q ih = omega (arith, bits_with w k q, pow-add 2 k 1)
    pick false q ih = omega (arith, bits_skip w k q, pow-add 2 k 1)

-- so bit k can be set in them
bits_set : (w : ℕ → Bool) (k : ℕ) → k < 64 → w k ≡ true → bit_or (bits w k) (1 * 2 ^ k % 2 ^ 64) ≡ bits w (k + 1)
bits_set w k l e = or_shl (bits w k) k l (ap (λ (x : ℕ). x % 2) (div-eq_of_lt (bits_below w k))) ∙ sym (bits_with w k e)

-- ---- taking out what is in the way

-- at first nothing is taken out
pub clear_begin : {f : List ℕ} {ii : ℕ} {xs rows : List ℕ} (o t : ℕ) → Board f ii 4096 xs rows → Cleared f ii o t 0 xs rows xs rows 0
clear_begin {f} {ii} {xs} o t b = record {
  at = λ p. rw (le-ltb p 0 (omega arith));
  mask_is = sym (bits_none (way f ii o t xs));
  board = b;
  rest = refl;
}

module _ {f : List ℕ} {ii o t p : ℕ} {xs₀ rows₀ xs rows : List ℕ} {mask : ℕ} (b : Board f ii 4096 xs₀ rows₀) (free : get_or xs₀ o 65535 ≡ 65535) (c : Cleared f ii o t p xs₀ rows₀ xs rows mask) where
  -- what stands in place q, by whether it has had its turn
  abbrev cleared : Bool → ℕ → ℕ
  cleared b q = cond (b && way f ii o t xs₀ q) 65535 (get_or xs₀ q 65535)

  -- operation p is as it was
  clear_here : get_or xs p 65535 ≡ get_or xs₀ p 65535
  clear_here = c.at p ∙ ap (λ (b : Bool). cleared b p) (le-ltb p p (omega arith))

  -- so it is in the way exactly where it was
  clear_way : way f ii o t xs p ≡ way f ii o t xs₀ p
  clear_way = pick (ℕ_discrete p o)
    where
      pick : Dec (p ≡ o) → way f ii o t xs p ≡ way f ii o t xs₀ p
      pick (yes e) =
          let z : get_or xs₀ p 65535 ≡ 65535 = ap (λ (q : ℕ). get_or xs₀ q 65535) e ∙ free in
          way_blank f b.accepted c.board.sane o t p (clear_here ∙ z) ∙ sym (way_blank f b.accepted b.sane o t p z)
      pick (no n) = way_same f b.accepted c.board.sane b.sane o t p clear_here n

  -- where the rows were free for operation o, operation p does not conflict with it
  clear_free : o < size (loop_of f) → p < size (loop_of f) → first_met row_base ii rows₀ t (op_at (loop_of f) o).uses ≡ none → conflicts_with (loop_of f) ii (seats xs) o t p ≡ false
  clear_free inside_o inside e =
      let ok : LoopOk (loop_of f) = accepted_ok f b.accepted in
      let none_at = free_conflict (loop_of f) ii (seats xs₀) o t ok b.numbers.some inside_o (seat_none (get_or xs₀ o 65535) free) rows₀ b.held (legal_digits (loop_of f) ii (seats xs₀) ok b.sane.fine) e in
      ap (λ (x : Option ℕ). not (eqb p o) && conflict_at ii (op_at (loop_of f) o) (some t) (op_at (loop_of f) p) x) (ap seat_of clear_here)
      ∙ any_row (conflicts_with (loop_of f) ii (seats xs₀) o t) 0 (size (loop_of f)) p (or_false_right (self_conflict ii (op_at (loop_of f) o)) _ none_at) (omega arith) (omega arith)

  -- operation o is still not placed
  clear_open : get_or xs o 65535 ≡ 65535
  clear_open = c.at o ∙ pick (ltb o p && way f ii o t xs₀ o)
    where
      pick : (w : Bool) → cond w 65535 (get_or xs₀ o 65535) ≡ 65535
      pick true = refl
      pick false = free

  -- what is known of operation p: its mark says what it said
  pub clear_known : {hits : List Bool} {clear : Bool} → o < size (loop_of f) → p < size (loop_of f) → t < 4096 → HitsAre (loop_of f) ii o t (length (loop_of f).deps) xs₀ hits
      → FreeIs (op_at (loop_of f) o) ii t rows₀ clear → MarkKnown f ii o t p clear xs hits
  clear_known inside_o inside near h is = record {
    accepted = b.accepted;
    numbers = b.numbers;
    sane = c.board.sane;
    inside = inside_o;
    inside_p = inside;
    near = near;
    blank = clear_open;
    hit = (
      h.whole,
      λ n. h.at p inside n ∙ sym (hit_same ii (seats xs) (seats xs₀) o t p (ap seat_of clear_here) n (loop_of f) (length (loop_of f).deps)),
    );
    apart = λ e. clear_free inside_o inside (is.yes e);
  }

  -- an operation in the way is placed
  pub clear_placed : way f ii o t xs p ≡ true → get_or xs p 65535 < 65535
  clear_placed w = pick (ℕ_discrete (get_or xs p 65535) 65535)
    where
      pick : Dec (get_or xs p 65535 ≡ 65535) → get_or xs p 65535 < 65535
      pick (yes e) = let z : false ≡ true = sym (way_blank f b.accepted c.board.sane o t p e) ∙ w in let n : ⊥ = cc in absurd n
      pick (no n) = omega (arith, sane_near c.board.sane p n)

  -- a turn: operation p is not in the way, and is left
  pub clear_keep : way f ii o t xs p ≡ false → Cleared f ii o t (p + 1) xs₀ rows₀ xs rows mask
  clear_keep w = record {
    at = turn_next cleared p xs xs c.at (clear_here ∙ sym (ap (λ (v : Bool). cond v 65535 (get_or xs₀ p 65535)) (sym clear_way ∙ w))) (λ q n. refl);
    mask_is = c.mask_is ∙ sym (bits_skip (way f ii o t xs₀) p (sym clear_way ∙ w));
    board = c.board;
    rest = c.rest;
  }

  -- a turn: it is in the way, and is taken out; its bit is set
  pub clear_lift : {xs' rows' : List ℕ} → p < 64 → way f ii o t xs p ≡ true → IsPut f ii p 65535 xs rows xs' rows'
      → Cleared f ii o t (p + 1) xs₀ rows₀ xs' rows' (bit_or mask (1 * 2 ^ p % 2 ^ 64))
  clear_lift {xs'} l w i = record {
    at = λ q. rw i.starts_are (turn_next cleared p xs (set xs p 65535) c.at gone (λ q n. get_or-set_other xs p q 65535 65535 n) q);
    mask_is = ap (λ (m : ℕ). bit_or m (1 * 2 ^ p % 2 ^ 64)) c.mask_is ∙ bits_set (way f ii o t xs₀) p l (sym clear_way ∙ w);
    board = lift_board c.board i;
    rest = i.rest ∙ c.rest;
  }
    where
      gone : get_or (set xs p 65535) p 65535 ≡ cleared true p
      gone = get_or-set_same xs p 65535 65535 (omega (arith, c.board.sane.whole)) ∙ sym (ap (λ (v : Bool). cond v 65535 (get_or xs₀ p 65535)) (sym clear_way ∙ w))

-- ---- what is left

module _ {f : List ℕ} {ii h o t : ℕ} {xs rows xs' rows' : List ℕ} {mask : ℕ} (b : Board f ii h xs rows) (c : Cleared f ii o t (size (loop_of f)) xs rows xs' rows' mask) where
  -- all operations have a start in the model
  starts_all : length (starts_of (size (loop_of f)) xs) ≡ size (loop_of f)
  starts_all = starts_length (size (loop_of f)) xs (omega (arith, few_operations f b.accepted, b.sane.whole))

  -- the starts
  left_starts : starts_of (size (loop_of f)) xs' ≡ without (setup_as f ii h) (starts_of (size (loop_of f)) xs) o t
  unfolding in_the_way
  left_starts =
      ext_get_or none (starts_of (size (loop_of f)) xs') (without (setup_as f ii h) (starts_of (size (loop_of f)) xs) o t)
      (many ∙ sym (without_length (setup_as f ii h) (starts_of (size (loop_of f)) xs) o t ∙ starts_all)) (λ p l. go p (omega (arith, many)))
    where
      many : length (starts_of (size (loop_of f)) xs') ≡ size (loop_of f)
      many = starts_length (size (loop_of f)) xs' (omega (arith, few_operations f b.accepted, c.board.sane.whole))

      seat : (w : Bool) (x : ℕ) → seat_of (cond w 65535 x) ≡ cond w none (seat_of x)
      seat true x = seat_none 65535 refl
      seat false x = refl

      go : (p : ℕ) → p < size (loop_of f) → get_or (starts_of (size (loop_of f)) xs') p none ≡ get_or (without (setup_as f ii h) (starts_of (size (loop_of f)) xs) o t) p none
      go p l =
          starts_at (size (loop_of f)) xs' p l ∙ ap seat_of (c.at p ∙ ap (λ (v : Bool). cond (v && way f ii o t xs p) 65535 (get_or xs p 65535)) (lt-ltb p (size (loop_of f)) l)) ∙ seat (way f ii o t xs p) (get_or xs p 65535)
          ∙ ap (cond (way f ii o t xs p) none) (sym (starts_at (size (loop_of f)) xs p l)) ∙ sym (without_at (setup_as f ii h) (starts_of (size (loop_of f)) xs) o t p)

  -- the mask
  left_mask : mask ≡ mask_of (setup_as f ii h) (starts_of (size (loop_of f)) xs) o t
  unfolding mask_of in_the_way
  left_mask = c.mask_is ∙ ap (bits (way f ii o t xs)) (sym starts_all)

-- ---- forcing

module _ {f : List ℕ} {ii h : ℕ} {xs rows : List ℕ} (b : Board f ii h xs rows) (o t : ℕ) (fine : first_refusal (checks (setup_as f ii h) (force o t) (bare f xs)) ≡ none) where
  -- the operation is there, not placed, and its start below the horizon
  force_new : New (setup_as f ii h) (bare f xs) o t
  force_new = new_passed (setup_as f ii h) (bare f xs) o t _ fine

  force_open : get_or xs o 65535 ≡ 65535
  force_open = blank_is xs o (sym (starts_at (size (loop_of f)) xs o force_new.inside) ∙ force_new.free)

  -- so what is in its way can be taken out
  pub force_clear : Board f ii 4096 xs rows × (o < size (loop_of f)) × (get_or xs o 65535 ≡ 65535) × (t < 4096)
  force_clear = (board_far b, force_new.inside, force_open, omega (arith, force_new.soon, b.numbers.far))

  module _ {xs' rows' : List ℕ} {mask : ℕ} (c : Cleared f ii o t (size (loop_of f)) xs rows xs' rows' mask) where
    -- with what was in the way taken out it is still not placed, and fits
    pub force_put : MayPut f ii o t xs' rows'
    force_put = record {
      board = c.board;
      inside = force_new.inside;
      blank = clear_open (board_far b) force_open c;
      near = force_clear.3;
      fits =
          subst (λ (g : Placing). fits_at (loop_of f) ii g o t ≡ true) (ap placed_in (sym (left_starts b c)) ∙ same_seats f xs' b.accepted c.board.sane.whole c.board.sane.blank)
          (good.force_fits (setup_as f ii h) (accepted_ok f b.accepted) b.numbers.some (bare f xs) o t fine);
    }

    -- forced
    pub did_force : {xs'' rows'' : List ℕ} → IsPut f ii o t xs' rows' xs'' rows'' → Did (force o t) f ii h xs rows xs'' rows'' (Ok (reply.Displaced mask))
    did_force p =
        did_done b (force o t) (reply.Displaced mask) fine (ap displaced (left_mask b c))
        (ap (starts_of (size (loop_of f))) p.starts_are ∙ starts_set (size (loop_of f)) xs' o t
        ∙ ap₂ (λ (ys : Starts) (x : Option ℕ). set ys o x) (left_starts b c) (seat_some t (λ e. omega (arith, force_put.near))))
        force_new.inside c.board.sane p c.rest
