-- What a call comes to for the numbers: what it did to the starts is what it did to what is held, and so to what is free. Assumes nothing.
use mathlib.Core.Path.{◌≡◌, refl, sym, ap, ◌∙◌}
use mathlib.Core.Bool.{Bool, true, false, cond}
use mathlib.Core.List.{List}
use mathlib.Core.Option.{none}
use Prim.Native.Nat.{ℕ, zero, suc, ◌+◌, ◌*◌, ◌/◌, ◌%◌, ◌^◌, ◌≤◌, ◌<◌}
use native.Mathlib.Numerals.{add-one}
use native.Mathlib.Omega.{arith}
use lib.Dec.{eqb}
use lib.ListN.{length, get_or}
use Rattle.model.specs.Lists.{up_from, sum_of}
use Rattle.model.specs.Refusals.{first_refusal, Answer, answered}
use Rattle.model.specs.Loop.{size, op_at, op_on}
use Rattle.model.specs.File.{loop_of, Accepted}
use Rattle.model.specs.Table.{number, free_of, free_rows}
use Rattle.model.specs.Counts.{held_on}
use Rattle.model.specs.Session.{Starts, State, Call, place, force, remove, Reply, displaced, placed_in, checks, effect, in_the_way, mask_of}
use Rattle.model.proofs.Lists.{sum_same}
use Rattle.model.proofs.Sums.{sum_next}
use Rattle.model.proofs.File.{accepted_ok}
use Rattle.model.proofs.Table.{number_digit, number_lt}
use Rattle.model.proofs.Session.{step_done, answered_passes}
use Rattle.model.proofs.Good.{new_passed}
use Rattle.model.proofs.Free.{free_length, free_at, free_same, is_free, held_placed, held_removed, held_without, held_forced}
use Rattle.reservation.specs.Seats.{seats}
use Rattle.board.specs.Board.{starts_of, setup_as, bare, Board}
use Rattle.std.specs.Prelude.{Result, Ok, Err}
use Rattle.refusals.specs.Told.{told}
use Rattle.refusals.specs.declared.Refusal as code
use Rattle.board.specs.Moves.{said, reply_of, Did}
use Rattle.board.specs.declared.Reply as declared
use Rattle.board.specs.declared.Reply.TheVariants as reply
use Rattle.board.proofs.Boards.{same_seats, sane_good}
use Rattle.board.proofs.Effects.{remove_inside}
use Rattle.free_rows.specs.Numbers.{Room, Moved, named_on}

-- ---- the mask of the displaced

-- a mask that is made bit by bit is the number of its bits
mask_number : (w : ℕ → Bool) (n : ℕ) → sum_of (λ p. cond (w p) (2 ^ p) 0) (up_from 0 n) ≡ number 2 (λ p. cond (w p) 1 0) n
unfolding sum_of up_from number
mask_number w zero = refl
mask_number w (suc n) = rw (add-one n) at (sum_next (λ p. cond (w p) (2 ^ p) 0) n) ∙ omega (arith, mask_number w n, bit (w n))
  where
    bit : (b : Bool) → cond b (2 ^ n) 0 ≡ cond b 1 0 * 2 ^ n
    bit true = omega arith
    bit false = omega arith

-- a bit is 0 or 1
bit_small : (b : Bool) → cond b 1 0 < 2
bit_small true = omega arith
bit_small false = omega arith

-- so it names no operation past the last
mask_inside : (w : ℕ → Bool) (n : ℕ) → sum_of (λ p. cond (w p) (2 ^ p) 0) (up_from 0 n) < 2 ^ n
mask_inside w n = rw (mask_number w n) (number_lt 2 (λ p. cond (w p) 1 0) n (λ p l. bit_small (w p)))

-- and those of which it was made
mask_named : (w : ℕ → Bool) (n p : ℕ) → p < n → eqb (sum_of (λ p. cond (w p) (2 ^ p) 0) (up_from 0 n) / 2 ^ p % 2) 1 ≡ w p
mask_named w n p l = rw (mask_number w n, number_digit 2 (λ p. cond (w p) 1 0) p n l (λ j m. bit_small (w j))) (same (w p))
  where
    same : (b : Bool) → eqb (cond b 1 0) 1 ≡ b
    same true = refl
    same false = refl

-- ---- a call that was answered

-- what is held of slot s by an array of starts
abbrev held_by : List ℕ → List ℕ → ℕ → ℕ
held_by f xs s = held_on (loop_of f) (placed_in (starts_of (size (loop_of f)) xs)) s

module _ {c : Call} {f : List ℕ} {ii h : ℕ} {xs rows xs' rows' : List ℕ} {r : Result declared.Reply code.Refusal} (d : Did c f ii h xs rows xs' rows' r) where
  -- one that was refused left the rows, and the numbers stay as they are
  pub refused_free : {e : code.Refusal} {free : List ℕ} → r ≡ Err e → free ≡ free_rows ii rows → free ≡ free_rows ii rows'
  refused_free {e} q is = is ∙ ap (free_rows ii) (sym (d.kept (told e) (ap reply_of q)).1)

  module _ {x : declared.Reply} (q : r ≡ Ok x) where
    -- one that was not passed its checks
    passed : first_refusal (checks (setup_as f ii h) c (bare f xs)) ≡ none
    passed = answered_passes (setup_as f ii h) c (bare f xs) (said x) (sym d.reply ∙ ap reply_of q)

    -- and its answer and the starts are those of its effect
    replied : said x ≡ (effect (setup_as f ii h) c (bare f xs)).1
    replied = same _ _ (sym (ap reply_of q) ∙ d.reply ∙ ap (λ (p : State × Answer Reply). p.1) (step_done (setup_as f ii h) c (bare f xs) passed))
      where
        same : (a b : Reply) → answered a ≡ answered b → a ≡ b
        same a b e = cc

    effected : starts_of (size (loop_of f)) xs' ≡ (effect (setup_as f ii h) c (bare f xs)).0.starts
    effected = d.starts_are ∙ ap (λ (p : State × Answer Reply). p.0.starts) (step_done (setup_as f ii h) c (bare f xs) passed)

-- ---- the balance of a call

module _ {f : List ℕ} {ii h : ℕ} {xs rows : List ℕ} (b : Board f ii h xs rows) (free : List ℕ) (e : free ≡ free_rows ii rows) where
  -- there are 24 numbers
  all_there : length free ≡ 24
  all_there = ap length e ∙ free_length ii rows

  -- each makes up the interval with what is held of its slot
  with_held : (i : ℕ) → i < 24 → get_or free i 0 + held_by f xs (suc i) ≡ ii
  with_held i l = rw (same_seats f xs b.accepted b.sane.whole b.sane.blank)
      (is_free (loop_of f) ii (seats xs) rows (accepted_ok f b.accepted) b.numbers.some b.sane.fine b.held free e i l)

-- where what is held loses `gone` and gains `came`, what is free gains and loses them
balance : {f : List ℕ} {ii h k : ℕ} {xs rows xs' rows' : List ℕ} (b : Board f ii h xs rows) (b' : Board f ii k xs' rows') (free : List ℕ) → free ≡ free_rows ii rows
    → (i gone came : ℕ) → i < 24 → held_by f xs' (suc i) + gone ≡ came + held_by f xs (suc i) → get_or free i 0 + gone ≡ came + free_of ii rows' (suc i)
balance {ii = ii} {rows' = rows'} b b' free e i gone came l q = omega (arith, with_held b free e i l, with_held b' (free_rows ii rows') refl i l, free_at ii rows' i l)

-- ---- placing

module _ {f : List ℕ} {ii h o t : ℕ} {xs rows xs' rows' : List ℕ} {r : Result declared.Reply code.Refusal} {x : declared.Reply} (b : Board f ii h xs rows) (d : Did (place o t) f ii h xs rows xs' rows' r)
    (q : r ≡ Ok x) (free : List ℕ) (e : free ≡ free_rows ii rows) where
  placed_balance : (i : ℕ) → i < 24 → get_or free i 0 ≡ op_on (suc i) (op_at (loop_of f) o) + free_of ii rows' (suc i)
  placed_balance i l =
      omega (
        arith,
        balance b d.board free e i 0 (op_on (suc i) (op_at (loop_of f) o)) l
            (omega (
              arith,
              ap (λ (ys : Starts). held_on (loop_of f) (placed_in ys) (suc i)) (effected d q)
                  ∙ held_placed (setup_as f ii h) (bare f xs) (sane_good f b.accepted b.sane).whole (suc i) o t (passed d q),
            )),
      )

  -- what counting it asks: each number can do without what it holds
  pub placed_room : Accepted f × (o < size (loop_of f)) × Room true (λ s. op_on s (op_at (loop_of f) o)) free
  placed_room = (
    b.accepted,
    (new_passed (setup_as f ii h) (bare f xs) o t _ (passed d q)).inside,
    record {
      whole = all_there b free e;
      enough = λ i l. omega (arith, placed_balance i l);
      small = λ i l. omega (arith, placed_balance i l, with_held b free e i l, b.numbers.short);
    },
  )

  pub placed_free : (free' : List ℕ) → Moved true (λ s. op_on s (op_at (loop_of f) o)) free free' → free' ≡ free_rows ii rows'
  placed_free free' c = free_same ii rows' free' c.whole (λ i l. omega (arith, c.at i l, placed_balance i l))

-- ---- removing

module _ {f : List ℕ} {ii h o : ℕ} {xs rows xs' rows' : List ℕ} {r : Result declared.Reply code.Refusal} {x : declared.Reply} (b : Board f ii h xs rows) (d : Did (remove o) f ii h xs rows xs' rows' r)
    (q : r ≡ Ok x) (free : List ℕ) (e : free ≡ free_rows ii rows) where
  removed_held : (i : ℕ) → held_by f xs (suc i) ≡ op_on (suc i) (op_at (loop_of f) o) + held_by f xs' (suc i)
  removed_held i =
      held_removed (setup_as f ii h) (bare f xs) (sane_good f b.accepted b.sane).whole (suc i) o (passed d q)
      ∙ ap (λ (ys : Starts). op_on (suc i) (op_at (loop_of f) o) + held_on (loop_of f) (placed_in ys) (suc i)) (sym (effected d q))

  -- what counting it asks: each number has room for what it held
  pub removed_room : Accepted f × (o < size (loop_of f)) × Room false (λ s. op_on s (op_at (loop_of f) o)) free
  removed_room = (
    b.accepted,
    remove_inside b o (passed d q),
    record {
      whole = all_there b free e;
      enough = λ i l. omega arith;
      small = λ i l. omega (arith, removed_held i, with_held b free e i l, b.numbers.short);
    },
  )

  pub removed_free : (free' : List ℕ) → Moved false (λ s. op_on s (op_at (loop_of f) o)) free free' → free' ≡ free_rows ii rows'
  removed_free free' c =
      free_same ii rows' free' c.whole (λ i l.
      omega (arith, c.at i l, balance b d.board free e i (op_on (suc i) (op_at (loop_of f) o)) 0 l (omega (arith, removed_held i))))

-- ---- forcing

-- one that was done answers the displaced
pub forced_displaces : {f : List ℕ} {ii h o t : ℕ} {xs rows xs' rows' : List ℕ} {r : Result declared.Reply code.Refusal} {x : declared.Reply} → Did (force o t) f ii h xs rows xs' rows' r → r ≡ Ok x
    → ((m : ℕ) → x ≡ reply.Displaced m → ⊥) → ⊥
forced_displaces {x = x} d q n = go x (replied d q) n
  where
    go : (x : declared.Reply) {m : ℕ} → said x ≡ displaced m → ((m : ℕ) → x ≡ reply.Displaced m → ⊥) → ⊥
    go reply.Done e n = cc
    go (reply.Displaced m) e n = n m refl
    go (reply.Numbered k) e n = cc

module _ {f : List ℕ} {ii h o t m : ℕ} {xs rows xs' rows' : List ℕ} {r : Result declared.Reply code.Refusal} (b : Board f ii h xs rows) (d : Did (force o t) f ii h xs rows xs' rows' r)
    (q : r ≡ Ok (reply.Displaced m)) (free : List ℕ) (e : free ≡ free_rows ii rows) where
  -- which operations were displaced
  abbrev goes : ℕ → Bool
  goes p = in_the_way (setup_as f ii h) (bare f xs).starts o t p

  -- the mask is the model's
  mask_is : m ≡ sum_of (λ p. cond (goes p) (2 ^ p) 0) (up_from 0 (size (loop_of f)))
  unfolding mask_of
  mask_is =
      same m _ (replied d q)
      ∙ ap (λ (n : ℕ). sum_of (λ p. cond (goes p) (2 ^ p) 0) (up_from 0 n)) (sane_good f b.accepted b.sane).whole
    where
      same : (x y : ℕ) → displaced x ≡ displaced y → x ≡ y
      same x y e = cc

  -- what it names is what goes
  named_is : (s : ℕ) → named_on (loop_of f) m s (size (loop_of f)) ≡ sum_of (λ p. cond (goes p) (op_on s (op_at (loop_of f) p)) 0) (up_from 0 (size (loop_of f)))
  unfolding named_on
  named_is s =
      ap (λ (x : ℕ). sum_of (λ p. cond (eqb (x / 2 ^ p % 2) 1) (op_on s (op_at (loop_of f) p)) 0) (up_from 0 (size (loop_of f)))) mask_is
      ∙ sum_same _ (λ p. cond (goes p) (op_on s (op_at (loop_of f) p)) 0) 0 (size (loop_of f))
      (λ p a l. ap (λ (w : Bool). cond w (op_on s (op_at (loop_of f) p)) 0) (mask_named goes (size (loop_of f)) p (omega arith)))

  -- and was held
  named_most : (i : ℕ) → named_on (loop_of f) m (suc i) (size (loop_of f)) ≤ held_by f xs (suc i)
  named_most i = omega (arith, named_is (suc i), held_without (setup_as f ii h) (bare f xs) (sane_good f b.accepted b.sane).whole (suc i) o t)

  forced_balance : (i : ℕ) → i < 24 → get_or free i 0 + named_on (loop_of f) m (suc i) (size (loop_of f)) ≡ op_on (suc i) (op_at (loop_of f) o) + free_of ii rows' (suc i)
  forced_balance i l =
      balance b d.board free e i (named_on (loop_of f) m (suc i) (size (loop_of f))) (op_on (suc i) (op_at (loop_of f) o)) l
      (rw (named_is (suc i), effected d q) (held_forced (setup_as f ii h) (bare f xs) (sane_good f b.accepted b.sane).whole (suc i) o t (passed d q)))

  -- what counting them asks: the mask names no operation past the last, and each number has room for what they held
  pub gone_room : Accepted f × (m < 2 ^ size (loop_of f)) × Room false (λ s. named_on (loop_of f) m s (size (loop_of f))) free
  gone_room = (
    b.accepted,
    rw mask_is (mask_inside goes (size (loop_of f))),
    record {
      whole = all_there b free e;
      enough = λ i l. omega arith;
      small = λ i l. omega (arith, named_most i, with_held b free e i l, b.numbers.short);
    },
  )

  module _ (free₁ : List ℕ) (g : Moved false (λ s. named_on (loop_of f) m s (size (loop_of f))) free free₁) where
    -- and then the operation: each number can do without what it holds
    pub forced_room : Accepted f × (o < size (loop_of f)) × Room true (λ s. op_on s (op_at (loop_of f) o)) free₁
    forced_room = (
      b.accepted,
      (new_passed (setup_as f ii h) (bare f xs) o t _ (passed d q)).inside,
      record {
        whole = g.whole;
        enough = λ i l. omega (arith, g.at i l, forced_balance i l);
        small = λ i l. omega (arith, g.at i l, forced_balance i l, named_most i, with_held b free e i l, b.numbers.short);
      },
    )

    pub forced_free : (free' : List ℕ) → Moved true (λ s. op_on s (op_at (loop_of f) o)) free₁ free' → free' ≡ free_rows ii rows'
    forced_free free' c = free_same ii rows' free' c.whole (λ i l. omega (arith, c.at i l, g.at i l, forced_balance i l))
