-- Changes of the 24 numbers by an amount for each slot, and the amounts of uses and of masks. Assumes nothing.
use mathlib.Core.Path.{◌≡◌, refl, sym, ap, ◌∙◌, fun_ext, subst}
use mathlib.Core.Bool.{Bool, true, false, cond}
use mathlib.Core.List.{List}
use Prim.Native.Nat.{ℕ, suc, ◌+◌, ◌-◌, ◌/◌, ◌%◌, ◌^◌, ◌≤◌, ◌<◌}
use native.Mathlib.Nat.{div-eq_of_lt, lt-div-mul-add}
use native.Mathlib.Decide.{ℕ_discrete, dec_lt}
use native.Mathlib.Omega.{arith}
use borrow.Author.Tests.{eq-eqb, ne_eqb}
use lib.Dec.{eqb}
use lib.ListN.{length, get_or, set, length-set}
use lib.Pow.{pow_pos, pow_mono}
use lib.Seq.{get_or-set_same, get_or-set_other}
use Rattle.model.specs.Lists.{up_from, sum_of}
use Rattle.model.specs.Loop.{Use, Op, Loop, size, no_use, first_use_of, op_at, use_at, all_uses, use_on, op_on, UseOk}
use Rattle.model.specs.File.{loop_of, Accepted}
use Rattle.model.proofs.Lists.{up_from_split, sum_append, sum_none, sum_places}
use Rattle.model.proofs.Sums.{sum_next, sum_part}
use Rattle.model.proofs.File.{accepted_ok}
use Rattle.model.proofs.Loop.{all_ok}
use Rattle.reservation.proofs.UseNumbers.{OwnUses, own_at}
use Rattle.reservation.proofs.Ranges.{uses_end}
use Rattle.free_rows.specs.Numbers.{Room, Moved, named_on}

-- ---- a change by an amount for each slot

-- where each amount is 0 nothing has changed
pub moved_none : {comes : Bool} {a : ℕ → ℕ} {free : List ℕ} → length free ≡ 24 → ((s : ℕ) → a s ≡ 0) → Moved comes a free free
moved_none w z = record { whole = w; at = λ i l. rw (z (suc i)) }

-- a change by a is one by equal amounts
pub moved_as : {comes : Bool} {a b : ℕ → ℕ} {free free' : List ℕ} → ((s : ℕ) → a s ≡ b s) → Moved comes a free free' → Moved comes b free free'
moved_as {comes} {free = free} {free'} e m = subst (λ (f : ℕ → ℕ). Moved comes f free free') (fun_ext e) m

-- a change by a and then one by b is one by both
pub moved_more : {comes : Bool} {a b c : ℕ → ℕ} {free free' free'' : List ℕ} → ((s : ℕ) → c s ≡ a s + b s)
    → Moved comes a free free' → Moved comes b free' free'' → Moved comes c free free''
moved_more {comes = true} e m n = record { whole = n.whole; at = λ i l. omega (arith, e (suc i), m.at i l, n.at i l) }
moved_more {comes = false} e m n = record { whole = n.whole; at = λ i l. omega (arith, e (suc i), m.at i l, n.at i l) }

-- and where there was room for both, there is room for b after a
pub room_after : {comes : Bool} {a b c : ℕ → ℕ} {free free' : List ℕ} → ((s : ℕ) → a s + b s ≤ c s)
    → Room comes c free → Moved comes a free free' → Room comes b free'
room_after {comes = true} e r m =
    record {
      whole = m.whole;
      enough = λ i l. omega (arith, e (suc i), m.at i l, r.enough i l);
      small = λ i l. omega (arith, e (suc i), m.at i l, r.small i l);
    }
room_after {comes = false} e r m = record { whole = m.whole; enough = λ i l. omega arith; small = λ i l. omega (arith, e (suc i), m.at i l, r.small i l) }

-- ---- the uses of an operation

-- what its first n uses hold of slot s
abbrev pub uses_on : Op → (n s : ℕ) → ℕ
uses_on p n s = sum_of (λ k. use_on s (use_at p k)) (up_from 0 n)

-- the first 0 uses hold nothing
pub uses_none : (p : Op) (s : ℕ) → uses_on p 0 s ≡ 0
unfolding sum_of up_from
uses_none p s = refl

-- all of them hold what the operation does
pub uses_all : (p : Op) (s : ℕ) → uses_on p (length p.uses) s ≡ op_on s p
uses_all p s = sym (sum_places (use_on s) p.uses no_use)

-- use j adds what it holds to those before it
uses_next : (p : Op) (j s : ℕ) → uses_on p (j + 1) s ≡ uses_on p j s + use_on s (use_at p j)
uses_next p j s = sum_next (λ k. use_on s (use_at p k)) j

-- and is one of all
uses_part : (p : Op) (j s : ℕ) → j < length p.uses → uses_on p j s + use_on s (use_at p j) ≤ op_on s p
uses_part p j s l = omega (arith, uses_all p s, sum_part (λ k. use_on s (use_at p k)) j (length p.uses) l)

-- ---- one use

-- what it holds of its own slot
own_slot : (u : Use) → 1 ≤ u.slot → use_on (suc (u.slot - 1)) u ≡ u.duration
own_slot u l = rw (eq-eqb u.slot (suc (u.slot - 1)) (omega arith))

-- where there is room for it, there is at the number of its slot
pub room_use : {comes : Bool} {u : Use} {free : List ℕ} → UseOk u → Room comes (λ s. use_on s u) free
    → (cond comes u.duration 0 ≤ get_or free (u.slot - 1) 0) × (get_or free (u.slot - 1) 0 + u.duration < 65536)
room_use {comes} {u} ok r =
    let e = own_slot u ok.slot_low in
    let l : u.slot - 1 < 24 = omega (arith, ok.slot_low, ok.slot_high) in
    (rw e at (r.enough (u.slot - 1) l), rw e at (r.small (u.slot - 1) l))

-- changing that number is a change by the use
pub moved_use : {comes : Bool} {u : Use} (free : List ℕ) (v : ℕ) → UseOk u → length free ≡ 24
    → v + cond comes u.duration 0 ≡ get_or free (u.slot - 1) 0 + cond comes 0 u.duration → Moved comes (λ s. use_on s u) free (set free (u.slot - 1) v)
moved_use {comes} {u} free v ok w e = record { whole = rw length-set w; at = λ i l. pick i l (ℕ_discrete i (u.slot - 1)) }
  where
    pick : (i : ℕ) → i < 24 → Dec (i ≡ u.slot - 1)
        → get_or (set free (u.slot - 1) v) i 0 + cond comes (use_on (suc i) u) 0 ≡ get_or free i 0 + cond comes 0 (use_on (suc i) u)
    pick i l (yes q) = rw (q, own_slot u ok.slot_low, get_or-set_same free (u.slot - 1) v 0 (omega arith)) e
    pick i l (no n) =
        rw (ne_eqb u.slot (suc i) (λ q. n (omega arith)), get_or-set_other free (u.slot - 1) i v 0 n)

-- use number u of all, which is one of operation o's, is in range
pub turn_ok : (f : List ℕ) (o first n u : ℕ) → Accepted f → o < size (loop_of f) → first ≡ first_use_of (loop_of f) o → n ≡ length (op_at (loop_of f) o).uses → u < first + n
    → UseOk (get_or (all_uses (loop_of f)) u no_use)
turn_ok f o first n u a l p q h = all_ok (loop_of f) (accepted_ok f a) u (omega (arith, uses_end f o a l))

-- its turn
module _ {f : List ℕ} {o first n : ℕ} (own : OwnUses f o first n) (u : ℕ) (low : first ≤ u) (high : u < first + n) where
  module _ {comes : Bool} {free₀ free : List ℕ} (m : Moved comes (uses_on (op_at (loop_of f) o) (u - first)) free₀ free) where
    -- there is room for it
    pub turn_room : Room comes (λ s. op_on s (op_at (loop_of f) o)) free₀ → Room comes (λ s. use_on s (get_or (all_uses (loop_of f)) u no_use)) free
    turn_room r =
        subst (λ (v : Use). Room comes (λ s. use_on s v) free) (own_at own u low high)
        (room_after (λ s. uses_part (op_at (loop_of f) o) (u - first) s (omega (arith, own.count))) r m)

    -- it changes the numbers by what it holds
    pub turn_next : {free' : List ℕ} → Moved comes (λ s. use_on s (get_or (all_uses (loop_of f)) u no_use)) free free' → Moved comes (uses_on (op_at (loop_of f) o) (u + 1 - first)) free₀ free'
    turn_next h =
        let e : u + 1 - first ≡ u - first + 1 = omega arith in
        rw e (moved_more (λ s. uses_next (op_at (loop_of f) o) (u - first) s ∙ ap (λ (v : Use). uses_on (op_at (loop_of f) o) (u - first) s + use_on s v) (own_at own u low high)) m h)

-- ---- the operations of a mask

-- a mask below 2 ^ n has no bits left from n on
pub bits_left : (mask n p : ℕ) → mask < 2 ^ n → 0 < mask / 2 ^ p → p < n
bits_left mask n p h some = pick (dec_lt p n)
  where
    pick : Dec (p < n) → p < n
    pick (yes l) = l
    pick (no m) = absurd (omega (arith, div-eq_of_lt {n = mask} {m = 2 ^ p} (omega (arith, pow_mono {i = n} {j = p} (omega arith)))))

-- what operation p holds of slot s, where the mask names it
abbrev named_at : Loop → (mask p s : ℕ) → ℕ
named_at l mask p s = cond (eqb (mask / 2 ^ p % 2) 1) (op_on s (op_at l p)) 0

module _ (l : Loop) (mask : ℕ) where
  -- the first 0 operations hold nothing
  pub named_none : (s : ℕ) → named_on l mask s 0 ≡ 0
  unfolding named_on sum_of up_from
  named_none s = refl

  -- operation p adds what it holds to those before it, where its bit is set
  pub named_set : (p s : ℕ) → mask / 2 ^ p % 2 ≡ 1 → named_on l mask s (p + 1) ≡ named_on l mask s p + op_on s (op_at l p)
  unfolding named_on
  named_set p s e = sum_next (λ k. named_at l mask k s) p ∙ rw (eq-eqb (mask / 2 ^ p % 2) 1 e)

  -- and nothing, where it is clear
  pub named_clear : (p s : ℕ) → (mask / 2 ^ p % 2 ≡ 1 → ⊥) → named_on l mask s (p + 1) ≡ named_on l mask s p + 0
  unfolding named_on
  named_clear p s e = sum_next (λ k. named_at l mask k s) p ∙ rw (ne_eqb (mask / 2 ^ p % 2) 1 e)

  -- an operation whose bit is set is one of the first n
  pub named_part : (p n s : ℕ) → p < n → mask / 2 ^ p % 2 ≡ 1 → named_on l mask s p + op_on s (op_at l p) ≤ named_on l mask s n
  unfolding named_on
  named_part p n s h e = rw (eq-eqb (mask / 2 ^ p % 2) 1 e) at (sum_part (λ k. named_at l mask k s) p n h)

  -- where no bit is left from p on, the first p operations hold what the first n do
  pub named_end : (p n s : ℕ) → p ≤ n → mask / 2 ^ p ≡ 0 → named_on l mask s p ≡ named_on l mask s n
  unfolding named_on
  named_end p n s h e =
      let f : ℕ → ℕ = λ k. named_at l mask k s in
      let q : n ≡ p + (n - p) = omega arith in
      let small : mask < 2 ^ p = omega (arith, rw e at (lt-div-mul-add {a = mask} (pow_pos p))) in
      let rest : sum_of f (up_from (0 + p) (n - p)) ≡ 0 =
      sum_none f (0 + p) (n - p) (λ k a b. rw (div-eq_of_lt {n = mask} {m = 2 ^ k} (omega (arith, pow_mono {i = p} {j = k} (omega arith))))) in
      omega (arith, ap (λ (m : ℕ). sum_of f (up_from 0 m)) q, ap (sum_of f) (up_from_split 0 p (n - p)), sum_append f (up_from 0 p) (up_from (0 + p) (n - p)))
