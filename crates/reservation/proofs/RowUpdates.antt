-- Laws of a use and of the uses of an operation put over the rows. Assumes nothing.
use mathlib.Core.Path.{◌≡◌, refl, ap, ◌∙◌}
use mathlib.Core.List.{List}
use Prim.Native.Nat.{ℕ, zero, suc, ◌+◌, ◌-◌, ◌%◌, ◌≤◌, ◌<◌}
use native.Mathlib.Nat.{le_refl, mod-lt}
use native.Mathlib.Decide.{ℕ_discrete}
use native.Mathlib.Omega.{arith}
use lib.ListN.{length, get_or, drop, length-set}
use lib.Seq.{get_or-set_same, get_or-set_other, drop-set-lt}
use Rattle.model.specs.Loop.{Use, Op, use_at, OpOk}
use Rattle.model.specs.Table.{digit_of}
use Rattle.model.proofs.Modular.{wrap_ne}
use Rattle.model.proofs.Conflicts.{slots_rise}
use Rattle.reservation.specs.Rows.{changed, over_use, over_uses, Leaves, DigitIs, UseIn, UsesIn}

-- ---- one use

-- as many rows as before
pub length_over : (g : ℕ → ℕ) (ii start k : ℕ) (rows : List ℕ) → length (over_use g ii start k rows) ≡ length rows
unfolding over_use
length_over g ii start zero rows = refl
length_over g ii start (suc k) rows = rw (length-set, length_over g ii start k rows)

-- rows from ii on stay
pub over_rest : (g : ℕ → ℕ) (ii start k : ℕ) (rows : List ℕ) → 1 ≤ ii → drop ii (over_use g ii start k rows) ≡ drop ii rows
unfolding over_use
over_rest g ii start zero rows p = refl
over_rest g ii start (suc k) rows p =
    drop-set-lt ii (over_use g ii start k rows) ((start + k) % ii) _ (mod-lt (start + k) p) ∙ over_rest g ii start k rows p

-- a row that the use has yet to reach is as it was
pub over_fresh : (g : ℕ → ℕ) (ii start m k : ℕ) (rows : List ℕ) → k ≤ m → m < ii
    → get_or (over_use g ii start k rows) ((start + m) % ii) 0 ≡ get_or rows ((start + m) % ii) 0
unfolding over_use
over_fresh g ii start m zero rows h l = refl
over_fresh g ii start m (suc k) rows h l =
    get_or-set_other (over_use g ii start k rows) ((start + k) % ii) ((start + m) % ii) _ 0
    (λ e. wrap_ne ii (start + k) (m - k) (omega arith) (omega arith) (ap (λ (x : ℕ). x % ii) (omega arith) ∙ e))
    ∙ over_fresh g ii start m k rows (omega arith) l

module _ {base : ℕ} (g : ℕ → ℕ) (d : ℕ) (rows : List ℕ) (ii start n t : ℕ) (u : UseIn base d rows ii start n t) where
  -- so where its turn comes the digit is still d, and the row lies in the table
  pub over_turn : (k : ℕ) → k < n → DigitIs base d (over_use g ii start k rows) ((start + k) % ii) t
  over_turn k l = record {
    inside = rw length_over (omega (arith, mod-lt (start + k) u.some, u.long));
    low = u.low;
    high = u.high;
    digit = rw (over_fresh g ii start k k rows (le_refl k) (omega (arith, u.short))) (u.digits k l);
  }

  -- and a digit that g leaves where that one is d stays as it was in every row
  pub over_other : (s : ℕ) → ((x : ℕ) → digit_of base x t ≡ d → digit_of base (g x) s ≡ digit_of base x s) → (k : ℕ) → k ≤ n → (r : ℕ)
      → digit_of base (get_or (over_use g ii start k rows) r 0) s ≡ digit_of base (get_or rows r 0) s
  unfolding over_use
  over_other s leaves zero l r = refl
  over_other s leaves (suc k) l r = pick (ℕ_discrete r ((start + k) % ii)) (over_other s leaves k (omega arith) r)
    where
      before : List ℕ
      before = over_use g ii start k rows

      pick : Dec (r ≡ (start + k) % ii) → digit_of base (get_or before r 0) s ≡ digit_of base (get_or rows r 0) s
          → digit_of base (get_or (changed g ((start + k) % ii) before) r 0) s ≡ digit_of base (get_or rows r 0) s
      pick (yes e) ih =
          let b = over_turn k l in
          rw (← e, get_or-set_same before r (g (get_or before r 0)) 0 (rw e b.inside)) (leaves (get_or before r 0) (rw e b.digit) ∙ ih)
      pick (no ne) ih = rw (get_or-set_other before ((start + k) % ii) r (g (get_or before ((start + k) % ii) 0)) 0 ne) ih

-- ---- the uses of an operation

-- as many rows as before them
pub length_uses : (g : ℕ → ℕ → ℕ) (ii s : ℕ) (us : List Use) (n : ℕ) (rows : List ℕ) → length (over_uses g ii s us n rows) ≡ length rows
unfolding over_uses
length_uses g ii s us zero rows = refl
length_uses g ii s us (suc n) rows = rw (length_over, length_uses g ii s us n rows)

-- rows from ii on stay
pub uses_rest : (g : ℕ → ℕ → ℕ) (ii s : ℕ) (us : List Use) (n : ℕ) (rows : List ℕ) → 1 ≤ ii → drop ii (over_uses g ii s us n rows) ≡ drop ii rows
unfolding over_uses
uses_rest g ii s us zero rows p = refl
uses_rest g ii s us (suc n) rows p =
    over_rest _ ii _ _ (over_uses g ii s us n rows) p ∙ uses_rest g ii s us n rows p

-- so after the first j uses each later one lies in the table still: the slots differ
pub uses_turn : {base : ℕ} (g : ℕ → ℕ → ℕ) (d : ℕ) (rows : List ℕ) (ii s : ℕ) (p : Op) → Leaves base d g → OpOk p → UsesIn base d rows ii s p.uses
    → (j i : ℕ) → j ≤ i → i < length p.uses
    → UseIn base d (over_uses g ii s p.uses j rows) ii (s + (use_at p i).offset) (use_at p i).duration (use_at p i).slot
unfolding over_uses
uses_turn g d rows ii s p leaves ok u zero i l m =
    let o = ok.each i m in
    record {
      some = u.some;
      long = u.long;
      short = u.short i m;
      near = omega (arith, u.near);
      low = o.slot_low;
      high = o.slot_high;
      digits = λ k q. u.digits i k m q;
    }
uses_turn g d rows ii s p leaves ok u (suc j) i l m =
    let a = uses_turn g d rows ii s p leaves ok u j j (le_refl j) (omega arith) in
    let b = uses_turn g d rows ii s p leaves ok u j i (omega arith) m in
    record {
      some = u.some;
      long = rw length_over b.long;
      short = b.short;
      near = b.near;
      low = b.low;
      high = b.high;
      digits = λ k q.
          over_other (g (use_at p j).slot) d (over_uses g ii s p.uses j rows) ii (s + (use_at p j).offset) (use_at p j).duration (use_at p j).slot a (use_at p i).slot
          (λ x e. leaves (use_at p i).slot (use_at p j).slot x b.low a.low (λ h. omega (arith, slots_rise p ok j i l m)) e)
          (use_at p j).duration (le_refl (use_at p j).duration) _
          ∙ b.digits k q;
    }
