-- The total on a slot over the uses of all operations in one row. Assumes nothing.
use mathlib.Core.Path.{◌≡◌, sym, ◌∙◌}
use mathlib.Core.Bool.{Bool, true, false, cond}
use Prim.Native.Nat.{ℕ, ◌+◌, ◌*◌, ◌≤◌}
use native.Mathlib.Omega.{arith}
use borrow.Author.Tests.{eq-eqb, ne_eqb}
use lib.Dec.{eqb}
use lib.ListN.{length, get_or}
use Rattle.model.specs.Lists.{up_from, sum_of}
use Rattle.model.specs.Loop.{Use, Loop, no_use, all_uses, use_on, UseOk, LoopOk}
use Rattle.model.specs.Bounds.{total_on}
use Rattle.model.proofs.Lists.{sum_places}
use Rattle.model.proofs.Loop.{all_ok}
use Rattle.model.proofs.Sums.{sum_flat_map, sum_next, sum_most}

-- ---- totals

-- the total over the first n of all uses
abbrev pub total_to : Loop → ℕ → ℕ → ℕ
total_to l s n = sum_of (λ u. use_on s (get_or (all_uses l) u no_use)) (up_from 0 n)

-- over all of them it is the total on the slot
pub total_all : (l : Loop) (s : ℕ) → total_to l s (length (all_uses l)) ≡ total_on l s
unfolding total_on all_uses
total_all l s = sym (sum_places (use_on s) (all_uses l) no_use) ∙ sum_flat_map (use_on s) (λ p. p.uses) l.ops

-- one use more, on the slot or not
pub total_on_lem : (l : Loop) (s u : ℕ) → (get_or (all_uses l) u no_use).slot ≡ s → total_to l s (u + 1) ≡ total_to l s u + (get_or (all_uses l) u no_use).duration
total_on_lem l s u e = sum_next (λ v. use_on s (get_or (all_uses l) v no_use)) u ∙ rw (eq-eqb (get_or (all_uses l) u no_use).slot s e)

pub total_off : (l : Loop) (s u : ℕ) → ((get_or (all_uses l) u no_use).slot ≡ s → ⊥) → total_to l s (u + 1) ≡ total_to l s u
total_off l s u e = sum_next (λ v. use_on s (get_or (all_uses l) v no_use)) u ∙ rw (ne_eqb (get_or (all_uses l) u no_use).slot s e) (omega arith)

-- no use adds more than 16
pub total_most : (l : Loop) → LoopOk l → (s n : ℕ) → n ≤ length (all_uses l) → total_to l s n ≤ 16 * n
total_most l ok s n h = sum_most (λ u. use_on s (get_or (all_uses l) u no_use)) 16 0 n (λ u a b. pick (get_or (all_uses l) u no_use) (all_ok l ok u (omega arith)))
  where
    part : (b : Bool) (d : ℕ) → d ≤ 16 → cond b d 0 ≤ 16
    part true d h = h
    part false d h = omega arith

    pick : (u : Use) → UseOk u → use_on s u ≤ 16
    pick u k = part (eqb u.slot s) u.duration (omega (arith, k.ends))

-- a turn of a loop over the uses
pub ruleset turns = (total_on_lem, total_off)
