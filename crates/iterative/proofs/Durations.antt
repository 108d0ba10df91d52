-- How long an operation's uses are, use by use. Assumes nothing.
use Rattle.std.proofs.Common.{◌≡◌, ◌+◌, ◌≤◌, ◌<◌, ◌∙◌, ap, ap₂, sym, refl, max, List, ℕ, length, get_or, arith}
use native.Mathlib.Nat.{zero-add}
use Rattle.model.specs.Lists.{up_from, sum_of, max_of}
use Rattle.model.specs.Loop.{Loop, Use, size, op_at, use_at, all_uses, no_use}
use Rattle.model.specs.File.{loop_of, Accepted}
use Rattle.model.proofs.File.{accepted_ok}
use Rattle.model.proofs.Sums.{sum_next, max_next}
use Rattle.reservation.proofs.UseNumbers.{UseHere}
use Rattle.iterative.specs.Priority.{held_by}
use Rattle.iterative.specs.Timing.{longest_of}

-- the duration that is read at use j of operation o is that use's, of at most 16 cycles
pub record Lasts (l : Loop) (o j r : ℕ) : Type 0 where
  pub is : r ≡ (use_at (op_at l o) j).duration
  pub short : r ≤ 16

pub lasts : {f : List ℕ} {o j u r : ℕ} → Accepted f → o < size (loop_of f) → j < length (op_at (loop_of f) o).uses → UseHere f o j u → r ≡ (get_or (all_uses (loop_of f)) u no_use).duration → Lasts (loop_of f) o j r
lasts {f} {o} {j} a q m h e =
    let is = e ∙ ap (λ (u : Use). u.duration) h.is in
    record { is = is; short = omega (arith, is, (((accepted_ok f a).op_ok o q).each j m).ends) }

module _ (l : Loop) (o : ℕ) where
  -- the cycles of no uses, and of one more
  pub held_first : 0 ≡ held_by l o 0
  unfolding sum_of up_from
  held_first = refl

  pub held_next : {j a r : ℕ} → a ≡ held_by l o j → Lasts l o j r → a + r ≡ held_by l o (j + 1)
  held_next {j} h d = ap₂ ◌+◌ h d.is ∙ sym (sum_next _ j)

  -- the longest of no uses, and of one more
  pub longest_first : 1 ≡ longest_of l o 0
  unfolding max_of up_from
  longest_first = omega arith

  pub longest_next : {j a r b : ℕ} → a ≡ longest_of l o j → Lasts l o j r → b ≡ max a r → b ≡ longest_of l o (j + 1)
  longest_next {j} h d e =
      let next : max_of (λ k. (use_at (op_at l o) k).duration) (up_from 0 (j + 1)) ≡ _ = max_next (λ k. (use_at (op_at l o) k).duration) 0 j in
      let zero_j : (use_at (op_at l o) (0 + j)).duration ≡ (use_at (op_at l o) j).duration = ap (λ (k : ℕ). (use_at (op_at l o) k).duration) (zero-add j) in
      omega (arith, d.is, next, zero_j, h, e)
