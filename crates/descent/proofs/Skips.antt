-- The starts that the rows exclude: a taken cell that a use meets in one cycle it meets at the next starts too, in an earlier cycle each. Assumes nothing.
use mathlib.Core.Path.{◌≡◌, ap, ◌∙◌}
use mathlib.Core.Bool.{true, false}
use mathlib.Core.List.{List}
use Prim.Native.Nat.{ℕ, ◌+◌, ◌-◌, ◌%◌, ◌≤◌, ◌<◌}
use native.Mathlib.Decide.{dec_lt}
use native.Mathlib.Omega.{arith}
use lib.ListN.{length, get_or}
use borrow.Author.Tests.{ne_eqb}
use Rattle.model.specs.Loop.{Use, UseOk, no_use, all_uses}
use Rattle.model.specs.File.{loop_of, Accepted}
use Rattle.model.specs.Table.{row_base, digit_of}
use Rattle.model.proofs.File.{accepted_ok}
use Rattle.model.proofs.Loop.{all_ok}
use Rattle.reservation.specs.Place.{row_at, met_at}
use Rattle.reservation.proofs.TakenCells.{use_early, use_over, use_self, use_bit, use_met, met_each, each_met}
use Rattle.descent.specs.Skip.{UseExcluded, Excluded}

-- ---- one use

-- a use of an accepted file is in range
pub use_ok : (f : List ℕ) (u : ℕ) → Accepted f → u < length (all_uses (loop_of f)) → UseOk (get_or (all_uses (loop_of f)) u no_use)
use_ok f u a l = all_ok (loop_of f) (accepted_ok f a) u l

-- the bit of its slot in the row of its cycle i
abbrev pub bit_at : ℕ → List ℕ → ℕ → Use → ℕ → ℕ
bit_at ii rows s u i = digit_of row_base (row_at ii rows s (u.offset + i)) u.slot

module _ (ii : ℕ) (rows : List ℕ) (s : ℕ) (u : Use) (ok : UseOk u) where
  -- that of cycle i is set: i + 1 starts are excluded
  pub bit_excludes : (i : ℕ) → i < u.duration → bit_at ii rows s u i ≡ 1 → UseExcluded ii rows s u (i + 1)
  bit_excludes i l e = record {
    few = omega (arith, ok.ends);
    free = λ z. absurd (omega arith);
    taken = λ t m.
        let c = u.offset + i - t in
        let same : s + t + c ≡ s + (u.offset + i) = omega arith in
        (c, omega (arith, ok.ends), use_met row_base ii (row_at ii rows (s + t) c) c u (omega arith) (omega arith) (ap (λ (x : ℕ). digit_of row_base (get_or rows (x % ii) 0) u.slot) same ∙ e));
  }

  -- none is set: the rows leave the use free
  pub bits_free : u.duration ≤ ii → ((i : ℕ) → i < u.duration → bit_at ii rows s u i ≡ 1 → ⊥) → UseExcluded ii rows s u 0
  bits_free short off = record {
    few = omega arith;
    free = λ z k. pick k (dec_lt k u.offset) (dec_lt k (u.offset + u.duration));
    taken = λ t m. absurd (omega arith);
  }
    where
      pick : (k : ℕ) → Dec (k < u.offset) → Dec (k < u.offset + u.duration) → met_at row_base ii rows s k u ≡ false
      pick k (yes l) d = use_early row_base ii (row_at ii rows s k) k u l
      pick k (no l) (no m) = use_over row_base ii (row_at ii rows s k) k u (omega arith)
      pick k (no l) (yes m) =
          let e : u.offset + (k - u.offset) ≡ k = omega arith in
          use_bit row_base ii (row_at ii rows s k) k u (omega arith) m (omega arith)
          ∙ ne_eqb _ 1 (λ q. off (k - u.offset) (omega arith) (ap (λ (x : ℕ). digit_of row_base (row_at ii rows s x) u.slot) e ∙ q))

  -- it is longer than the interval: it meets itself
  pub self_excludes : ii < u.duration → UseExcluded ii rows s u 1
  self_excludes l = record {
    few = omega arith;
    free = λ z. absurd (omega arith);
    taken = λ t m.
        let k = u.offset + ii in
        (k, omega (arith, ok.ends), use_self row_base ii (row_at ii rows (s + t) k) k u (omega arith) (omega arith) (omega arith));
  }

-- ---- all uses of an operation

module _ (ii : ℕ) (rows : List ℕ) (s : ℕ) (us : List Use) where
  -- the starts that one of them excludes
  pub use_excludes : (j r : ℕ) → j < length us → 1 ≤ r → UseExcluded ii rows s (get_or us j no_use) r → Excluded ii rows s us r
  use_excludes j r l some x = record {
    few = x.few;
    free = λ z. absurd (omega arith);
    taken = λ t m e.
        let k = x.taken t m in
        let f : met_at row_base ii rows (s + t) k.0 (get_or us j no_use) ≡ false = met_each row_base ii rows (s + t) us e k.0 j k.1 l in
        let y : met_at row_base ii rows (s + t) k.0 (get_or us j no_use) ≡ true = k.2 in
        cc;
  }

  -- each is free
  pub uses_free : ((j : ℕ) → j < length us → (k : ℕ) → met_at row_base ii rows s k (get_or us j no_use) ≡ false) → Excluded ii rows s us 0
  uses_free f = record { few = omega arith; free = λ z. each_met row_base ii rows s us (λ k j l m. f j m k); taken = λ t m. absurd (omega arith) }
