-- The first number in the range that passes is the one that `first_from` has. Assumes nothing.
use Rattle.std.proofs.Common.{◌≡◌, ◌≤◌, ◌<◌, ◌+◌, ℕ, zero, suc, true, false, sym, refl, arith, rules, tests}
use native.Mathlib.Decide.{dec_lt}
use Rattle.std.specs.Prelude.{Option, Some, None, MatchOption}
use Rattle.std.proofs.lemmas.Iterator.{first_from_Range}
use Rattle.trial.specs.declared.drawn.Drawn.{Drawn}
use Rattle.trial.specs.Lists.{legal_in, first_from}
use Rattle.trial.proofs.lists.first_legal.Goals as goal

module _ (d : Drawn) (interval : ℕ) where
  -- no number passes
  none_passes : (code count : ℕ) → ((k : ℕ) → code ≤ k → k < code + count → legal_in d k d.n interval ≡ false) → first_from d interval code count ≡ None
  unfolding first_from
  none_passes code zero h = refl
  none_passes code (suc count) h = rw (h code (omega arith) (omega arith)) (none_passes (suc code) count (λ k l m. h k (omega arith) (omega arith)))

  -- i passes, and no number before it
  one_passes : (code count i : ℕ) → code ≤ i → i < code + count → legal_in d i d.n interval ≡ true → ((k : ℕ) → code ≤ k → k < i → legal_in d k d.n interval ≡ false)
      → first_from d interval code count ≡ Some i
  unfolding first_from
  one_passes code zero i l m e h = absurd (omega arith)
  one_passes code (suc count) i l m e h =
      elim (dec_lt code i) [
        | yes before ↦ rw (h code (omega arith) before) (one_passes (suc code) count i (omega arith) (omega arith) e (λ k a b. h k (omega arith) b))
        | no here ↦ let same : code ≡ i = omega arith in rw (same, e)
      ]

  -- what `find` answers of the numbers below `count`
  found_first : (count : ℕ) (r : Option ℕ)
      → MatchOption
      r
      ((k : ℕ) → 0 ≤ k → k < count → legal_in d k d.n interval ≡ false)
      (λ i. (0 ≤ i) × (i < count) × (legal_in d i d.n interval ≡ true) × ((k : ℕ) → 0 ≤ k → k < i → legal_in d k d.n interval ≡ false))
      → r ≡ first_from d interval 0 count
  found_first count None h = sym (none_passes 0 count (λ k l m. h k l (omega arith)))
  found_first count (Some i) h = sym (one_passes 0 count i h.0 (omega (arith, h.1)) h.2 h.3)

pub returns : goal.returns
returns c =
    let d = c.args.d in
    found_first
    d
    c.args.interval
    c.args.count
    c.find.result
    (first_from_Range
    _
    _
    _
    c.find.result
    (λ i. legal_in d i d.n c.args.interval ≡ true)
    (λ i. legal_in d i d.n c.args.interval ≡ false)
    c.find.ensures.ran
    (λ x q k. grind (arith, tests))
    (λ x q k. (search rules, grind (arith, tests))))
