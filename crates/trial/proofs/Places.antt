-- What the next cell of an operation decides about the first place in which it meets a painted one. Assumes nothing.
use Rattle.std.proofs.Common.{◌≡◌, ◌<◌, ◌+◌, ◌-◌, ◌*◌, ◌/◌, ◌%◌, ◌∙◌, ap, ℕ, suc, Bool, true, false, cond, List, add-one, arith}
use Rattle.trial.specs.declared.drawn.Drawn.{Drawn}
use Rattle.trial.specs.Picture.{meets_in, covered_by, place_from}

module _ (cells : List ℕ) (d : Drawn) (op start interval : ℕ) (own : Bool) (i n : ℕ) where
  -- it is met
  pub place_met : 0 < n → meets_in cells d op (i % 3) (i / 3) start interval ≡ true → place_from cells d op start interval own i n ≡ 32 * (i / 3) + i % 3 + 1
  unfolding place_from
  place_met h e = let more : n ≡ suc (n - 1) = omega arith in rw (more, e)

  -- it is not: those behind it are left, and the cells are painted as they have to be
  place_behind : (m : ℕ) → meets_in cells d op (i % 3) (i / 3) start interval ≡ false
      → place_from cells d op start interval own i (suc m) ≡ place_from (cond own (covered_by cells d op (i % 3) (i / 3) start interval) cells) d op start interval own (i + 1) m
  unfolding place_from
  place_behind m e = rw (e, add-one i)

  pub place_next : 0 < n → meets_in cells d op (i % 3) (i / 3) start interval ≡ false
      → place_from cells d op start interval own i n ≡ place_from (cond own (covered_by cells d op (i % 3) (i / 3) start interval) cells) d op start interval own (i + 1) (n - 1)
  place_next h e =
      let more : n ≡ suc (n - 1) = omega arith in
      ap (place_from cells d op start interval own i) more ∙ place_behind (n - 1) e

  -- there is none
  pub place_none : n ≡ 0 → place_from cells d op start interval own i n ≡ 0
  unfolding place_from
  place_none e = rw e
