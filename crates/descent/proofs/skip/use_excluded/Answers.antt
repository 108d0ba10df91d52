-- The row before that of cycle `k` is that of cycle `k` - 1, and what is read there is the bit of that cycle.
use Rattle.std.proofs.Common.{◌≡◌, sym, ap, ◌∙◌, ℕ, ◌+◌, ◌-◌, ◌/◌, ◌%◌, ◌^◌, ◌<◌, get_or, arith}
use native.Mathlib.Nat.{mod-lt}
use lib.Bits.{and_mask}
use Rattle.model.specs.Loop.{no_use, all_uses}
use Rattle.model.specs.File.{loop_of}
use Rattle.descent.proofs.Skips.{use_ok, self_excludes, bit_excludes, bits_free}
use Rattle.descent.proofs.skip.use_excluded.Goals.{After-row_before-row}
use Rattle.descent.proofs.skip.use_excluded.Goals as goal

pub returns-then-interval-n : goal.returns-then-interval-n
returns-then-interval-n c = self_excludes _ _ _ _ (use_ok _ _ c.requires.0 c.requires.1) (omega (arith, c.if-interval-n.true, c.duration-n.ensures))

-- the sum of which that row is the remainder
abbrev sum : After-row_before-row → ℕ
sum c = c.args.start + ((get_or (all_uses (loop_of c.args.file.now)) c.args.u no_use).offset + (c.loop-k.k - 1))

before : (c : After-row_before-row) → c.row_before-row.result ≡ sum c % c.args.interval
before c = c.row_before-row.ensures (sum c) (c.loop-k.invariant.row_is ∙ ap (λ (x : ℕ). x % c.args.interval) (omega arith))

below : (c : After-row_before-row) → c.row_before-row.result < c.args.interval
below c = omega (arith, before c, mod-lt (sum c) c.requires.3)

pub offset_bounds-rows-row : goal.offset_bounds-rows-row
offset_bounds-rows-row c = omega (arith, below (goal.at.offset_bounds-rows-row c).After-row_before-row)

pub bounds-rows-row : goal.bounds-rows-row
bounds-rows-row c = omega (arith, below (goal.at.bounds-rows-row c).After-row_before-row)

pub returns-then-rows-row-eq1 : goal.returns-then-rows-row-eq1
returns-then-rows-row-eq1 c =
    let e = before (goal.at.returns-then-rows-row-eq1 c).After-row_before-row in
    bit_excludes _ _ _ _ (use_ok _ _ c.requires.0 c.requires.1) (c.loop-k.k - 1) (omega (arith, c.duration-n.ensures))
    (rw (← c.slot-place.ensures, ← e) (sym (and_mask (get_or c.args.rows.now c.row_before-row.result 0 / 2 ^ (c.slot-place.result - 1)) 1) ∙ c.if-rows-row-eq1.true))

pub returns : goal.returns
returns c =
    bits_free _ _ _ _ (use_ok _ _ c.requires.0 c.requires.1) (omega (arith, c.duration-n.ensures, c.if-interval-n.false)) (λ i l. c.loop-k.invariant.clear i (omega arith) l)
