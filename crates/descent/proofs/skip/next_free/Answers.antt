-- Each of the `k` starts from `s` on is excluded.
use Rattle.std.proofs.Common.{◌≡◌, ap, ◌∙◌, ℕ, ◌+◌, ◌-◌, ◌≤◌, ◌<◌, arith}
use Rattle.std.proofs.Math.Option.{none}
use native.Mathlib.Decide.{dec_lt}
use Rattle.model.specs.Loop.{op_at}
use Rattle.model.specs.File.{loop_of}
use Rattle.model.specs.Table.{row_base}
use Rattle.reservation.specs.Place.{first_met}
use Rattle.descent.proofs.skip.next_free.Goals as goal

pub loop-s-preserved : goal.loop-s-preserved
loop-s-preserved c = record { behind = omega arith; taken = λ t l m. pick t l m (dec_lt t c.loop-s.s) }
  where
    pick : (t : ℕ) → c.args.from ≤ t → t < c.loop-s.s + c.excluded-k.result → Dec (t < c.loop-s.s) → first_met row_base c.args.interval c.args.rows.now t (op_at (loop_of c.args.file.now) c.args.op).uses ≡ none → ⊥
    pick t l m (yes q) e = c.loop-s.invariant.taken t l q e
    pick t l m (no q) e =
        let z : c.loop-s.s + (t - c.loop-s.s) ≡ t = omega arith in
        c.excluded-k.ensures.taken (t - c.loop-s.s) (omega arith) (ap (λ (x : ℕ). first_met row_base c.args.interval c.args.rows.now x (op_at (loop_of c.args.file.now) c.args.op).uses) z ∙ e)
