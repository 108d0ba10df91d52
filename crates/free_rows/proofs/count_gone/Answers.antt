-- A turn adds operation p where its bit, the lowest that is left, is set, and nothing where it is clear.
use Rattle.std.proofs.Common.{◌∙◌, ◌≡◌, ◌%◌, ◌/◌, ◌^◌, refl, sym, ap, arith}
use Rattle.std.proofs.Math.Pow.{shr-shr}
use Rattle.model.specs.Loop.{size}
use Rattle.model.specs.File.{loop_of}
use Rattle.model.proofs.File.{accepted_ok}
use Rattle.free_rows.proofs.Numbers.{moved_as, moved_none, moved_more, room_after, bits_left, named_none, named_set, named_clear, named_part, named_end}
use Rattle.free_rows.proofs.count_gone.Goals.{then-left-eq1, else-left-eq1}
use Rattle.free_rows.proofs.count_gone.Goals as goal

pub loop-left-init : goal.loop-left-init
loop-left-init c = record { inside = omega arith; bits = omega arith; gone = moved_none c.requires.2.whole (named_none (loop_of c.args.file.now) c.args.mask) }

pub count-requires : goal.count-requires
count-requires c =
    let l = loop_of c.args.file.now in
    let h = c.loop-left.invariant in
    let below = bits_left c.args.mask (size l) c.loop-left.p c.requires.1 (omega arith) in
    (c.requires.0, below, room_after (λ t. named_part l c.args.mask c.loop-left.p (size l) t below (sym (ap (λ n. n % 2) h.bits) ∙ c.if-left-eq1.true)) c.requires.2 h.gone)

pub overflow_add-p : goal.overflow_add-p
overflow_add-p c = omega (arith, (accepted_ok _ c.requires.0).few)

pub loop-left-preserved : goal.loop-left-preserved
loop-left-preserved c =
    let l = loop_of c.args.file.now in
    let h = c.loop-left.invariant in
    let p = c.loop-left.p in
    let bit : c.loop-left.left % 2 ≡ c.args.mask / 2 ^ p % 2 = ap (λ n. n % 2) h.bits in
    record {
      inside = omega (arith, bits_left c.args.mask (size l) p c.requires.1 (omega arith));
      bits = ap (λ n. n / 2) h.bits ∙ shr-shr c.args.mask p 1;
      gone =
          elim c.if-left-eq1.branch [
            | then-left-eq1 w ↦ rw w.free-is (moved_more (λ t. named_set l c.args.mask p t (sym bit ∙ w.if-left-eq1.true)) h.gone w.count.ensures)
            | else-left-eq1 w ↦ rw w.free-is (moved_more {b = λ t. 0} (λ t. named_clear l c.args.mask p t (λ e. w.if-left-eq1.false (bit ∙ e))) h.gone (moved_none h.gone.whole (λ t. refl)))
          ];
    }

pub returns : goal.returns
returns c =
    let h = c.loop-left.invariant in
    let l = loop_of c.args.file.now in
    moved_as (λ t. named_end l c.args.mask c.loop-left.p (size l) t h.inside (omega arith)) h.gone
