-- `row` is that of the use's cycle `k`, and from there on no row has its bit.
use Rattle.std.proofs.Common.{◌≡◌, ℕ, ◌+◌, ◌%◌, ◌≤◌, ◌<◌, get_or}
use Rattle.model.specs.Loop.{no_use, all_uses}
use Rattle.model.specs.File.{loop_of}
use Rattle.descent.proofs.Skips.{bit_at}
use Rattle.descent.proofs.skip.use_excluded.Given as goal

abbrev pub invariant-loop-k : goal.invariant-loop-k
invariant-loop-k l =
    let v = get_or (all_uses (loop_of l.file)) l.u no_use in
    record {
      row_is : l.row ≡ (l.start + (v.offset + l.k)) % l.interval;
      clear : (i : ℕ) → l.k ≤ i → i < v.duration → bit_at l.interval l.rows l.start v i ≡ 1 → ⊥;
    }
