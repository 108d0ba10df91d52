-- There is room for the list, and its stage count is that of its first n starts.
use Rattle.std.proofs.Common.{ℕ, sym, ap, ◌∙◌, arith}
use Rattle.model.specs.File.{loop_of}
use Rattle.search.proofs.Attempts.{few, stages_take}
use Rattle.planner.proofs.keep.Goals as goal

pub write_list-requires : goal.write_list-requires
write_list-requires c = (c.requires.room, omega (arith, few _ _ c.requires.accepted c.requires.is_size))

pub returns : goal.returns
returns c =
    let a = c.args in
    record {
      says = ap (λ (k : ℕ). record { interval = a.interval; resource = a.bounds.resource; recurrence = a.bounds.recurrence; stages = k; smallest = a.smallest })
          (c.stage_count.ensures ∙ sym (stages_take (loop_of a.file.now) a.interval a.n a.starts.now c.requires.is_size));
      list_is = c.write_list.ensures;
    }
