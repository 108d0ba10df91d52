-- Each number is stored behind what is there.
use mathlib.Core.Path.{◌≡◌, ap, ◌∙◌}
use mathlib.Core.List.{List, ◌++◌}
use Prim.Native.Nat.{ℕ, ◌+◌}
use native.Mathlib.Omega.{arith}
use lib.ListN.{length}
use Rattle.std.proofs.lemmas.Grind.{common_steps}
use Rattle.model.specs.Writer.{word}
use Rattle.loop_file.specs.Read.{four_of}
use Rattle.loop_writer.specs.Buffer.{stored}
use Rattle.loop_writer.proofs.Buffers.{next_stored}
use Rattle.loop_writer.proofs.put.entry.Goals as goal

-- four bytes are those that a tag has
all_four : (tag : List ℕ) → length tag ≡ 4 → tag ≡ four_of tag
all_four tag h = grind (arith, common_steps)

pub returns : goal.returns
returns c =
    let a = c.args in
    let old = a.buffer.now in
    let four = four_of a.tag.now in
    let tagged = c.store.ensures ∙ ap (stored old a.at) (all_four a.tag.now (omega arith)) in
    let started = next_stored (a.at + 4) old four (word a.start) a.at tagged c.word.ensures (omega arith) (omega arith) in
    next_stored (a.at + 6) old (four ++ word a.start) (word a.long) a.at started c.word-2.ensures (omega arith) (omega arith)
