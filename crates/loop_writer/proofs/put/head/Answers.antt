-- Each entry is stored behind what is there.
use mathlib.Core.List.{[], ◌∷◌, ◌++◌}
use Prim.Native.Nat.{◌+◌}
use native.Mathlib.Omega.{arith}
use Rattle.model.specs.File.{oper, uses, deps, oper_at}
use Rattle.model.specs.Writer.{entry_bytes}
use Rattle.loop_writer.proofs.Buffers.{next_stored}
use Rattle.loop_writer.proofs.put.head.Goals as goal

pub returns : goal.returns
returns c =
    let a = c.args in
    let old = a.buffer.now in
    let one = entry_bytes oper.tag oper_at a.oper in
    let two = entry_bytes uses.tag (oper_at + a.oper) a.uses in
    let three = entry_bytes deps.tag (oper_at + a.oper + a.uses) a.deps in
    next_stored 18 old (1 ∷ 3 ∷ one ++ two) three 0
    (next_stored 10 old (1 ∷ 3 ∷ one) two 0 (next_stored 2 old (1 ∷ 3 ∷ []) one 0 c.store.ensures c.entry.ensures (omega arith) (omega arith)) c.entry-2.ensures (omega arith) (omega arith))
    c.entry-3.ensures
    (omega arith)
    (omega arith)
