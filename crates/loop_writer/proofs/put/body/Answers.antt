use mathlib.Core.Path.{◌≡◌, sym, ap, ◌∙◌}
use mathlib.Core.List.{map}
use native.Mathlib.Numerals.{add-one}
use native.Mathlib.Omega.{arith}
use lib.IntN.{pos}
use lib.ListN.{length, get_or, length-map, get_or-map}
use lib.Seq.{paste-suc}
use mir.Syntax.{w32}
use mir.Val.{to_z, of_z}
use Rattle.std.proofs.lemmas.Int.{ints}
use Rattle.model.specs.Writer.{byte_of, field_at}
use Rattle.loop_writer.proofs.put.body.Goals as goal

pub loop-i-preserved : goal.loop-i-preserved
loop-i-preserved c =
    let a = c.args in
    let l = c.loop-i in
    let bytes = map byte_of a.fields.now in
    let as_many : length bytes ≡ length a.fields.now = length-map a.fields.now byte_of in
    let z = field_at a.fields.now l.i in
    let h = c.requires.1 l.i in
    let plain : to_z w32 (of_z w32 z) ≡ z = omega (arith, ints, h.low, h.high) in
    let e : c.byte_of.result ≡ get_or bytes l.i 0 = c.byte_of.ensures ∙ ap byte_of plain ∙ sym (get_or-map byte_of a.fields.now l.i (pos 0)) in
    rw (l.invariant, e, add-one) (paste-suc a.buffer.now a.at bytes l.i 0 (omega arith) (omega (arith, as_many)))
