use Rattle.std.proofs.Common.{◌+◌, ◌*◌, refl, arith}
use Rattle.model.specs.File.{oper}
use Rattle.loop_file.proofs.Sections.{section_of, spans}
use Rattle.loop_file.proofs.oper_body.Goals as goal

pub returns : goal.returns
returns c =
    let s = spans c.args.file.now c.in-Ok.counts c.in-Ok.ensures in
    section_of c.args.file.now oper 26 26 (26 + 2 * c.in-Ok.counts.operations) s.file refl (omega arith)
