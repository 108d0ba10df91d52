use Rattle.std.proofs.Common.{arith, ◌∙◌}
use Rattle.model.proofs.Bundle.{few_files}
use Rattle.bundle.proofs.Reading.{counted}
use Rattle.bundle.proofs.count.Goals as goal

pub returns : goal.returns
returns c =
    let n = c.unwrap_or.ensures ∙ counted c.args.bundle.now c.read.result c.read.ensures in
    (n, omega (arith, few_files c.args.bundle.now))
