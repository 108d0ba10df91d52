-- What the move did to the starts, the rows and the numbers, joined to the session.
use Rattle.std.proofs.Common.{refl}
use Rattle.model.specs.Session as model
use Rattle.session.proofs.Steps.{stepped_plain}
use Rattle.session.proofs.Session.remove.Goals as goal

pub returns : goal.returns
returns c =
    stepped_plain c.args.self.now c.args.rows.now c.requires (model.remove c.args.op) (λ a cs. refl) (λ a cs. refl) (c.remove.ensures.0 c.args.self.now.horizon c.requires.board, c.remove.ensures.1)
