-- What the move did to the starts, the rows and the numbers, joined to the session.
use Rattle.std.proofs.Common.{refl}
use Rattle.model.specs.Session as model
use Rattle.session.proofs.Steps.{stepped_plain}
use Rattle.session.proofs.Session.place.Goals as goal

pub returns : goal.returns
returns c =
    stepped_plain c.args.self.now c.args.rows.now c.requires (model.place c.args.op c.args.start) (λ a cs. refl) (λ a cs. refl) c.place.ensures
