-- A call of the code as the model has it. Assumes nothing.
use Rattle.model.specs.Session as model
use Rattle.session.specs.declared.Call.{Call}
use Rattle.session.specs.declared.Call.TheVariants.{Place, Force, Remove, Checkpoint, Release, Rollback}

-- the model's call
abbrev pub call_is : Call → model.Call
call_is (Place o t) = model.place o t
call_is (Force o t) = model.force o t
call_is (Remove o) = model.remove o
call_is Checkpoint = model.checkpoint
call_is Release = model.release
call_is (Rollback m) = model.rollback m
