-- A refusal is passed on, and else head and bodies are stored one behind the other.
use native.Mathlib.Omega.{arith}
use lib.ListN.{length}
use Rattle.model.specs.Writer.{given_checks}
use Rattle.model.proofs.Fields.{passes_bytes}
use Rattle.refusals.proofs.Tables.{fine_passes, lent_fine}
use Rattle.loop_writer.specs.Answer.{fields_by}
use Rattle.loop_writer.proofs.Answers.{total, short, given_refuses, room_refuses, stores}
use Rattle.loop_writer.proofs.write.Goals as goal

pub returns-in_default : goal.returns-in_default
returns-in_default c =
    let d = fields_by c.args.ops.now c.args.uses.now c.args.deps.now in
    given_refuses d c.args.buffer.now c.passed_on.result c.given-given.ensures c.in_default.is (rw c.in_default.is at c.passed_on.ensures)

pub returns-in_default-room : goal.returns-in_default-room
returns-in_default-room c =
    let d = fields_by c.args.ops.now c.args.uses.now c.args.deps.now in
    let r = c.passed_on-in_default-room in
    room_refuses d c.args.buffer.now (fine_passes (given_checks d) c.in-Ok.is c.given-given.ensures) r.result c.lent-room.ensures c.in_default-room.is (rw c.in_default-room.is at r.ensures)

pub head-requires : goal.head-requires
head-requires c =
    let d = fields_by c.args.ops.now c.args.uses.now c.args.deps.now in
    let room = lent_fine (total d) (length c.args.buffer.now) c.lent-room.ensures c.in-Ok-room.is in
    let few = short d (fine_passes (given_checks d) c.in-Ok.is c.given-given.ensures) in
    (omega arith, omega arith)

pub body-requires : goal.body-requires
body-requires c =
    let d = fields_by c.args.ops.now c.args.uses.now c.args.deps.now in
    let room = lent_fine (total d) (length c.args.buffer.now) c.lent-room.ensures c.in-Ok-room.is in
    (omega arith, (passes_bytes d (fine_passes (given_checks d) c.in-Ok.is c.given-given.ensures)).0)

pub body-requires-2 : goal.body-requires-2
body-requires-2 c =
    let d = fields_by c.args.ops.now c.args.uses.now c.args.deps.now in
    let room = lent_fine (total d) (length c.args.buffer.now) c.lent-room.ensures c.in-Ok-room.is in
    (omega arith, (passes_bytes d (fine_passes (given_checks d) c.in-Ok.is c.given-given.ensures)).1)

pub body-requires-3 : goal.body-requires-3
body-requires-3 c =
    let d = fields_by c.args.ops.now c.args.uses.now c.args.deps.now in
    let room = lent_fine (total d) (length c.args.buffer.now) c.lent-room.ensures c.in-Ok-room.is in
    (omega arith, (passes_bytes d (fine_passes (given_checks d) c.in-Ok.is c.given-given.ensures)).2)

pub returns : goal.returns
returns c =
    let d = fields_by c.args.ops.now c.args.uses.now c.args.deps.now in
    let before = c.args.buffer.now in
    stores
    d
    before
    (fine_passes (given_checks d) c.in-Ok.is c.given-given.ensures)
    (lent_fine (total d) (length before) c.lent-room.ensures c.in-Ok-room.is)
    c.head.ensures
    c.body.ensures
    c.body-2.ensures
    c.body-3.ensures
