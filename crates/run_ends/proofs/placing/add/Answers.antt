use Rattle.std.proofs.Common.{◌==◌, ◌&&◌, ap, cond, true, ◌∙◌}
use Rattle.orca_base.specs.declared.ids.MessageId.{MessageId}
use Rattle.world_places.specs.Told.{has_number}
use Rattle.run_ends.specs.Telling.{has}
use Rattle.run_ends.proofs.Calls.{equal_is, or_so}
use Rattle.run_ends.proofs.placing.add.Goals as goal

pub returns : goal.returns
returns c line =
    let more = c.in_ok-insert.ensures.updates in
    more.0 (line.process.0, line.call.0)
    ∙ ap (λ b. cond b true (has c.args.calls.now line)) (equal_is c.id-name.result.process.0 c.id-name.result.call.0 line.process.0 line.call.0 ∙ ap (λ (n : MessageId). (n.process.0 == line.process.0) && (n.call.0 == line.call.0)) c.id-name.ensures)
    ∙ or_so (has_number c.args.message.now line) (has c.args.calls.now line)
