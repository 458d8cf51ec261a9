use Rattle.std.proofs.Common.{ap, ◌∙◌}
use Rattle.std.specs.Prelude.{slice_set}
use Rattle.orca_base.specs.declared.ids.ObjectId.{ObjectId}
use Rattle.value_core.specs.Datum.{Datum}
use Rattle.value_core.specs.Datum as datum
use Rattle.code_steps.proofs.Acting.{made, named}
use Rattle.code_steps.proofs.actions.make.Goals as goal

pub returns : goal.returns
returns c = λ room.
    let same = named c.args.process c.args.count c.object_number.result c.of-object.result c.of-object.ensures (c.object_number.ensures room) in
    let old = c.args.run.now.frame in
    made c.args.process c.args.kind c.args.count c.args.slot old c.set_slot.new.run.frame c.of-object.result same
    (c.in_ok-set_slot.ensures {u = tt} ∙ ap (λ (o : ObjectId). slice_set old c.args.slot (datum.object o.process o.number)) same)
