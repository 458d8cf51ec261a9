use Rattle.std.proofs.Common.{ap, sym}
use Rattle.value_core.specs.View.{datum_of}
use Rattle.frame_variables.specs.Gives.{path_of, state_of}
use Rattle.code_steps.proofs.Setting.{no_slot, slot_set, there, not_there}
use Rattle.code_steps.proofs.loops.set_slot.Goals as goal

pub returns-then-not-has_slot : goal.returns-then-not-has_slot
returns-then-not-has_slot c = sym (no_slot c.args.run.now.frame c.args.slot (datum_of c.args.value) (not_there c.has_slot.result c.args.slot c.args.run.now.frame c.if-not-has_slot.true c.has_slot.ensures))

pub returns-in-Ok : goal.returns-in-Ok
returns-in-Ok c =
    slot_set c.args.slot (path_of c.new.result.items) (datum_of c.args.value) (state_of c.clear_run.new.run) (state_of c.store.new.run) c.args.run.now.frame (ap path_of c.new.ensures.items) c.clear_run.ensures
    (there c.has_slot.result c.args.slot c.args.run.now.frame c.if-not-has_slot.false c.has_slot.ensures) c.requires c.in-Ok.ensures.gives
