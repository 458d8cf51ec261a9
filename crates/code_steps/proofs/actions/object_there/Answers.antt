use Rattle.value_core.specs.View.{datum_of}
use Rattle.code_steps.proofs.Acting.{object_none, object_there}
use Rattle.code_steps.proofs.actions.object_there.Goals as goal

pub returns-in-Some : goal.returns-in-Some
returns-in-Some c = object_there c.args.slot c.args.run.now.frame (datum_of c.in-Some.value.now) c.object_of.result c.in-Some.ensures c.object_of.ensures

pub returns-in-None : goal.returns-in-None
returns-in-None c = object_none c.args.slot c.args.run.now.frame c.in-None.ensures
