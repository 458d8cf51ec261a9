use Rattle.std.proofs.Common.{ap}
use Rattle.std.proofs.lemmas.Result.{IfOk-weaker}
use Rattle.value_core.specs.View.{datum_of}
use Rattle.frame_variables.specs.Gives.{path_of, state_of}
use Rattle.code_steps.proofs.Setting.{puts_changed}
use Rattle.code_steps.proofs.variables.put_whole.Goals as goal

pub returns : goal.returns
returns c =
    IfOk-weaker c.changed.result _ _
    (λ a h. puts_changed c.args.slot (path_of c.new.result.items) (datum_of c.args.value) c.args.run.now.frame (state_of c.clear_run.new.run) (state_of c.store.new.run) a c.store.result
    (ap path_of c.new.ensures.items) c.clear_run.ensures c.store.ensures.gives h)
    c.changed.ensures
