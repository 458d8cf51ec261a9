use Rattle.std.proofs.Common.{◌<◌, ◌∙◌, arith, length}
use Rattle.value_core.specs.Datum.{list_of}
use Rattle.frame_variables.proofs.Fronts.{copied_more}
use Rattle.frame_variables.proofs.frame.add_copies.Goals as goal

pub values-preserved : goal.values-preserved
values-preserved c =
    let low : c.values.value-index < length c.args.values.now = omega (arith, c.values-test.true) in
    copied_more (list_of c.values.all) (list_of c.push.new.self) c.args.values.now c.values.value-index c.value-item.result c.in_ok-copy.field-0 low c.value-item.is (c.in_ok-copy.ensures {u = tt}) (c.in_ok-push.ensures {u = tt}).ok
    ∙ c.values.invariant
