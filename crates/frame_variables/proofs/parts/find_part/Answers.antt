use Rattle.std.proofs.Common.{◌<◌, arith, length}
use Rattle.value_core.specs.View.{datum_of}
use Rattle.frame_variables.proofs.Walking.{leads_on, ordered_on}
use Rattle.frame_variables.proofs.parts.find_part.Goals as goal

pub path-preserved : goal.path-preserved
path-preserved c =
    let leads = c.in_ok-at.ensures {u = tt} in
    let low : c.path.step-index < length c.args.path.now = omega (arith, c.path-test.true) in
    record {
      leads = leads_on c.args.path.now c.path.step-index _ (datum_of c.path.at.now) (datum_of c.in_ok-at.at.now) (datum_of c.args.value.now) low leads c.path.invariant.leads;
      ordered = λ t. ordered_on c.args.path.now c.path.step-index _ (datum_of c.path.at.now) (datum_of c.in_ok-at.at.now) leads (c.path.invariant.ordered t);
    }
