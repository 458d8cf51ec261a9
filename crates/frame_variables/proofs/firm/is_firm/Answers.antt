use Rattle.std.proofs.Common.{◌<◌, arith, length}
use Rattle.value_core.specs.View.{datum_of}
use Rattle.frame_variables.proofs.Walking.{firm_on, ordered_on}
use Rattle.frame_variables.proofs.firm.is_firm.Goals as goal

pub path-preserved : goal.path-preserved
path-preserved c =
    let here = (c.in-Some.ensures {u = tt}).firm in
    let leads = (c.in-Some.ensures {u = tt}).leads in
    let low : c.path.step-index < length c.args.path.now = omega (arith, c.path-test.true) in
    record {
      firm = λ rest. c.path.invariant.firm (firm_on c.args.path.now c.path.step-index _ (datum_of c.path.at.now) (datum_of c.in-Some.part.now) low here leads rest);
      ordered = λ t. ordered_on c.args.path.now c.path.step-index _ (datum_of c.path.at.now) (datum_of c.in-Some.part.now) leads (c.path.invariant.ordered t);
    }
