use Rattle.value_core.proofs.Exact.{values_tested}
use Rattle.value_core.proofs.value.Value.is.Goals as goal

pub returns : goal.returns
returns c = values_tested c.args.self.now c.args.other.now c.compare.result c.is_eq.result c.compare.ensures c.is_eq.ensures
