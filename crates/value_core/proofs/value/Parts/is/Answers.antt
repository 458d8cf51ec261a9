use Rattle.value_core.proofs.Exact.{data_tested}
use Rattle.value_core.proofs.value.Parts.is.Goals as goal

pub returns : goal.returns
returns c = data_tested c.args.self.now c.args.other.now c.compare.result c.is_eq.result c.compare.ensures c.is_eq.ensures
