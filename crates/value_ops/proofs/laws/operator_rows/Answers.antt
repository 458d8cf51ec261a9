use Rattle.std.proofs.Common.{refl}
use Rattle.std.specs.Fmt.{digits}
use Rattle.value_ops.proofs.laws.operator_rows.Goals as goal

pub returns-clause-told_least : goal.returns-clause-told_least
unfolding digits
returns-clause-told_least c = refl
