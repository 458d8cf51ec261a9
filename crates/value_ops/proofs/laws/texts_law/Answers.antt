use Rattle.value_ops.proofs.Codes.{told_codes}
use Rattle.value_ops.proofs.laws.texts_law.Goals as goal

pub returns-clause-told_codes : goal.returns-clause-told_codes
returns-clause-told_codes c = told_codes
