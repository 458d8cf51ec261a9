use Rattle.value_bytes.proofs.Facts.{one_value, spelled_length}
use Rattle.value_bytes.proofs.laws.spelling_law.Goals as goal

pub returns-clause-prefix : goal.returns-clause-prefix
returns-clause-prefix c = λ v w behind more sound other same. one_value v w behind more sound other same

pub returns-clause-length : goal.returns-clause-length
returns-clause-length c = λ v. spelled_length v
