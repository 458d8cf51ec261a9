use Rattle.value_ops.proofs.Division.{divides, quotient_faults, quotient_over, remainder_faults, remainder_over}
use Rattle.value_ops.proofs.laws.integers_law.Goals as goal

pub returns-clause-quotient_above : goal.returns-clause-quotient_above
returns-clause-quotient_above c = quotient_over

pub returns-clause-remainder_above : goal.returns-clause-remainder_above
returns-clause-remainder_above c = remainder_over

pub returns-clause-quotient_faults : goal.returns-clause-quotient_faults
returns-clause-quotient_faults c = quotient_faults

pub returns-clause-remainder_faults : goal.returns-clause-remainder_faults
returns-clause-remainder_faults c = remainder_faults

pub returns-clause-divides : goal.returns-clause-divides
returns-clause-divides c = divides
