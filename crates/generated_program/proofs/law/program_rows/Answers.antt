-- The lines are computed.
use Rattle.std.proofs.Common.{refl}
use Rattle.std.specs.Fmt.{digits}
use Rattle.generated_program.proofs.law.program_rows.Goals as goal

pub returns-clause-adds : goal.returns-clause-adds
unfolding digits
returns-clause-adds c = refl

pub returns-clause-forks : goal.returns-clause-forks
unfolding digits
returns-clause-forks c = refl

pub returns-clause-takes : goal.returns-clause-takes
unfolding digits
returns-clause-takes c = refl
