use Rattle.std.proofs.Common.{refl}
use Rattle.std.specs.Fmt.{digits}
use Rattle.choice_command.proofs.examples.line_examples.Goals as goal

pub returns-clause-three : goal.returns-clause-three
unfolding digits
returns-clause-three c = refl

pub returns-clause-five : goal.returns-clause-five
unfolding digits
returns-clause-five c = refl

pub returns-clause-pool : goal.returns-clause-pool
unfolding digits
returns-clause-pool c = refl

pub returns-clause-always : goal.returns-clause-always
unfolding digits
returns-clause-always c = refl

pub returns-clause-listed : goal.returns-clause-listed
unfolding digits
returns-clause-listed c = refl
