use Rattle.std.proofs.Common.{refl}
use Rattle.std.specs.Fmt.{digits}
use Rattle.replica_choice.proofs.examples.choice_examples.Goals as goal

pub returns-clause-three : goal.returns-clause-three
unfolding digits
returns-clause-three c = refl

pub returns-clause-five : goal.returns-clause-five
unfolding digits
returns-clause-five c = refl
