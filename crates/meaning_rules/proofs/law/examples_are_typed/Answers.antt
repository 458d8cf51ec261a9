use Rattle.std.proofs.Common.{refl}
use Rattle.std.specs.Fmt.{digits}
use Rattle.meaning_rules.specs.Loops.{loop}
use Rattle.meaning_rules.proofs.law.examples_are_typed.Goals as goal

pub returns-clause-processes : goal.returns-clause-processes
unfolding loop digits
returns-clause-processes c = refl

pub returns-clause-phrases : goal.returns-clause-phrases
unfolding loop digits
returns-clause-phrases c = refl

pub returns-clause-objects : goal.returns-clause-objects
unfolding loop digits
returns-clause-objects c = refl

pub returns-clause-wrong : goal.returns-clause-wrong
unfolding loop digits
returns-clause-wrong c = refl
