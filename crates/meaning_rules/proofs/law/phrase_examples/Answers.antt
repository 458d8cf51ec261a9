use Rattle.std.proofs.Common.{refl}
use Rattle.std.specs.Fmt.{digits}
use Rattle.meaning_rules.specs.Loops.{loop}
use Rattle.meaning_rules.proofs.law.phrase_examples.Goals as goal

pub returns-clause-phrases : goal.returns-clause-phrases
unfolding loop digits
returns-clause-phrases c = refl

pub returns-clause-two_indices : goal.returns-clause-two_indices
unfolding loop digits
returns-clause-two_indices c = refl

pub returns-clause-two_arguments : goal.returns-clause-two_arguments
unfolding loop digits
returns-clause-two_arguments c = refl

pub returns-clause-low_first : goal.returns-clause-low_first
unfolding loop digits
returns-clause-low_first c = refl

pub returns-clause-left_loops : goal.returns-clause-left_loops
unfolding loop digits
returns-clause-left_loops c = refl

pub returns-clause-two_large : goal.returns-clause-two_large
unfolding loop digits
returns-clause-two_large c = refl

pub returns-clause-too_deep : goal.returns-clause-too_deep
unfolding loop digits
returns-clause-too_deep c = refl

pub returns-clause-a_turn_less : goal.returns-clause-a_turn_less
unfolding loop digits
returns-clause-a_turn_less c = refl
