use Rattle.std.proofs.Common.{refl}
use Rattle.std.specs.Fmt.{digits}
use Rattle.meaning_rules.specs.Loops.{loop}
use Rattle.meaning_rules.proofs.law.value_examples.Goals as goal

pub returns-clause-longest : goal.returns-clause-longest
unfolding loop digits
returns-clause-longest c = refl

pub returns-clause-too_long : goal.returns-clause-too_long
unfolding loop digits
returns-clause-too_long c = refl

pub returns-clause-largest : goal.returns-clause-largest
unfolding loop digits
returns-clause-largest c = refl

pub returns-clause-too_large : goal.returns-clause-too_large
unfolding loop digits
returns-clause-too_large c = refl

pub returns-clause-handed_back : goal.returns-clause-handed_back
unfolding loop digits
returns-clause-handed_back c = refl
