use Rattle.std.proofs.Common.{refl}
use Rattle.std.specs.Fmt.{digits}
use Rattle.meaning_rules.specs.Loops.{loop}
use Rattle.meaning_rules.proofs.law.class_examples.Goals as goal

pub returns-clause-own_variable : goal.returns-clause-own_variable
unfolding loop digits
returns-clause-own_variable c = refl

pub returns-clause-lent : goal.returns-clause-lent
unfolding loop digits
returns-clause-lent c = refl

pub returns-clause-taken : goal.returns-clause-taken
unfolding loop digits
returns-clause-taken c = refl

pub returns-clause-shown : goal.returns-clause-shown
unfolding loop digits
returns-clause-shown c = refl

pub returns-clause-sets : goal.returns-clause-sets
unfolding loop digits
returns-clause-sets c = refl

pub returns-clause-inserts : goal.returns-clause-inserts
unfolding loop digits
returns-clause-inserts c = refl

pub returns-clause-deletes : goal.returns-clause-deletes
unfolding loop digits
returns-clause-deletes c = refl

pub returns-clause-adds : goal.returns-clause-adds
unfolding loop digits
returns-clause-adds c = refl

pub returns-clause-frees : goal.returns-clause-frees
unfolding loop digits
returns-clause-frees c = refl

pub returns-clause-counts : goal.returns-clause-counts
unfolding loop digits
returns-clause-counts c = refl
