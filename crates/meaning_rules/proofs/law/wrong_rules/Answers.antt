use Rattle.std.proofs.Common.{refl}
use Rattle.std.specs.Fmt.{digits}
use Rattle.meaning_rules.specs.Loops.{loop}
use Rattle.meaning_rules.proofs.law.wrong_rules.Goals as goal

pub returns-clause-indices_first : goal.returns-clause-indices_first
unfolding loop digits
returns-clause-indices_first c = refl

pub returns-clause-right_side_first : goal.returns-clause-right_side_first
unfolding loop digits
returns-clause-right_side_first c = refl

pub returns-clause-short : goal.returns-clause-short
unfolding loop digits
returns-clause-short c = refl

pub returns-clause-both_operands : goal.returns-clause-both_operands
unfolding loop digits
returns-clause-both_operands c = refl

pub returns-clause-counts : goal.returns-clause-counts
unfolding loop digits
returns-clause-counts c = refl

pub returns-clause-variable_stays : goal.returns-clause-variable_stays
unfolding loop digits
returns-clause-variable_stays c = refl

pub returns-clause-bound_once : goal.returns-clause-bound_once
unfolding loop digits
returns-clause-bound_once c = refl

pub returns-clause-bound_in_each_round : goal.returns-clause-bound_in_each_round
unfolding loop digits
returns-clause-bound_in_each_round c = refl

pub returns-clause-least : goal.returns-clause-least
unfolding loop digits
returns-clause-least c = refl

pub returns-clause-takes_greatest : goal.returns-clause-takes_greatest
unfolding loop digits
returns-clause-takes_greatest c = refl

pub returns-clause-fault_keeps_none : goal.returns-clause-fault_keeps_none
unfolding loop digits
returns-clause-fault_keeps_none c = refl

pub returns-clause-fault_keeps_half : goal.returns-clause-fault_keeps_half
unfolding loop digits
returns-clause-fault_keeps_half c = refl
