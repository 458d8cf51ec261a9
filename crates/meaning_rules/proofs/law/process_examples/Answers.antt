use Rattle.std.proofs.Common.{refl}
use Rattle.std.specs.Fmt.{digits}
use Rattle.meaning_rules.specs.Loops.{loop}
use Rattle.meaning_rules.proofs.law.process_examples.Goals as goal

pub returns-clause-empty_main : goal.returns-clause-empty_main
unfolding loop digits
returns-clause-empty_main c = refl

pub returns-clause-left_first : goal.returns-clause-left_first
unfolding loop digits
returns-clause-left_first c = refl

pub returns-clause-indices_first : goal.returns-clause-indices_first
unfolding loop digits
returns-clause-indices_first c = refl

pub returns-clause-right_side : goal.returns-clause-right_side
unfolding loop digits
returns-clause-right_side c = refl

pub returns-clause-bad_index : goal.returns-clause-bad_index
unfolding loop digits
returns-clause-bad_index c = refl

pub returns-clause-short_and : goal.returns-clause-short_and
unfolding loop digits
returns-clause-short_and c = refl

pub returns-clause-least_divided : goal.returns-clause-least_divided
unfolding loop digits
returns-clause-least_divided c = refl

pub returns-clause-least_remainder : goal.returns-clause-least_remainder
unfolding loop digits
returns-clause-least_remainder c = refl

pub returns-clause-element_first : goal.returns-clause-element_first
unfolding loop digits
returns-clause-element_first c = refl

pub returns-clause-texts : goal.returns-clause-texts
unfolding loop digits
returns-clause-texts c = refl

pub returns-clause-least_element : goal.returns-clause-least_element
unfolding loop digits
returns-clause-least_element c = refl

pub returns-clause-records : goal.returns-clause-records
unfolding loop digits
returns-clause-records c = refl

pub returns-clause-nodes : goal.returns-clause-nodes
unfolding loop digits
returns-clause-nodes c = refl

pub returns-clause-three_rounds : goal.returns-clause-three_rounds
unfolding loop digits
returns-clause-three_rounds c = refl

pub returns-clause-a_round_more : goal.returns-clause-a_round_more
unfolding loop digits
returns-clause-a_round_more c = refl

pub returns-clause-three_until : goal.returns-clause-three_until
unfolding loop digits
returns-clause-three_until c = refl

pub returns-clause-an_until_more : goal.returns-clause-an_until_more
unfolding loop digits
returns-clause-an_until_more c = refl

pub returns-clause-once : goal.returns-clause-once
unfolding loop digits
returns-clause-once c = refl

pub returns-clause-counting : goal.returns-clause-counting
unfolding loop digits
returns-clause-counting c = refl

pub returns-clause-handed_back : goal.returns-clause-handed_back
unfolding loop digits
returns-clause-handed_back c = refl

pub returns-clause-no_return : goal.returns-clause-no_return
unfolding loop digits
returns-clause-no_return c = refl

pub returns-clause-left_by_return : goal.returns-clause-left_by_return
unfolding loop digits
returns-clause-left_by_return c = refl

pub returns-clause-of_another_module : goal.returns-clause-of_another_module
unfolding loop digits
returns-clause-of_another_module c = refl

pub returns-clause-forks : goal.returns-clause-forks
unfolding loop digits
returns-clause-forks c = refl

pub returns-clause-forks_again : goal.returns-clause-forks_again
unfolding loop digits
returns-clause-forks_again c = refl

pub returns-clause-forks_badly : goal.returns-clause-forks_badly
unfolding loop digits
returns-clause-forks_badly c = refl

pub returns-clause-down : goal.returns-clause-down
unfolding loop digits
returns-clause-down c = refl
