-- Each computes.
use Rattle.std.proofs.Common.{refl}
use Rattle.fault_scripts.specs.Words.{kinds_of, number_in, number_of, verb_of, which_of}
use Rattle.fault_scripts.specs.Reading.{count_at, fate_line, member_at, next, over, packets_at, said_at, seed_line, sized_at, swap_line}
use Rattle.fault_scripts.proofs.law.refusal_examples.Goals as goal

pub returns-clause-verb : goal.returns-clause-verb
unfolding kinds_of number_in number_of verb_of which_of count_at fate_line member_at next over packets_at said_at seed_line sized_at swap_line
returns-clause-verb c = refl

pub returns-clause-number : goal.returns-clause-number
unfolding kinds_of number_in number_of verb_of which_of count_at fate_line member_at next over packets_at said_at seed_line sized_at swap_line
returns-clause-number c = refl

pub returns-clause-spaces : goal.returns-clause-spaces
unfolding kinds_of number_in number_of verb_of which_of count_at fate_line member_at next over packets_at said_at seed_line sized_at swap_line
returns-clause-spaces c = refl

pub returns-clause-left : goal.returns-clause-left
unfolding kinds_of number_in number_of verb_of which_of count_at fate_line member_at next over packets_at said_at seed_line sized_at swap_line
returns-clause-left c = refl

pub returns-clause-missing_kind : goal.returns-clause-missing_kind
unfolding kinds_of number_in number_of verb_of which_of count_at fate_line member_at next over packets_at said_at seed_line sized_at swap_line
returns-clause-missing_kind c = refl

pub returns-clause-missing_number : goal.returns-clause-missing_number
unfolding kinds_of number_in number_of verb_of which_of count_at fate_line member_at next over packets_at said_at seed_line sized_at swap_line
returns-clause-missing_number c = refl

pub returns-clause-many : goal.returns-clause-many
unfolding kinds_of number_in number_of verb_of which_of count_at fate_line member_at next over packets_at said_at seed_line sized_at swap_line
returns-clause-many c = refl

pub returns-clause-zero : goal.returns-clause-zero
unfolding kinds_of number_in number_of verb_of which_of count_at fate_line member_at next over packets_at said_at seed_line sized_at swap_line
returns-clause-zero c = refl

pub returns-clause-all_acts : goal.returns-clause-all_acts
unfolding kinds_of number_in number_of verb_of which_of count_at fate_line member_at next over packets_at said_at seed_line sized_at swap_line
returns-clause-all_acts c = refl

pub returns-clause-member : goal.returns-clause-member
unfolding kinds_of number_in number_of verb_of which_of count_at fate_line member_at next over packets_at said_at seed_line sized_at swap_line
returns-clause-member c = refl

pub returns-clause-percent : goal.returns-clause-percent
unfolding kinds_of number_in number_of verb_of which_of count_at fate_line member_at next over packets_at said_at seed_line sized_at swap_line
returns-clause-percent c = refl

pub returns-clause-seed : goal.returns-clause-seed
unfolding kinds_of number_in number_of verb_of which_of count_at fate_line member_at next over packets_at said_at seed_line sized_at swap_line
returns-clause-seed c = refl

pub returns-clause-ticks : goal.returns-clause-ticks
unfolding kinds_of number_in number_of verb_of which_of count_at fate_line member_at next over packets_at said_at seed_line sized_at swap_line
returns-clause-ticks c = refl

pub returns-clause-digits : goal.returns-clause-digits
unfolding kinds_of number_in number_of verb_of which_of count_at fate_line member_at next over packets_at said_at seed_line sized_at swap_line
returns-clause-digits c = refl

pub returns-clause-sign : goal.returns-clause-sign
unfolding kinds_of number_in number_of verb_of which_of count_at fate_line member_at next over packets_at said_at seed_line sized_at swap_line
returns-clause-sign c = refl

pub returns-clause-again : goal.returns-clause-again
unfolding kinds_of number_in number_of verb_of which_of count_at fate_line member_at next over packets_at said_at seed_line sized_at swap_line
returns-clause-again c = refl
