-- Each computes.
use Rattle.std.proofs.Common.{refl}
use Rattle.fault_scripts.specs.Words.{kinds_of, number_in, number_of, verb_of, which_of}
use Rattle.fault_scripts.specs.Reading.{count_at, fate_line, member_at, next, over, packets_at, said_at, seed_line, sized_at, swap_line}
use Rattle.fault_scripts.proofs.law.form_examples.Goals as goal

pub returns-clause-drops : goal.returns-clause-drops
unfolding kinds_of number_in number_of verb_of which_of count_at fate_line member_at next over packets_at said_at seed_line sized_at swap_line
returns-clause-drops c = refl

pub returns-clause-twice : goal.returns-clause-twice
unfolding kinds_of number_in number_of verb_of which_of count_at fate_line member_at next over packets_at said_at seed_line sized_at swap_line
returns-clause-twice c = refl

pub returns-clause-holds : goal.returns-clause-holds
unfolding kinds_of number_in number_of verb_of which_of count_at fate_line member_at next over packets_at said_at seed_line sized_at swap_line
returns-clause-holds c = refl

pub returns-clause-cuts : goal.returns-clause-cuts
unfolding kinds_of number_in number_of verb_of which_of count_at fate_line member_at next over packets_at said_at seed_line sized_at swap_line
returns-clause-cuts c = refl

pub returns-clause-crash : goal.returns-clause-crash
unfolding kinds_of number_in number_of verb_of which_of count_at fate_line member_at next over packets_at said_at seed_line sized_at swap_line
returns-clause-crash c = refl

pub returns-clause-suspect : goal.returns-clause-suspect
unfolding kinds_of number_in number_of verb_of which_of count_at fate_line member_at next over packets_at said_at seed_line sized_at swap_line
returns-clause-suspect c = refl

pub returns-clause-swap : goal.returns-clause-swap
unfolding kinds_of number_in number_of verb_of which_of count_at fate_line member_at next over packets_at said_at seed_line sized_at swap_line
returns-clause-swap c = refl

pub returns-clause-seed : goal.returns-clause-seed
unfolding kinds_of number_in number_of verb_of which_of count_at fate_line member_at next over packets_at said_at seed_line sized_at swap_line
returns-clause-seed c = refl

pub returns-clause-greatest : goal.returns-clause-greatest
unfolding kinds_of number_in number_of verb_of which_of count_at fate_line member_at next over packets_at said_at seed_line sized_at swap_line
returns-clause-greatest c = refl
