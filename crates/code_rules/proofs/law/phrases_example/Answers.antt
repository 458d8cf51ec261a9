use Rattle.std.proofs.Common.{refl}
use Rattle.std.specs.Fmt.{digits}
use Rattle.value_core.specs.Datum as datum
use Rattle.meaning_rules.specs.Programs.{main_text}
use Rattle.code_rules.specs.Correct.{IsStart}
use Rattle.code_rules.specs.PhrasesExample.{rows_program, rows_code}
use Rattle.code_rules.proofs.Program.{means_the_source}
use Rattle.code_rules.proofs.Resuming.{resumes}
use Rattle.code_rules.proofs.law.phrases_example.Goals as goal

is_start : IsStart rows_program (main_text rows_program) datum.none
is_start = record { of = _; parameters = _; block = _; there = refl; is = refl; given = refl }

pub returns-clause-starts : goal.returns-clause-starts
returns-clause-starts c = is_start

pub returns-clause-fill : goal.returns-clause-fill
unfolding digits
returns-clause-fill c = refl

pub returns-clause-forks : goal.returns-clause-forks
unfolding digits
returns-clause-forks c = refl

pub returns-clause-writes : goal.returns-clause-writes
unfolding digits
returns-clause-writes c = refl

pub returns-clause-faults : goal.returns-clause-faults
unfolding digits
returns-clause-faults c = refl

pub returns-clause-a_turn_less : goal.returns-clause-a_turn_less
unfolding digits
returns-clause-a_turn_less c = refl

pub returns-clause-paused : goal.returns-clause-paused
unfolding digits
returns-clause-paused c = refl

pub returns-clause-goes_on : goal.returns-clause-goes_on
unfolding digits
returns-clause-goes_on c = refl

pub returns-clause-goes_behind_the_reply : goal.returns-clause-goes_behind_the_reply
unfolding digits
returns-clause-goes_behind_the_reply c = refl

pub returns-clause-takes_a_fault : goal.returns-clause-takes_a_fault
unfolding digits
returns-clause-takes_a_fault c = refl

pub returns-clause-runs : goal.returns-clause-runs
unfolding digits
returns-clause-runs c = (_, (record { comes = refl }, refl))

pub returns-clause-stands : goal.returns-clause-stands
returns-clause-stands c = (resumes rows_program rows_code (means_the_source rows_program)).starts (main_text rows_program) (record { 0 = 0 }) datum.none is_start
