use Rattle.orca_answers.specs.Endings as because
use Rattle.orca_answers.specs.Lines as lines
use Rattle.command_files.proofs.AskedFiles.{asked_none}
use Rattle.orca_answers.proofs.AnswerLemmas.{answer_of, asked_words, deed_is, deed_none, within_is}
use Rattle.orca_cli.proofs.top.orca_main_over.Goals as goal

pub returns-in-Ok-Some-Says-clause-refused : goal.returns-in-Ok-Some-Says-clause-refused
returns-in-Ok-Some-Says-clause-refused g c =
    rw c.unkept.ensures (answer_of (λ l. l.items) c.whole.result _ _ _ _ _ _ _ _ 0 _ c.in-Ok-Some-Says.text.now c.whole.ensures c.print_ending.ensures.printed c.print_ending.ensures.silent c.print_ending.ensures.status (because.said c.in-Ok-Some-Says.text.now (deed_is _ _ _ _ c.in-Ok-Some-Says.ensures.is c.in-Ok-Some-Says.field-0-is c.in-Ok-Some-Says.field-0-0-is)))

pub returns-in-Ok-None-clause-refused : goal.returns-in-Ok-None-clause-refused
returns-in-Ok-None-clause-refused g c =
    rw c.unkept-in-Ok-None.ensures (answer_of (λ l. l.items) c.usage_line.result _ _ _ _ _ _ _ _ 2 _ lines.usage_line c.usage_line.ensures c.print_ending-in-Ok-None.ensures.printed c.print_ending-in-Ok-None.ensures.silent c.print_ending-in-Ok-None.ensures.status (because.usage (deed_none _ _ c.in-Ok-None.ensures.is c.in-Ok-None.field-0-is)))

pub returns-in-Ok-Some-Replays-clause-refused : goal.returns-in-Ok-Some-Replays-clause-refused
returns-in-Ok-Some-Replays-clause-refused g c =
    rw c.unkept-in-Ok-Some-Replays.ensures ((rw c.deref-in-Ok-Some-Replays.ensures.value at c.replay_history.ensures.said) _ _ (deed_is _ _ _ _ c.in-Ok-Some-Replays.ensures.is c.in-Ok-Some-Replays.field-0-is c.in-Ok-Some-Replays.field-0-0-is))

pub returns-in-Ok-Some-Lists-clause-refused : goal.returns-in-Ok-Some-Lists-clause-refused
returns-in-Ok-Some-Lists-clause-refused g c =
    rw c.unkept-in-Ok-Some-Lists.ensures ((rw c.deref-in-Ok-Some-Lists.ensures.value at c.list_program.ensures.said) _ _ (deed_is _ _ _ _ c.in-Ok-Some-Lists.ensures.is c.in-Ok-Some-Lists.field-0-is c.in-Ok-Some-Lists.field-0-0-is))

pub returns-in-Ok-Some-Checks-clause-refused : goal.returns-in-Ok-Some-Checks-clause-refused
returns-in-Ok-Some-Checks-clause-refused g c =
    rw c.unkept-in-Ok-Some-Checks.ensures ((rw c.deref.ensures.value at c.check_files.ensures.said) _ _ (deed_is _ _ _ _ c.in-Ok-Some-Checks.ensures.is c.in-Ok-Some-Checks.field-0-is c.in-Ok-Some-Checks.field-0-0-is))

pub returns-in-Ok-Some-Chooses-clause-refused : goal.returns-in-Ok-Some-Chooses-clause-refused
returns-in-Ok-Some-Chooses-clause-refused g c =
    rw c.unkept-in-Ok-Some-Chooses.ensures ((rw c.deref-in-Ok-Some-Chooses.ensures.value at c.choose_files.ensures.said) _ (deed_is _ _ _ _ c.in-Ok-Some-Chooses.ensures.is c.in-Ok-Some-Chooses.field-0-is c.in-Ok-Some-Chooses.field-0-0-is))

pub run_files-requires-clause-options : goal.run_files-requires-clause-options
run_files-requires-clause-options g c = within_is _ _ _ c.in-Ok-Some-Runs.ensures.within c.in-Ok-Some-Runs.field-0-is c.in-Ok-Some-Runs.field-0-0-is

pub returns-in-Ok-Some-Runs-clause-refused : goal.returns-in-Ok-Some-Runs-clause-refused
returns-in-Ok-Some-Runs-clause-refused g c =
    (rw c.deref-in-Ok-Some-Runs.ensures.value at c.run_files.ensures.refused) _ (deed_is _ _ _ _ c.in-Ok-Some-Runs.ensures.is c.in-Ok-Some-Runs.field-0-is c.in-Ok-Some-Runs.field-0-0-is)

pub returns-in-Ok-Some-Runs-clause-untouched : goal.returns-in-Ok-Some-Runs-clause-untouched
returns-in-Ok-Some-Runs-clause-untouched g c =
    (rw c.deref-in-Ok-Some-Runs.ensures.value at c.run_files.ensures.untouched) _ (deed_is _ _ _ _ c.in-Ok-Some-Runs.ensures.is c.in-Ok-Some-Runs.field-0-is c.in-Ok-Some-Runs.field-0-0-is)

pub returns-in-Ok-Some-Runs-clause-headline : goal.returns-in-Ok-Some-Runs-clause-headline
returns-in-Ok-Some-Runs-clause-headline g c =
    (rw c.deref-in-Ok-Some-Runs.ensures.value at c.run_files.ensures.kept) _ (deed_is _ _ _ _ c.in-Ok-Some-Runs.ensures.is c.in-Ok-Some-Runs.field-0-is c.in-Ok-Some-Runs.field-0-0-is)

pub returns-in-Ok-Some-Shows-clause-refused : goal.returns-in-Ok-Some-Shows-clause-refused
returns-in-Ok-Some-Shows-clause-refused g c =
    rw c.unkept-in-Ok-Some-Shows.ensures (c.show_program.ensures.said _ _ _ _ _ _ _ (deed_is _ _ _ _ c.in-Ok-Some-Shows.ensures.is c.in-Ok-Some-Shows.field-0-is c.in-Ok-Some-Shows.field-0-0-is))

pub run_made-requires-clause-options : goal.run_made-requires-clause-options
run_made-requires-clause-options g c = within_is _ _ _ c.in-Ok-Some-Makes.ensures.within c.in-Ok-Some-Makes.field-0-is c.in-Ok-Some-Makes.field-0-0-is

pub returns-in-Ok-Some-Makes-clause-refused : goal.returns-in-Ok-Some-Makes-clause-refused
returns-in-Ok-Some-Makes-clause-refused g c =
    c.run_made.ensures.refused _ _ _ _ _ (deed_is _ _ _ _ c.in-Ok-Some-Makes.ensures.is c.in-Ok-Some-Makes.field-0-is c.in-Ok-Some-Makes.field-0-0-is)

pub returns-in-Ok-Some-Makes-clause-untouched : goal.returns-in-Ok-Some-Makes-clause-untouched
returns-in-Ok-Some-Makes-clause-untouched g c =
    c.run_made.ensures.untouched _ _ _ (deed_is _ _ _ _ c.in-Ok-Some-Makes.ensures.is c.in-Ok-Some-Makes.field-0-is c.in-Ok-Some-Makes.field-0-0-is)

pub returns-in-Ok-Some-Makes-clause-headline : goal.returns-in-Ok-Some-Makes-clause-headline
returns-in-Ok-Some-Makes-clause-headline g c =
    c.run_made.ensures.kept _ _ _ (deed_is _ _ _ _ c.in-Ok-Some-Makes.ensures.is c.in-Ok-Some-Makes.field-0-is c.in-Ok-Some-Makes.field-0-0-is)

pub returns-in-Ok-Some-Shows-clause-asked : goal.returns-in-Ok-Some-Shows-clause-asked
returns-in-Ok-Some-Shows-clause-asked g c = asked_none _ _ _

pub returns-in-Ok-Some-Makes-clause-asked : goal.returns-in-Ok-Some-Makes-clause-asked
returns-in-Ok-Some-Makes-clause-asked g c = asked_none _ _ _

pub returns-in-Ok-Some-Says-clause-asked : goal.returns-in-Ok-Some-Says-clause-asked
returns-in-Ok-Some-Says-clause-asked g c = asked_none _ _ _

pub returns-in-Ok-None-clause-asked : goal.returns-in-Ok-None-clause-asked
returns-in-Ok-None-clause-asked g c = asked_none _ _ _

pub returns-in-Err-clause-asked : goal.returns-in-Err-clause-asked
returns-in-Err-clause-asked g c = asked_none _ _ _

pub returns-in-Ok-Some-Checks-clause-asked : goal.returns-in-Ok-Some-Checks-clause-asked
returns-in-Ok-Some-Checks-clause-asked g c =
    asked_words _ _ _ _ _ (deed_is _ _ _ _ c.in-Ok-Some-Checks.ensures.is c.in-Ok-Some-Checks.field-0-is c.in-Ok-Some-Checks.field-0-0-is) (rw c.deref.ensures.value at c.check_files.ensures.asked)

pub returns-in-Ok-Some-Runs-clause-asked : goal.returns-in-Ok-Some-Runs-clause-asked
returns-in-Ok-Some-Runs-clause-asked g c =
    asked_words _ _ _ _ _ (deed_is _ _ _ _ c.in-Ok-Some-Runs.ensures.is c.in-Ok-Some-Runs.field-0-is c.in-Ok-Some-Runs.field-0-0-is) (rw c.deref-in-Ok-Some-Runs.ensures.value at c.run_files.ensures.asked)

pub returns-in-Ok-Some-Replays-clause-asked : goal.returns-in-Ok-Some-Replays-clause-asked
returns-in-Ok-Some-Replays-clause-asked g c =
    asked_words _ _ _ _ _ (deed_is _ _ _ _ c.in-Ok-Some-Replays.ensures.is c.in-Ok-Some-Replays.field-0-is c.in-Ok-Some-Replays.field-0-0-is) (rw c.deref-in-Ok-Some-Replays.ensures.value at c.replay_history.ensures.asked)

pub returns-in-Ok-Some-Lists-clause-asked : goal.returns-in-Ok-Some-Lists-clause-asked
returns-in-Ok-Some-Lists-clause-asked g c =
    asked_words _ _ _ _ _ (deed_is _ _ _ _ c.in-Ok-Some-Lists.ensures.is c.in-Ok-Some-Lists.field-0-is c.in-Ok-Some-Lists.field-0-0-is) (rw c.deref-in-Ok-Some-Lists.ensures.value at c.list_program.ensures.asked)

pub returns-in-Ok-Some-Chooses-clause-asked : goal.returns-in-Ok-Some-Chooses-clause-asked
returns-in-Ok-Some-Chooses-clause-asked g c =
    asked_words _ _ _ _ _ (deed_is _ _ _ _ c.in-Ok-Some-Chooses.ensures.is c.in-Ok-Some-Chooses.field-0-is c.in-Ok-Some-Chooses.field-0-0-is) (rw c.deref-in-Ok-Some-Chooses.ensures.value at c.choose_files.ensures.asked)
