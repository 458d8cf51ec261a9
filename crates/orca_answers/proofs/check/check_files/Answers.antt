use Rattle.std.proofs.Common.{map}
use Rattle.orca_front.specs.Sources.{file_of}
use Rattle.orca_answers.specs.Endings as because
use Rattle.orca_answers.specs.Lines as lines
use Rattle.orca_answers.proofs.AnswerLemmas.{answer_of, files_checked, has_none, is_program_since}
use Rattle.orca_answers.proofs.check.check_files.Goals as goal

pub returns-in-Err-Because-clause-said : goal.returns-in-Err-Because-clause-said
returns-in-Err-Because-clause-said g c = λ policy words asked.
    c.said_unread.ensures.said policy words _ _ _ _ _ _ (files_checked words _ asked) (rw c.in-Err-Because.field-0-is at c.in-Err-Because.ensures.refused)

pub returns-in-Ok-judged_sources-clause-said : goal.returns-in-Ok-judged_sources-clause-said
returns-in-Ok-judged_sources-clause-said g c = λ policy words asked.
    let accepted = rw c.deref.ensures.value at c.in-Ok-judged_sources.ensures.accepted in
    answer_of (λ l. l.items) c.ok_line.result policy words _ _ _ _ _ _ 0 _ lines.ok_line c.ok_line.ensures c.print_ending.ensures.printed c.print_ending.ensures.silent c.print_ending.ensures.status
    (because.accepted _ accepted.0 asked (is_program_since _ _ (map file_of c.in-Ok.sources.items) accepted.0 _ _ c.in-Ok.ensures.read accepted.1 accepted.2 c.in-Ok.ensures.had))

pub returns-in-Err-Because-judged_sources-clause-said : goal.returns-in-Err-Because-judged_sources-clause-said
returns-in-Err-Because-judged_sources-clause-said g c = λ policy words asked.
    c.said_refused.ensures.said policy words _ _ _ _ _ _ (map file_of c.in-Ok.sources.items) (files_checked words _ asked) c.in-Ok.ensures.read (has_none words _ _ (map file_of c.in-Ok.sources.items) _ _ asked c.in-Ok.ensures.had) (rw (c.deref.ensures.value, c.in-Err-Because-judged_sources.field-0-is) at c.in-Err-Because-judged_sources.ensures.refused)
