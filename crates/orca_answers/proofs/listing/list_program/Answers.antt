use Rattle.std.proofs.Common.{Ok, map, refl}
use Rattle.orca_base.specs.declared.refusal.NoMemory.{NoMemory}
use Rattle.orca_front.specs.Sources.{file_of}
use Rattle.orca_answers.specs.Endings as because
use Rattle.orca_answers.proofs.AnswerLemmas.{answer_of, files_listed, is_program_since, lists_none}
use Rattle.orca_answers.proofs.listing.list_program.Goals as goal

pub returns-in-Err-Because-clause-said : goal.returns-in-Err-Because-clause-said
returns-in-Err-Because-clause-said g c = λ policy words asked.
    c.said_unread.ensures.said policy words _ _ _ _ _ _ (files_listed words _ _ asked)
    (rw c.in-Err-Because.field-0-is (rw c.in-Err-Because.field-0-is at c.in-Err-Because.ensures.refused))

pub returns-in-Err-Because-program_listing-clause-said : goal.returns-in-Err-Because-program_listing-clause-said
returns-in-Err-Because-program_listing-clause-said g c = λ policy words asked.
    c.said_refused.ensures.said policy words _ _ _ _ _ _ (map file_of c.in-Ok.sources.items) (files_listed words _ _ asked) c.in-Ok.ensures.read (lists_none words _ _ _ (map file_of c.in-Ok.sources.items) _ _ asked c.in-Ok.ensures.had)
    (rw (c.deref.ensures.value, c.in-Err-Because-program_listing.field-0-is) at c.in-Err-Because-program_listing.ensures.refused)

pub returns-in-Ok-program_listing-clause-said : goal.returns-in-Ok-program_listing-clause-said
returns-in-Ok-program_listing-clause-said g c = λ policy words asked.
    let listed = rw c.deref.ensures.value at c.in-Ok-program_listing.ensures.listed in
    let text = c.in-Ok-program_listing.text.items in
    answer_of {E = NoMemory} (λ l. l.items) (Ok c.in-Ok-program_listing.text) policy words _ _ _ _ _ _ 0 _ text refl c.print_ending.ensures.printed c.print_ending.ensures.silent c.print_ending.ensures.status
    (because.listed _ _ listed.0 text asked (is_program_since _ _ (map file_of c.in-Ok.sources.items) listed.0 _ _ c.in-Ok.ensures.read listed.1 listed.2 c.in-Ok.ensures.had) listed.3)
