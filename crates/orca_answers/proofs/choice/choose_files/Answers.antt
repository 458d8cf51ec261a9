use Rattle.std.proofs.Common.{inr, map, refl}
use Rattle.orca_front.specs.Sources.{file_of}
use Rattle.orca_answers.specs.Choosing.{chooser_of}
use Rattle.orca_answers.proofs.AnswerLemmas.{chooses_none, chosen_answer, files_chosen, first_asked, is_program_since, lacked, told_same}
use Rattle.orca_answers.proofs.choice.choose_files.Goals as goal

pub returns-in-Err-Because-clause-said : goal.returns-in-Err-Because-clause-said
returns-in-Err-Because-clause-said g c = λ words asked.
    c.said_unread.ensures.said (chooser_of g.P.Policy.rule g.P.Policy.told c.args.policy.now) words _ _ _ _ _ _ (files_chosen words _ _ asked)
    (rw c.in-Err-Because.field-0-is at c.in-Err-Because.ensures.refused)

pub returns-in-Err-NoMemory-clause-said : goal.returns-in-Err-NoMemory-clause-said
returns-in-Err-NoMemory-clause-said g c = λ words asked. lacked (chooser_of g.P.Policy.rule g.P.Policy.told c.args.policy.now) words _ _ _ _ _ _ refl

pub returns-in-Err-Because-program_choices-clause-said : goal.returns-in-Err-Because-program_choices-clause-said
returns-in-Err-Because-program_choices-clause-said g c = λ words asked.
    told_same (chooser_of g.P.Policy.rule g.P.Policy.told c.args.policy.now) words _ _ _ _ _ _ _ _ (rw c.in-Err-Because-program_choices.field-0-is at c.in-Err-Because-program_choices.ensures.unasked)
    (c.said_refused.ensures.said (chooser_of g.P.Policy.rule g.P.Policy.told c.args.policy.now) words _ _ _ _ _ _ (map file_of c.in-Ok.sources.items) (files_chosen words _ _ asked) c.in-Ok.ensures.read
    (chooses_none words _ _ _ (map file_of c.in-Ok.sources.items) _ _ asked c.in-Ok.ensures.had)
    (rw (c.deref.ensures.value, c.in-Err-Because-program_choices.field-0-is) at c.in-Err-Because-program_choices.ensures.refused))

pub returns-clause-said : goal.returns-clause-said
returns-clause-said g c = λ words asked.
    inr (
      refl,
      refl,
      first_asked words _ (chooser_of g.P.Policy.rule g.P.Policy.told c.args.policy.now) _ _ (map file_of c.in-Ok.sources.items) _ _ _ asked c.in-Ok.ensures.read c.in-Ok.ensures.had
          (rw c.deref.ensures.value at c.in-Err-NoMemory-program_choices.ensures.first),
    )

pub returns-in-Ok-program_choices-clause-said : goal.returns-in-Ok-program_choices-clause-said
returns-in-Ok-program_choices-clause-said g c = λ words asked.
    let chosen = rw c.deref.ensures.value at c.in-Ok-program_choices.ensures.chosen in
    chosen_answer (chooser_of g.P.Policy.rule g.P.Policy.told c.args.policy.now) words _ _ _ _ _ _ _ _ _ chosen.0 c.in-Ok-program_choices.text.items _ asked
    (is_program_since _ _ (map file_of c.in-Ok.sources.items) chosen.0 _ _ c.in-Ok.ensures.read chosen.1 chosen.2.within c.in-Ok.ensures.had) chosen.2 c.print_ending.ensures.status c.print_ending.ensures.printed
