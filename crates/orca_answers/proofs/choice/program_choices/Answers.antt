use Rattle.std.proofs.Common.{inl, map, refl}
use Rattle.link_rules.specs.Units.{source}
use Rattle.orca_front.specs.Sources.{file_of}
use Rattle.orca_answers.specs.Choosing.{chooser_of}
use Rattle.orca_answers.proofs.AnswerLemmas.{begun_none, begun_program, if_two}
use Rattle.orca_answers.proofs.choice.program_choices.Goals as goal

pub returns-in-Ok-clause-chosen : goal.returns-in-Ok-clause-chosen
returns-in-Ok-clause-chosen g c =
    let heard = c.linked_choices.ensures in
    if_two c.linked_choices.result (λ text accepted chosen. (map source c.in-Ok.program.units.items, accepted, chosen))
    (heard.accepted (map file_of c.args.files.now) c.in-Ok.ensures.program) heard.chosen

pub returns-in-Ok-clause-refused : goal.returns-in-Ok-clause-refused
returns-in-Ok-clause-refused g c = c.linked_choices.ensures.refused (map file_of c.args.files.now) c.in-Ok.ensures.program

pub returns-in-Ok-clause-first : goal.returns-in-Ok-clause-first
returns-in-Ok-clause-first g c =
    begun_program c.linked_choices.result (chooser_of g.P.Policy.rule g.P.Policy.told c.args.policy.now) c.args.nodes (map source c.in-Ok.program.units.items) (g.P.Policy.told c.linked_choices.new.policy) (map file_of c.args.files.now)
    (c.linked_choices.ensures.first (map file_of c.args.files.now) c.in-Ok.ensures.program)

pub returns-in-Err-clause-unasked : goal.returns-in-Err-clause-unasked
returns-in-Err-clause-unasked g c = begun_none _ c.in-Err.refusal _ refl

pub returns-in-Err-clause-first : goal.returns-in-Err-clause-first
returns-in-Err-clause-first g c = inl refl
