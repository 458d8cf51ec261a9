use Rattle.std.proofs.Common.{List, ap, inl, map, refl, subst, sym}
use Rattle.std.specs.Prelude.{IfOk}
use Rattle.link_rules.specs.Units.{Source, source}
use Rattle.orca_front.specs.Sources.{IsAccepted}
use Rattle.orca_modules.specs.declared.program.Program.{Program}
use Rattle.orca_answers.specs.Choosing.{AreChosen, chooser_of}
use Rattle.orca_answers.proofs.AnswerLemmas.{begun_linked, begun_none, if_any}
use Rattle.orca_answers.proofs.choice.linked_choices.Goals as goal

pub returns-in-Ok-clause-chosen : goal.returns-in-Ok-clause-chosen
returns-in-Ok-clause-chosen g c =
    let same = ap (λ (p : Program). map source p.units.items) c.in-Ok.ensures.program in
    subst (λ (us : List Source). IfOk c.checked_choices.result (λ text. AreChosen (chooser_of g.P.Policy.rule g.P.Policy.told c.args.policy.now) c.args.nodes us text.items (g.P.Policy.told c.checked_choices.new.policy))) same c.checked_choices.ensures.chosen

pub returns-in-Ok-clause-accepted : goal.returns-in-Ok-clause-accepted
returns-in-Ok-clause-accepted g c = λ told are. if_any c.checked_choices.result _ (c.in-Ok.ensures.accepted told are)

pub returns-in-Ok-clause-refused : goal.returns-in-Ok-clause-refused
returns-in-Ok-clause-refused g c = λ told are.
    let same = ap (λ (p : Program). map source p.units.items) c.in-Ok.ensures.program in
    c.checked_choices.ensures.refused told (subst (IsAccepted told) (sym same) (c.in-Ok.ensures.accepted told are))

pub returns-in-Ok-clause-first : goal.returns-in-Ok-clause-first
returns-in-Ok-clause-first g c = λ told are.
    let same = ap (λ (p : Program). map source p.units.items) c.in-Ok.ensures.program in
    begun_linked c.checked_choices.result (chooser_of g.P.Policy.rule g.P.Policy.told c.args.policy.now) c.args.nodes _ _ (g.P.Policy.told c.checked_choices.new.policy) told same (c.in-Ok.ensures.accepted told are) c.checked_choices.ensures.first

pub returns-in-Err-clause-unasked : goal.returns-in-Err-clause-unasked
returns-in-Err-clause-unasked g c = begun_none _ c.in-Err.refusal _ refl

pub returns-in-Err-clause-first : goal.returns-in-Err-clause-first
returns-in-Err-clause-first g c = λ told are. inl refl
