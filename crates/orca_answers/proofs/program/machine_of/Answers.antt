use Rattle.std.proofs.Common.{ap, map, subst, sym}
use Rattle.link_rules.specs.Units.{source}
use Rattle.orca_front.specs.Sources.{IsAccepted}
use Rattle.orca_modules.specs.declared.program.Program.{Program}
use Rattle.orca_answers.proofs.AnswerLemmas.{if_any, machine_units}
use Rattle.orca_answers.proofs.program.machine_of.Goals as goal

pub returns-in-Ok-clause-of : goal.returns-in-Ok-clause-of
returns-in-Ok-clause-of c = machine_units c.checked_machine.result c.in-Ok.checked _ (ap (λ (p : Program). map source p.units.items) c.in-Ok.ensures.program) c.checked_machine.ensures.of

pub returns-in-Ok-clause-accepted : goal.returns-in-Ok-clause-accepted
returns-in-Ok-clause-accepted c = λ files are. if_any c.checked_machine.result _ (c.in-Ok.ensures.accepted files are)

pub returns-in-Ok-clause-refused : goal.returns-in-Ok-clause-refused
returns-in-Ok-clause-refused c = λ files are.
    let same = ap (λ (p : Program). map source p.units.items) c.in-Ok.ensures.program in
    c.checked_machine.ensures.refused files (subst (IsAccepted files) (sym same) (c.in-Ok.ensures.accepted files are))
