use Rattle.std.proofs.Common.{List, ap, map, subst, sym}
use Rattle.std.specs.Prelude.{IfOk}
use Rattle.accepted_law.specs.Limits.{IsWithinLimits}
use Rattle.link_rules.specs.Units.{Source, source}
use Rattle.orca_front.specs.Sources.{IsAccepted}
use Rattle.orca_modules.specs.declared.program.Program.{Program}
use Rattle.orca_answers.specs.Listings.{IsListed}
use Rattle.orca_answers.proofs.AnswerLemmas.{if_any}
use Rattle.orca_answers.proofs.listing.linked_listing.Goals as goal

pub returns-in-Ok-clause-listed : goal.returns-in-Ok-clause-listed
returns-in-Ok-clause-listed c =
    let same = ap (λ (p : Program). map source p.units.items) c.in-Ok.ensures.program in
    subst (λ (us : List Source). IfOk c.checked_listing.result (λ text. IsListed c.args.what us text.items)) same c.checked_listing.ensures.listed

pub returns-in-Ok-clause-within : goal.returns-in-Ok-clause-within
returns-in-Ok-clause-within c =
    let same = ap (λ (p : Program). map source p.units.items) c.in-Ok.ensures.program in
    subst (λ (us : List Source). IfOk c.checked_listing.result (λ _. IsWithinLimits us)) same c.checked_listing.ensures.within

pub returns-in-Ok-clause-accepted : goal.returns-in-Ok-clause-accepted
returns-in-Ok-clause-accepted c = λ told are. if_any c.checked_listing.result _ (c.in-Ok.ensures.accepted told are)

pub returns-in-Ok-clause-refused : goal.returns-in-Ok-clause-refused
returns-in-Ok-clause-refused c = λ told are.
    let same = ap (λ (p : Program). map source p.units.items) c.in-Ok.ensures.program in
    c.checked_listing.ensures.refused told (subst (IsAccepted told) (sym same) (c.in-Ok.ensures.accepted told are))
