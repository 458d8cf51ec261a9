use Rattle.std.proofs.Common.{◌≡◌, List, ◌++◌, subst, ◌∙◌}
use Rattle.std.specs.Prelude.{IfOk, OnErr}
use Rattle.site_estimates.specs.declared.estimate.Estimate.{Estimate}
use Rattle.program_bodies.specs.Codes.{sources}
use Rattle.estimate_rules.specs.Estimates.{estimates}
use Rattle.replica_choice.specs.Asking.{AsksFirst, choices_by, questions}
use Rattle.replica_choice.specs.Printed.{choice_text}
use Rattle.replica_choice.proofs.Zipped.{on_err_any}
use Rattle.choice_command.proofs.Told.{asked_none}
use Rattle.choice_command.proofs.lines.choice_lines.Goals as goal

pub returns-clause-lines : goal.returns-clause-lines
returns-clause-lines g c =
    subst
    (λ (es : List Estimate). IfOk c.asked_lines.result
    (λ v. v.items ≡ choice_text es (choices_by (g.P.Policy.rule c.args.policy.now) c.args.nodes (g.P.Policy.told c.args.policy.now) es)))
    (c.deref.ensures.value ∙ c.in_ok-sites.ensures {u = tt}) c.asked_lines.ensures.lines

pub returns-clause-told : goal.returns-clause-told
returns-clause-told g c =
    subst
    (λ (es : List Estimate). IfOk c.asked_lines.result
    (λ v. g.P.Policy.told c.asked_lines.new.policy
    ≡ g.P.Policy.told c.args.policy.now
    ++ questions c.args.nodes es (choices_by (g.P.Policy.rule c.args.policy.now) c.args.nodes (g.P.Policy.told c.args.policy.now) es)))
    (c.deref.ensures.value ∙ c.in_ok-sites.ensures {u = tt}) c.asked_lines.ensures.told

pub returns-clause-first : goal.returns-clause-first
returns-clause-first g c =
    subst
    (λ (es : List Estimate). OnErr c.asked_lines.result
    (AsksFirst (g.P.Policy.rule c.args.policy.now) c.args.nodes es (g.P.Policy.told c.args.policy.now) (g.P.Policy.told c.asked_lines.new.policy)))
    (c.deref.ensures.value ∙ c.in_ok-sites.ensures {u = tt}) c.asked_lines.ensures.first

pub returns-in_err-sites-clause-first : goal.returns-in_err-sites-clause-first
returns-in_err-sites-clause-first g c =
    let told = g.P.Policy.told c.args.policy.now in
    let none : AsksFirst (g.P.Policy.rule c.args.policy.now) c.args.nodes (estimates (sources c.args.checked.now)) told told =
    asked_none (g.P.Policy.rule c.args.policy.now) c.args.nodes (estimates (sources c.args.checked.now)) told
    in
    on_err_any _ none
