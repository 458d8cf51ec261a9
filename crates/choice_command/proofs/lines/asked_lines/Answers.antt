use Rattle.std.proofs.Common.{List, ◌++◌, ap, ◌∙◌}
use Rattle.orca_base.specs.declared.what.Choice.{Choice}
use Rattle.replica_choice.specs.Asking.{questions}
use Rattle.replica_choice.specs.Printed.{choice_text}
use Rattle.replica_choice.proofs.Zipped.{if_ok_all, on_err_any}
use Rattle.choice_command.proofs.Told.{asked_all, if_ok_any}
use Rattle.choice_command.proofs.lines.asked_lines.Goals as goal

pub returns-clause-lines : goal.returns-clause-lines
returns-clause-lines g c =
    if_ok_all c.choice_text.result
    (λ v is. is ∙ ap (choice_text c.args.sites.now) (c.deref.ensures.value ∙ (c.in_ok-choices.ensures {u = tt}).chosen))
    c.choice_text.ensures

pub returns-clause-told : goal.returns-clause-told
returns-clause-told g c =
    let asked = (c.in_ok-choices.ensures {u = tt}).told
    ∙ ap (λ (l : List Choice). g.P.Policy.told c.args.policy.now ++ questions c.args.nodes c.args.sites.now l) (c.in_ok-choices.ensures {u = tt}).chosen
    in
    if_ok_any c.choice_text.result asked

pub returns-clause-first : goal.returns-clause-first
returns-clause-first g c =
    let asked = (c.in_ok-choices.ensures {u = tt}).told
    ∙ ap (λ (l : List Choice). g.P.Policy.told c.args.policy.now ++ questions c.args.nodes c.args.sites.now l) (c.in_ok-choices.ensures {u = tt}).chosen
    in
    on_err_any c.choice_text.result
    (asked_all (g.P.Policy.rule c.args.policy.now) c.args.nodes c.args.sites.now (g.P.Policy.told c.args.policy.now) _ asked)
