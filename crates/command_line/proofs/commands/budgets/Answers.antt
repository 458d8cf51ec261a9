use Rattle.std.proofs.Common.{◌∙◌, ap, codes}
use Rattle.clap.specs.Words.{App, with_rule}
use Rattle.command_line.specs.Rules.{defaulted}
use Rattle.command_line.proofs.commands.budgets.Goals as goal

pub returns : goal.returns
returns c =
    c.in_ok-command-3.ensures ∙ ap (λ (a : App). with_rule a (defaulted (codes "events") (codes "1000000")))
    (c.in_ok-command-2.ensures ∙ ap (λ (a : App). with_rule a (defaulted (codes "turns") (codes "1000000"))) c.in_ok-command.ensures)
