use Rattle.std.proofs.Common.{◌∙◌, ap}
use Rattle.clap.specs.Words.{App, with_rule}
use Rattle.command_line.specs.Rules.{resilience}
use Rattle.command_line.proofs.commands.group.Goals as goal

pub returns : goal.returns
returns c = c.in_ok-command-2.ensures ∙ ap (λ (a : App). with_rule a resilience) c.in_ok-command.ensures
