use Rattle.std.proofs.Common.{◌∙◌}
use Rattle.command_line.proofs.Cases.{found_ok, found_err}
use Rattle.command_line.proofs.reading.matched.Goals as goal

pub returns-in-Ok : goal.returns-in-Ok
returns-in-Ok c = found_ok c.args.name _ _ _ c.in_ok-command.ensures c.in-Ok.ensures.kinds c.in-Ok.ensures.matches

pub returns : goal.returns
returns c = found_err c.args.name _ _ _ c.in_ok-command.ensures c.in-Err.ensures.kinds (λ e. c.in_default.not-OutOfMemory (c.kind.ensures ∙ e))
