use Rattle.command_output.proofs.Putting.{puts_none}
use Rattle.orca_cli.proofs.report.put_some.Goals as goal

pub returns-then-is_empty-clause-puts : goal.returns-then-is_empty-clause-puts
returns-then-is_empty-clause-puts g c = puts_none _ _ c.if-is_empty.ensures
