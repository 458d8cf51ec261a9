use Rattle.command_output.proofs.Putting.{puts_none}
use Rattle.make_command.proofs.Printed.{put_wrote}
use Rattle.make_command.proofs.printing.put_some.Goals as goal

pub returns-then-is_empty-clause-wrote : goal.returns-then-is_empty-clause-wrote
returns-then-is_empty-clause-wrote g c = put_wrote _ _ _ _ (puts_none _ _ c.if-is_empty.ensures)

pub returns-clause-wrote : goal.returns-clause-wrote
returns-clause-wrote g c = put_wrote _ _ _ _ c.put.ensures.puts
