use Rattle.std.proofs.Common.{◌∙◌}
use Rattle.code_machine.proofs.processing.CodeMachineProcessor.turns.Goals as goal

pub returns : goal.returns
returns c = λ text number args replies turns stood. c.turns.ensures ∙ stood.count
