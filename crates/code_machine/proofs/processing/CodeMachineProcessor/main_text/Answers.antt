use Rattle.std.proofs.Common.{ap}
use Rattle.code_rules.specs.Machine.{Code}
use Rattle.code_machine.proofs.processing.CodeMachineProcessor.main_text.Goals as goal

pub returns : goal.returns
returns c = ap (λ (p : Code). p.main) c.args.self.now.compiled
