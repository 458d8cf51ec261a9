use Rattle.std.proofs.Common.{◌∙◌, ap}
use Rattle.type_decls.specs.declared.checked.Checked.{Checked}
use Rattle.meaning_rules.specs.Classes.{class_of}
use Rattle.program_bodies.specs.Codes.{sources}
use Rattle.code_machine.proofs.performing.CodeMachinePerformer.class.Goals as goal

pub returns : goal.returns
returns c = c.class_of.ensures.class ∙ ap (λ (p : Checked). class_of (sources p) c.args.kind c.args.op) c.checked.ensures
