use Rattle.std.proofs.Common.{[], ◌∷◌}
use Rattle.generated_program.specs.Program.{program_file}
use Rattle.orca_answers.proofs.ProgramsOnce.{program_apart}
use Rattle.orca_answers.proofs.making.made_machine.Goals as goal

pub unreachable-requires : goal.unreachable-requires
unreachable-requires c =
    let file = program_file c.requires.0 in
    let generated = c.program_law.ensures c.requires.0 in
    program_apart (file ∷ []) c.in-Err-Because.field-0-0 generated.units (rw c.in-Err-Because.field-0-is at c.in-Err-Because.ensures.refused (file ∷ []) c.requires.1) generated.accepted generated.within
