use Rattle.std.proofs.Common.{List, [], ◌∷◌, subst, sym}
use Rattle.orca_front.specs.Sources.{IsAccepted, file_of}
use Rattle.orca_io.specs.Files.{File}
use Rattle.orca_answers.proofs.ProgramsOnce.{program_apart}
use Rattle.orca_answers.proofs.making.made_program.Goals as goal

pub unreachable-requires : goal.unreachable-requires
unreachable-requires c =
    let generated = c.program_law.ensures c.requires.0 in
    program_apart (file_of c.args.file.now ∷ []) c.in-Err-Because.field-0-0 generated.units (rw (c.from_ref.ensures.value, c.in-Err-Because.field-0-is) at c.in-Err-Because.ensures.refused)
    (subst (λ (f : File). IsAccepted (f ∷ []) generated.units) (sym c.requires.1) generated.accepted) generated.within

pub returns-in-Ok : goal.returns-in-Ok
returns-in-Ok c = rw c.from_ref.ensures.value at c.in-Ok.ensures.program
