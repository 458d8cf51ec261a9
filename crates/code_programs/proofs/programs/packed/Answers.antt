use Rattle.code_programs.proofs.programs.packed.Goals as goal

pub unreachable-requires : goal.unreachable-requires
unreachable-requires c = c.requires.fits (rw c.in-Err-Because.field-0-is at c.in-Err-Because.ensures.refused)
