use Rattle.std.proofs.lemmas.Result.{err_from_is_err_and}
use Rattle.generated_program.specs.Program.{program_text}
use Rattle.make_command.proofs.Printed.{none_wrote}
use Rattle.make_command.proofs.printing.print_program.Goals as goal

pub returns-in_err-lines-clause-wrote : goal.returns-in_err-lines-clause-wrote
returns-in_err-lines-clause-wrote g c =
    let p = err_from_is_err_and c.from_residual.result c.from_residual.ensures.1 in
    rw p.1 (none_wrote _ _ p.0)

pub returns-clause-wrote : goal.returns-clause-wrote
unfolding program_text
returns-clause-wrote g c = rw (c.deref.ensures.value, c.in_ok-lines.ensures) at c.print_lines.ensures.wrote
