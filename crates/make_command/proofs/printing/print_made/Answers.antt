use Rattle.std.proofs.lemmas.Result.{err_from_is_err_and}
use Rattle.make_command.proofs.Printed.{none_wrote}
use Rattle.make_command.proofs.printing.print_made.Goals as goal

pub returns-in_err-line-clause-wrote : goal.returns-in_err-line-clause-wrote
returns-in_err-line-clause-wrote g c =
    let p = err_from_is_err_and c.from_residual.result c.from_residual.ensures.1 in
    rw p.1 (none_wrote _ _ p.0)

pub returns-clause-wrote : goal.returns-clause-wrote
returns-clause-wrote g c = rw (c.deref.ensures.value, c.in_ok-line.ensures) at c.put_some.ensures.wrote
