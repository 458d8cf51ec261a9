use Rattle.std.proofs.lemmas.Result.{err_from_is_err_and}
use Rattle.make_command.proofs.Printed.{none_wrote}
use Rattle.orca_cli.proofs.report.print_summary.Goals as goal

pub returns-in_err-line-clause-wrote : goal.returns-in_err-line-clause-wrote
returns-in_err-line-clause-wrote g c =
    let p = err_from_is_err_and c.from_residual.result c.from_residual.ensures.1 in
    rw p.1 (none_wrote _ _ p.0)
