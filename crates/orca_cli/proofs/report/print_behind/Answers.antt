use Rattle.std.proofs.lemmas.Result.{err_from_is_err_and}
use Rattle.orca_cli.proofs.ReportLemmas.{front_of_both, text_behind}
use Rattle.orca_cli.proofs.report.print_behind.Goals as goal

pub returns-in_err-print_history-clause-wrote : goal.returns-in_err-print_history-clause-wrote
returns-in_err-print_history-clause-wrote g c =
    let p = err_from_is_err_and c.from_residual.result c.from_residual.ensures.1 in
    rw (p.1, p.2) (front_of_both _ _ _ _ p.0 (rw c.deref.ensures.value at c.in_err-print_history.ensures.wrote))

pub returns-clause-wrote : goal.returns-clause-wrote
returns-clause-wrote g c = text_behind _ _ _ _ _ _ (rw c.deref.ensures.value at c.in_ok-print_history.ensures.wrote) c.print_ending.ensures.wrote
