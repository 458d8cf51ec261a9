use Rattle.std.proofs.lemmas.Result.{err_from_is_err_and}
use Rattle.orca_cli.proofs.ReportLemmas.{front_of_both, line_behind, no_line}
use Rattle.orca_cli.proofs.report.print_ending.Goals as goal

pub returns-in_err-print_places-clause-wrote : goal.returns-in_err-print_places-clause-wrote
returns-in_err-print_places-clause-wrote g c =
    let p = err_from_is_err_and c.from_residual.result c.from_residual.ensures.1 in
    rw (p.1, p.2) (front_of_both _ _ _ _ p.0 (rw (c.deref.ensures.value, c.deref-2.ensures.value) at c.in_err-print_places.ensures.wrote))

pub returns-in_err-line-clause-wrote : goal.returns-in_err-line-clause-wrote
returns-in_err-line-clause-wrote g c =
    let p = err_from_is_err_and c.from_residual-in_err-line.result c.from_residual-in_err-line.ensures.1 in
    rw p.1 (no_line _ _ _ _ p.0 (rw (c.deref.ensures.value, c.deref-2.ensures.value) at c.in_ok-print_places.ensures.wrote))

pub returns-clause-wrote : goal.returns-clause-wrote
returns-clause-wrote g c = line_behind _ _ _ _ _ _ (rw (c.deref.ensures.value, c.deref-2.ensures.value) at c.in_ok-print_places.ensures.wrote) (rw (c.deref-4.ensures.value, c.in_ok-line.ensures, c.deref-3.ensures.value) at c.put_some.ensures.puts)
