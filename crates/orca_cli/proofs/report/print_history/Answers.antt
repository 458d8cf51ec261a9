use Rattle.orca_cli.proofs.ReportLemmas.{said_all, said_none}
use Rattle.orca_cli.proofs.report.print_history.Goals as goal

pub returns-then-asked-clause-wrote : goal.returns-then-asked-clause-wrote
returns-then-asked-clause-wrote g c = said_all _ _ c.args.asked c.args.names.now c.args.book.now _ c.if-asked.true c.print_lines.ensures.wrote

pub returns-clause-wrote : goal.returns-clause-wrote
returns-clause-wrote g c = said_none _ c.args.asked c.args.names.now c.args.book.now c.if-asked.false
