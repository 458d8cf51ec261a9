use Rattle.orca_cli.proofs.ReportLemmas.{status_ends, status_failed, status_lacked, status_printed, status_quiet}
use Rattle.orca_cli.proofs.report.report.Goals as goal

pub returns-clause-ends : goal.returns-clause-ends
returns-clause-ends g c = rw c.run_status.ensures (status_ends c.args.standing c.print_as-printed.result)

pub returns-clause-lacked : goal.returns-clause-lacked
returns-clause-lacked g c = rw c.run_status.ensures (status_lacked c.args.standing c.print_as-printed.result)

pub returns-clause-printed : goal.returns-clause-printed
returns-clause-printed g c = rw c.run_status.ensures (status_printed c.args.standing c.print_as-printed.result _ _ _ c.print_as-printed.ensures.wrote)

pub returns-clause-failed : goal.returns-clause-failed
returns-clause-failed g c = λ ten. c.print_as-printed.ensures.failed (status_failed c.args.standing c.print_as-printed.result (rw c.run_status.ensures at ten))

pub returns-clause-stopped : goal.returns-clause-stopped
returns-clause-stopped g c = λ rose. rw c.run_status.ensures (status_quiet c.args.standing c.print_as-printed.result _ _ c.print_as-printed.ensures.quiet rose)
