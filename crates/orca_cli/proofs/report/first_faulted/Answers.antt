use Rattle.std.proofs.Common.{◌∙◌, sym}
use Rattle.run_ends.specs.declared.ends.ProcessEnd.{ProcessEnd}
use Rattle.orca_cli.specs.Standings.{fault_of}
use Rattle.orca_cli.proofs.ReportLemmas.{first_found, first_none, first_passed}
use Rattle.orca_cli.proofs.report.first_faulted.Goals as goal

pub returns-in-Some : goal.returns-in-Some
returns-in-Some c =
    first_found (λ (end : ProcessEnd). fault_of end.standing) c.args.ends.now c.ends.number c.index-ends-number.result c.in-Some.fault c.ends-test.true c.index-ends-number.is (sym c.fault_of.ensures ∙ c.in-Some.is) c.ends.invariant

pub ends-preserved : goal.ends-preserved
ends-preserved c =
    first_passed (λ (end : ProcessEnd). fault_of end.standing) c.args.ends.now c.ends.number c.index-ends-number.result c.ends-test.true c.index-ends-number.is (sym c.fault_of.ensures ∙ c.in_default.is) c.ends.invariant

pub returns : goal.returns
returns c =
    first_none (λ (end : ProcessEnd). fault_of end.standing) c.args.ends.now c.ends.number c.ends-test.false c.ends.invariant
