use Rattle.std.proofs.Common.{◌∙◌, sym}
use Rattle.orca_cli.specs.Standings.{spent_of}
use Rattle.orca_cli.proofs.ReportLemmas.{first_found, first_none, first_passed, spent_is, spent_not}
use Rattle.orca_cli.proofs.report.first_spent.Goals as goal

pub returns-then-has_spent : goal.returns-then-has_spent
returns-then-has_spent c =
    first_found (spent_of c.args.turns) c.args.ends.now c.ends.number c.index-ends-number.result tt c.ends-test.true c.index-ends-number.is
    (spent_is c.args.turns c.index-ends-number.result (sym c.has_spent.ensures ∙ c.if-has_spent.true)) c.ends.invariant

pub ends-preserved : goal.ends-preserved
ends-preserved c =
    first_passed (spent_of c.args.turns) c.args.ends.now c.ends.number c.index-ends-number.result c.ends-test.true c.index-ends-number.is
    (spent_not c.args.turns c.index-ends-number.result (sym c.has_spent.ensures ∙ c.if-has_spent.false)) c.ends.invariant

pub returns : goal.returns
returns c =
    first_none (spent_of c.args.turns) c.args.ends.now c.ends.number c.ends-test.false c.ends.invariant
