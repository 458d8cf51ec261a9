use Rattle.std.proofs.Common.{List, ap}
use Rattle.std.proofs.Math.ListN.{drop_of_length-le}
use Rattle.access_estimates.specs.declared.locals.Local.{Local}
use Rattle.access_estimates.specs.Locals.{locals_seen}
use Rattle.access_estimates.specs.Summaries.{sites_seen}
use Rattle.access_estimates.proofs.Rest.{finished}
use Rattle.access_estimates.proofs.Sited.{site_added}
use Rattle.access_estimates.proofs.estimated.add_sites.Goals as goal

pub names-preserved : goal.names-preserved
names-preserved c =
    site_added c.args.process.now c.args.parameters c.args.summary.now c.args.names.now c.names.position _ c.names.all.items _ _ c.names-test.true
    (c.in_ok-add_local.ensures {u = tt}) c.names.invariant

pub returns : goal.returns
returns c =
    finished c.names.all.items _ _
    (ap (λ (l : List Local). sites_seen c.args.process.now c.args.parameters c.args.summary.now c.names.position (locals_seen l)) (drop_of_length-le c.args.names.now c.names-test.false))
    c.names.invariant
