use Rattle.std.proofs.Common.{List, ap}
use Rattle.std.proofs.Math.ListN.{drop_of_length-le}
use Rattle.access_estimates.specs.declared.uses.Use.{Use}
use Rattle.access_estimates.specs.Seen.{all_seen}
use Rattle.access_estimates.specs.Resolved.{all_resolved}
use Rattle.access_estimates.specs.Locals.{locals_seen}
use Rattle.access_estimates.proofs.Listing.{uses_more}
use Rattle.access_estimates.proofs.Rest.{finished}
use Rattle.access_estimates.proofs.resolving.resolved_in.Goals as goal

pub uses-preserved : goal.uses-preserved
uses-preserved c = λ us are.
    uses_more us c.args.home.now (locals_seen c.args.names.now) c.args.uses.now c.uses.u-index _ c.resolved_by-resolved.result c.uses.all.items _ _ c.uses-test.true
    (c.in_ok-add_any.ensures {u = tt}) (c.resolved_by-resolved.ensures (c.in_ok-positions.ensures {u = tt}) us are) (c.uses.invariant us are)

pub returns : goal.returns
returns c = λ us are.
    finished c.uses.all.items _ _
    (ap (λ (l : List Use). all_resolved us c.args.home.now (locals_seen c.args.names.now) (all_seen l)) (drop_of_length-le c.args.uses.now c.uses-test.false))
    (c.uses.invariant us are)
