use Rattle.std.proofs.Common.{◌<◌, length, map, ◌∙◌, arith}
use Rattle.std.proofs.Math.ListN.{drop_of_length-le}
use Rattle.access_estimates.specs.Summaries.{by_table, counts_in}
use Rattle.access_estimates.proofs.Summed.{tally_ended, tally_more}
use Rattle.access_estimates.proofs.summaries.add_all.Goals as goal

pub resolved-preserved : goal.resolved-preserved
resolved-preserved c =
    let inv = c.resolved.invariant in (
      c.add_resolved.ensures.long ∙ inv.0,
      λ k inside.
          let long = inv.0 in
          let within : k < length c.resolved.summary.items = omega (arith, inside, long) in
          tally_more (by_table (map (λ v. v.items) c.args.table.now)) c.args.resolved.now c.resolved.one-index k _ (counts_in c.resolved.summary.items k) _ _ c.resolved-test.true
          (c.add_resolved.ensures.counts k within) (inv.1 k inside),
    )

pub returns-clause-long : goal.returns-clause-long
returns-clause-long c = c.resolved.invariant.0

pub returns-clause-counts : goal.returns-clause-counts
returns-clause-counts c = λ k inside.
    tally_ended (by_table (map (λ v. v.items) c.args.table.now)) c.args.resolved.now _ k _ _ (drop_of_length-le c.args.resolved.now c.resolved-test.false) (c.resolved.invariant.1 k inside)
