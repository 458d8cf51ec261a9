use Rattle.std.specs.Prelude.{◌==◌}
use Rattle.std.proofs.Common.{cond, ap, ◌∙◌}
use Rattle.site_estimates.specs.declared.counts.Counts.{Counts}
use Rattle.site_estimates.specs.Numbers.{plus}
use Rattle.access_estimates.specs.Summaries.{counts_in}
use Rattle.access_estimates.proofs.summaries.add_resolved.Goals as goal

pub returns-clause-counts : goal.returns-clause-counts
returns-clause-counts c = λ k inside.
    let before = counts_in c.args.summary.now.items k in
    c.add.ensures.counts k inside ∙ ap (λ (a : Counts). cond (c.args.resolved.now.position == k) (plus before a) before) c.counts_of-counts.ensures
