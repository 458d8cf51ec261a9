use Rattle.std.proofs.Common.{◌≤◌, List, length, ap, ◌∙◌, arith}
use Rattle.site_estimates.specs.declared.counts.Counts.{Counts}
use Rattle.site_estimates.specs.Numbers.{plus}
use Rattle.access_estimates.specs.Summaries.{counts_in}
use Rattle.access_estimates.proofs.Summed.{added, not_added}
use Rattle.access_estimates.proofs.summaries.add.Goals as goal

pub returns-then-position-len-clause-counts : goal.returns-then-position-len-clause-counts
returns-then-position-len-clause-counts c = λ k inside.
    added c.args.summary.now.items c.args.position k _ c.args.counts
    (c.plus-sum.ensures ∙ ap (λ (a : Counts). plus a c.args.counts) (c.counts_in.ensures ∙ ap (λ (l : List Counts). counts_in l c.args.position) c.deref.ensures.value)) inside

pub returns-else-position-len-clause-counts : goal.returns-else-position-len-clause-counts
returns-else-position-len-clause-counts c = λ k inside.
    let past : length c.args.summary.now.items ≤ c.args.position = omega arith in
    not_added c.args.summary.now.items c.args.position k c.args.counts past inside
