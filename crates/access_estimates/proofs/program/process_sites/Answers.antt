use Rattle.std.proofs.Common.{List, ◌++◌, map, ap, ◌∙◌}
use Rattle.site_estimates.specs.declared.estimate.Estimate.{Estimate}
use Rattle.estimate_rules.specs.Estimates.{process_estimates}
use Rattle.access_estimates.specs.Summaries.{by_table}
use Rattle.access_estimates.proofs.program.process_sites.Goals as goal

pub returns : goal.returns
returns c = λ us t named both.
    (c.in_ok-add_known.ensures {u = tt}) us t named both
    ∙ ap (λ (l : List Estimate). l ++ process_estimates (by_table (map (λ v. v.items) c.args.table.now)) us t) c.new-sites.ensures.items
