use Rattle.std.proofs.Common.{List, map, ap, ◌∙◌}
use Rattle.site_estimates.specs.declared.counts.Counts.{Counts}
use Rattle.access_estimates.specs.declared.locals.Local.{Local}
use Rattle.access_estimates.specs.Locals.{locals_seen}
use Rattle.access_estimates.specs.Summaries.{by_table, sites_seen}
use Rattle.access_estimates.proofs.Rest.{same}
use Rattle.access_estimates.proofs.Sited.{sites_are}
use Rattle.access_estimates.proofs.estimated.add_estimates.Goals as goal

pub returns : goal.returns
returns c = λ us w is.
    let r = c.args.routine.now in
    same c.add_sites.result c.args.all.now.items _ _ _
    (ap (λ (l : List Local). sites_seen c.args.process.now r.parameters c.deref.result.now 0 (locals_seen l)) c.deref-2.ensures.value
    ∙ ap (λ (l : List Counts). sites_seen c.args.process.now r.parameters l 0 (locals_seen r.names.items)) c.deref.ensures.value
    ∙ sites_are us (by_table (map (λ v. v.items) c.args.table.now)) c.args.process.now r w c.in_ok-summary.summary.items is (c.in_ok-summary.ensures {u = tt}))
    c.add_sites.ensures
