use Rattle.std.proofs.Common.{◌≡◌, List, ◌++◌, drop, filter, map}
use Rattle.link_rules.specs.Units.{Source}
use Rattle.type_rules.specs.TopLevel.{top_names}
use Rattle.type_forms.specs.Seen.{top}
use Rattle.meaning_rules.specs.Programs.{is_process}
use Rattle.estimate_rules.specs.Estimates.{process_estimates}
use Rattle.access_estimates.specs.Summaries.{AreRoutines, by_table}
use Rattle.access_estimates.proofs.program.sites_by_text.Given as goal

abbrev pub invariant-tops : goal.invariant-tops
invariant-tops l = (us : List Source) → map top l.tops ≡ top_names us → AreRoutines us l.routines →
    map (λ v. v.items) l.all.items ++ map (process_estimates (by_table (map (λ v. v.items) l.table)) us) (filter (λ t. is_process t.what) (map top (drop l.number l.tops)))
    ≡ map (process_estimates (by_table (map (λ v. v.items) l.table)) us) (filter (λ t. is_process t.what) (map top l.tops))
