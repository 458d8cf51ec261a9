use Rattle.std.proofs.Common.{List, length, filter, map, Option, subst, sym, ap, ◌∙◌}
use Rattle.std.proofs.Common.{Vec, Global}
use Rattle.type_rules.specs.TopLevel.{TopName}
use Rattle.site_estimates.specs.declared.counts.Counts.{Counts}
use Rattle.meaning_rules.specs.Programs.{process_texts}
use Rattle.estimate_rules.specs.Estimates.{Summaries, process_estimates, rounds}
use Rattle.estimate_rules.specs.Routines.{is_routine}
use Rattle.access_estimates.specs.declared.routines.Routine.{Routine}
use Rattle.access_estimates.specs.Summaries.{AreRoutines, by_table}
use Rattle.access_estimates.proofs.program.all_by_text.Goals as goal

pub returns : goal.returns
returns c = λ us typed are.
    let routines = (c.in_ok-routines.ensures {u = tt}) us typed are in
    let names = c.tops-tops.ensures us typed.forms.names in
    let first = subst (λ (l : List (Option Routine)). AreRoutines us l) (sym c.deref.ensures.value) routines in
    let again = subst (λ (l : List (Option Routine)). AreRoutines us l) (sym c.deref-2.ensures.value) routines in
    (c.in_ok-sites_by_text.ensures {u = tt}) us names again
    ∙ ap (λ (n : Summaries). map (process_estimates n us) (process_texts us))
    (ap (λ (l : List (Vec Counts Global)). by_table (map (λ v. v.items) l)) c.deref-3.ensures.value
    ∙ (c.in_ok-table.ensures {u = tt}) us first
    ∙ ap (rounds us) (c.count_routines-count.ensures ∙ ap (λ (l : List TopName). length (filter is_routine l)) names))
