use Rattle.std.proofs.Common.{List, filter, map, Option, subst, ap, ◌∙◌}
use Rattle.std.specs.Prelude.{option_and_then}
use Rattle.std.proofs.Math.ListN.{drop_of_length-le}
use Rattle.type_rules.specs.TopLevel.{TopName, top_names}
use Rattle.type_forms.specs.declared.tops.Top.{Top}
use Rattle.type_forms.specs.Seen.{top}
use Rattle.meaning_rules.specs.Programs.{is_process}
use Rattle.estimate_rules.specs.Estimates.{process_estimates}
use Rattle.estimate_rules.specs.Routines.{routine_of}
use Rattle.access_estimates.specs.Resolved.{IsRoutine}
use Rattle.program_bodies.specs.Matching.{Both}
use Rattle.access_estimates.specs.Summaries.{by_table}
use Rattle.program_bodies.proofs.Matched.{got}
use Rattle.access_estimates.proofs.Listed.{item_there}
use Rattle.access_estimates.proofs.Listing.{passed_map}
use Rattle.access_estimates.proofs.Rest.{appended, finished}
use Rattle.access_estimates.proofs.program.sites_by_text.Goals as goal

pub tops-preserved : goal.tops-preserved
tops-preserved c = λ us names are.
    let f = process_estimates (by_table (map (λ v. v.items) c.args.table.now)) us in
    let i = c.tops.number in
    let x = c.index-tops-number.result in
    let there = item_there c.args.tops.now (top_names us) i x c.tops-test.true c.index-tops-number.is names in
    let both = subst (λ (o : Option TopName). Both (λ k w. IsRoutine us k.now w) c.at_number-routine.result (option_and_then (routine_of us) o)) there
    (got (IsRoutine us) (routine_of us) c.args.routines.now (top_names us) i c.at_number-routine.result are c.at_number-routine.ensures) in
    appended (map (λ v. v.items) c.tops.all.items) _ _ _ _ _ ((c.in_ok-add_text.ensures {u = tt}) us both)
    (passed_map top (λ t. is_process t.what) f c.args.tops.now i x c.tops-test.true c.index-tops-number.is) (c.tops.invariant us names are)

pub returns : goal.returns
returns c = λ us names are.
    let f = process_estimates (by_table (map (λ v. v.items) c.args.table.now)) us in
    finished (map (λ v. v.items) c.tops.all.items) _ _
    (ap (λ (l : List Top). map f (filter (λ t. is_process t.what) (map top l))) (drop_of_length-le c.args.tops.now c.tops-test.false))
    (c.tops.invariant us names are)
    ∙ ap (λ (l : List TopName). map f (filter (λ t. is_process t.what) l)) names
