use Rattle.std.proofs.Common.{◌≡◌, ◌<◌, List, length, vec_len, map, ap, ◌∙◌, arith, rules}
use Rattle.std.proofs.lemmas.List.{length-replicate}
use Rattle.site_estimates.specs.declared.counts.Counts.{Counts}
use Rattle.site_estimates.specs.Numbers as counting
use Rattle.access_estimates.specs.Resolved.{tally}
use Rattle.access_estimates.specs.Summaries.{by_table, counts_in}
use Rattle.access_estimates.proofs.Summed.{empty_at}
use Rattle.access_estimates.proofs.summaries.summary_of.Goals as goal

pub returns : goal.returns
returns c =
    let r = c.args.routine.now in
    let summaries = by_table (map (λ v. v.items) c.args.table.now) in
    let counted : vec_len r.names ≡ length r.names.items = search rules in
    let empty = c.in_ok-summary.ensures {u = tt} in
    let long : length c.in_ok-summary.summary.items ≡ length r.names.items =
    ap (λ (l : List Counts). length l) empty ∙ length-replicate c.len.result counting.zero ∙ c.len.ensures ∙ counted in
    record {
      long = c.add_all.ensures.long ∙ long;
      counts = λ k inside.
          let kept = c.add_all.ensures.long in
          let within : k < length c.in_ok-summary.summary.items = omega (arith, inside, kept) in
          c.add_all.ensures.counts k within
          ∙ ap (λ (a : Counts). tally summaries k a c.deref.result.now) (ap (λ (l : List Counts). counts_in l k) empty ∙ empty_at c.len.result k)
          ∙ ap (tally summaries k counting.zero) c.deref.ensures.value;
    }
