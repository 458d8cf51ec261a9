use Rattle.std.proofs.Common.{◌≡◌, ℕ, ◌<◌, length, map, drop}
use Rattle.access_estimates.specs.Resolved.{tally}
use Rattle.access_estimates.specs.Summaries.{by_table, counts_in}
use Rattle.access_estimates.proofs.summaries.add_all.Given as goal

abbrev pub invariant-resolved : goal.invariant-resolved
invariant-resolved l =
    (length l.summary.items ≡ length l.initial.summary.items)
    × ((k : ℕ) → k < length l.initial.summary.items →
    tally (by_table (map (λ v. v.items) l.table)) k (counts_in l.summary.items k) (drop l.one-index l.resolved)
    ≡ tally (by_table (map (λ v. v.items) l.table)) k (counts_in l.initial.summary.items k) l.resolved)
