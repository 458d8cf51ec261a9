-- Cited by private functions alone. Tables of summaries: one for each name of the top level, with counts for each local of a function or a
-- process.
use Rattle.std.specs.Prelude.{◌≡◌, ℕ, suc, ◌<◌, ◌&&◌, nat_le, List, [], ◌∷◌, ◌++◌, length, slice_get, unwrap_or, is_some, if◌then◌else◌, Option, Some, None}
use Rattle.link_rules.specs.Units.{Source}
use Rattle.type_rules.specs.TopLevel.{top_names}
use Rattle.site_estimates.specs.declared.estimate.Estimate.{Estimate}
use Rattle.site_estimates.specs.declared.counts.Counts.{Counts}
use Rattle.site_estimates.specs.Numbers as counting
use Rattle.program_bodies.specs.Matching.{Both, Match}
use Rattle.estimate_rules.specs.Estimates.{Summaries}
use Rattle.estimate_rules.specs.Routines.{routine_of}
use Rattle.access_estimates.specs.declared.routines.Routine.{Routine}
use Rattle.access_estimates.specs.Locals.{PlainLocal}
use Rattle.access_estimates.specs.declared.resolved.Effect.{Effect}
use Rattle.access_estimates.specs.Resolved.{IsRoutine, effect_counts, tally}

abbrev pub counts_in : List Counts → ℕ → Counts
counts_in summary position = unwrap_or (slice_get summary position) counting.zero

abbrev pub summary_at : List (List Counts) → ℕ → List Counts
summary_at table i = unwrap_or (slice_get table i) []

abbrev pub by_table : List (List Counts) → Summaries
by_table table i position = counts_in (summary_at table i) position

abbrev pub effect_by : List (List Counts) → Effect → Counts
effect_by table e = effect_counts (by_table table) e

-- the summary of a function or a process, where its calls and forks count by these summaries
pub record IsSummary (summaries : Summaries) (r : Routine) (summary : List Counts) : Type 0 where
  pub long : length summary ≡ length r.names.items
  pub counts : (position : ℕ) → position < length summary → counts_in summary position ≡ tally summaries position counting.zero r.resolved.items

abbrev pub IsNext : Summaries → List Counts → Option Routine → Type 0
IsNext summaries summary None = summary ≡ []
IsNext summaries summary (Some r) = IsSummary summaries r summary

-- these are the functions and processes of these sources
abbrev pub AreRoutines : List Source → List (Option Routine) → Type 0
AreRoutines us rs = Match (λ o t. Both (IsRoutine us) o (routine_of us t)) rs (top_names us)

-- the estimate of a name of a process, of which so many are parameters, where it is an object variable; and of those from a position on
abbrev pub site_at : List ℕ → ℕ → List Counts → ℕ → PlainLocal → List Estimate
site_at process parameters summary position n =
    if nat_le parameters position && is_some n.object
    then record { process = process; variable = n.name; reads = (counts_in summary position).reads; writes = (counts_in summary position).writes } ∷ []
    else []

abbrev pub sites_seen : List ℕ → ℕ → List Counts → ℕ → List PlainLocal → List Estimate
sites_seen process parameters summary position [] = []
sites_seen process parameters summary position (n ∷ ns) = site_at process parameters summary position n ++ sites_seen process parameters summary (suc position) ns
