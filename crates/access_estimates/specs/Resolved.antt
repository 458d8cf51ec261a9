-- Cited by private functions alone. What the code keeps of the uses of objects: the position of the local, and what the use does, with
-- names looked up.
use Rattle.std.specs.Prelude.{◌≡◌, ℕ, ◌==◌, List, [], ◌∷◌, bytes_eq, slice_get, if◌then◌else◌, Option, option_map, option_and_then, map}
use Rattle.std.specs.List.{filter_map, position_or_len}
use Rattle.link_rules.specs.Units.{Source}
use Rattle.type_rules.specs.TopLevel as top
use Rattle.type_rules.specs.TopLevel.{StandsFor, stands_for}
use Rattle.value_core.specs.declared.action.Class.{Class}
use Rattle.value_core.specs.declared.action.Class.TheVariants.{Reads, Writes}
use Rattle.meaning_rules.specs.Classes.{class_of}
use Rattle.meaning_rules.specs.Programs.{kind_of, op_of}
use Rattle.site_estimates.specs.declared.counts.Counts.{Counts}
use Rattle.site_estimates.specs.Numbers.{one_read, one_write, plus, times}
use Rattle.site_estimates.specs.Numbers as counting
use Rattle.estimate_rules.specs.Uses.{UseKind, Calls, Passes, Use, stmts_uses}
use Rattle.estimate_rules.specs.Estimates.{Summaries}
use Rattle.estimate_rules.specs.Routines as rules
use Rattle.access_estimates.specs.declared.resolved.Effect.{Effect}
use Rattle.access_estimates.specs.declared.resolved.Effect.TheVariants as effect
use Rattle.access_estimates.specs.declared.resolved.ResolvedUse.{ResolvedUse}
use Rattle.access_estimates.specs.declared.routines.Routine.{Routine}
use Rattle.access_estimates.specs.Locals.{PlainLocal, locals_seen, named}

-- ---- names looked up

abbrev pub class_effect : Class → Effect
class_effect Reads = effect.Reads
class_effect Writes = effect.Writes

abbrev pub standing_effect : ℕ → StandsFor → Effect
standing_effect position (top.Top i t) = effect.Passed i position
standing_effect position _ = effect.Nothing

-- what a use does with an object whose type has this number, in a module
abbrev pub effect_of : List Source → List ℕ → ℕ → UseKind → Effect
effect_of us m number (Calls operation) = class_effect (class_of us (kind_of us number) (op_of us number operation))
effect_of us m number (Passes to position) = standing_effect position (stands_for us m to)

abbrev pub resolved_with : List Source → List ℕ → ℕ → Use → ℕ → ResolvedUse
resolved_with us m position u number = record { position = position; times = u.times; effect = effect_of us m number u.kind }

abbrev pub object_at : List PlainLocal → ℕ → Option ℕ
object_at ns position = option_and_then (λ n. n.object) (slice_get ns position)

abbrev pub position_in : List PlainLocal → List ℕ → ℕ
position_in ns name = position_or_len (λ n. bytes_eq n.name name) ns

abbrev pub resolved_at : List Source → List ℕ → List PlainLocal → Use → ℕ → Option ResolvedUse
resolved_at us m ns u position = option_map (resolved_with us m position u) (object_at ns position)

-- what a use does, where its name is that of an object
abbrev pub resolved_by : List Source → List ℕ → List PlainLocal → Use → Option ResolvedUse
resolved_by us m ns u = resolved_at us m ns u (position_in ns u.object)

abbrev pub all_resolved : List Source → List ℕ → List PlainLocal → List Use → List ResolvedUse
all_resolved us m ns xs = filter_map (resolved_by us m ns) xs

-- this is a function or a process of the definitions
pub record IsRoutine (us : List Source) (r : Routine) (w : rules.Routine) : Type 0 where
  pub program : w.scope.program ≡ us
  pub parameters : r.parameters ≡ w.parameters
  pub names : locals_seen r.names.items ≡ map (named w.scope) w.names
  pub resolved : r.resolved.items ≡ all_resolved us w.scope.home (map (named w.scope) w.names) (stmts_uses 1 w.statements)

-- ---- summaries

abbrev pub effect_counts : Summaries → Effect → Counts
effect_counts summaries effect.Reads = one_read
effect_counts summaries effect.Writes = one_write
effect_counts summaries (effect.Passed i position) = summaries i position
effect_counts summaries effect.Nothing = counting.zero

abbrev pub resolved_counts : Summaries → ResolvedUse → Counts
resolved_counts summaries d = times d.times (effect_counts summaries d.effect)

-- what all these uses add to the local at a position
abbrev pub tally : Summaries → ℕ → Counts → List ResolvedUse → Counts
tally summaries position sum [] = sum
tally summaries position sum (d ∷ ds) = tally summaries position (if d.position == position then plus sum (resolved_counts summaries d) else sum) ds
