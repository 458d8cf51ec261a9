-- Estimates of sites (docs/RUNTIME.md, Choice of copies). Each object variable of a process's text is a site. An estimate counts the reads
-- and the writes of its object: a call counts 1, and what is done in a loop ten times as much; a function or a forked process that is
-- passed the object counts what it does with its parameter, by rounds that start at 0 and are as many as there are functions and processes.
use Rattle.std.specs.Prelude.{ℕ, zero, suc, Bool, ◌&&◌, ◌==◌, nat_le, List, [], ◌∷◌, ◌++◌, map, filter, flat_map, fold, slice_get, is_some, bytes_eq, if◌then◌else◌, option_and_then}
use Rattle.std.specs.Option.{option_map_or}
use Rattle.std.specs.List.{position_or_len}
use Rattle.orca_tree.specs.declared.tree.Name.{Name}
use Rattle.link_rules.specs.Units.{Source}
use Rattle.type_rules.specs.TopLevel as top
use Rattle.type_rules.specs.TopLevel.{StandsFor, TopName, stands_for, top_names}
use Rattle.type_rules.specs.Scopes.{Scope}
use Rattle.value_core.specs.declared.action.Class.{Class}
use Rattle.value_core.specs.declared.action.Class.TheVariants.{Reads, Writes}
use Rattle.meaning_rules.specs.Classes.{class_of}
use Rattle.meaning_rules.specs.Programs.{kind_of, op_of, process_texts}
use Rattle.site_estimates.specs.declared.estimate.Estimate.{Estimate}
use Rattle.site_estimates.specs.declared.counts.Counts.{Counts}
use Rattle.site_estimates.specs.Numbers.{one_read, one_write, plus, times}
use Rattle.site_estimates.specs.Numbers as counts
use Rattle.estimate_rules.specs.Uses.{Use, UseKind, Calls, Passes, stmts_uses}
use Rattle.estimate_rules.specs.Routines.{Routine, routine_of, count_routines, object_type_number}

-- What a function or a process does with each of its names that is an object, which stands at a position from 0, the parameters first. A
-- routine goes by its number among the names of the top level.
abbrev pub Summaries : Type 0
Summaries = ℕ → ℕ → Counts

-- ---- one use

abbrev pub class_counts : Class → Counts
class_counts Reads = one_read
class_counts Writes = one_write

-- what passing an object at a position counts, by what the name stands for that is called or forked
abbrev pub passed_counts : Summaries → ℕ → StandsFor → Counts
passed_counts summaries position (top.Top i t) = summaries i position
passed_counts summaries position _ = counts.zero

-- of an object whose type has this number: a call of an operation counts 1, and passing it on what the parameter counts
abbrev pub counts_once : Summaries → Scope → ℕ → UseKind → Counts
counts_once summaries w number (Calls operation) =
    class_counts (class_of w.program (kind_of w.program number) (op_of w.program number operation))
counts_once summaries w number (Passes to position) = passed_counts summaries position (stands_for w.program w.home to)

abbrev pub use_counts : Summaries → Scope → ℕ → Use → Counts
use_counts summaries w number u = times u.times (counts_once summaries w number u.kind)

-- ---- a parameter or a variable

-- the position of a use's name among these
abbrev pub position_of : List Name → Use → ℕ
position_of ns u = position_or_len (λ n. bytes_eq n.text u.object) ns

abbrev pub uses_at : Routine → ℕ → List Use
uses_at r position = filter (λ u. position_of r.names u == position) (stmts_uses 1 r.statements)

-- what a routine does with the object at this position, whose type has this number: all its uses, added up
abbrev pub object_counts : Summaries → Routine → ℕ → ℕ → Counts
object_counts summaries r position number = fold plus counts.zero (map (use_counts summaries r.scope number) (uses_at r position))

abbrev pub name_counts : Summaries → Routine → ℕ → Name → Counts
name_counts summaries r position n = option_map_or (object_counts summaries r position) (object_type_number r.scope n) counts.zero

abbrev pub position_counts : Summaries → ℕ → Routine → Counts
position_counts summaries position r = option_map_or (name_counts summaries r position) (slice_get r.names position) counts.zero

-- ---- rounds

abbrev pub round : List Source → Summaries → Summaries
round us summaries i position =
    option_map_or (position_counts summaries position) (option_and_then (routine_of us) (slice_get (top_names us) i)) counts.zero

abbrev pub rounds : List Source → ℕ → Summaries
rounds us zero = λ i position. counts.zero
rounds us (suc n) = round us (rounds us n)

-- after as many rounds as there are functions and processes
abbrev pub summaries_of : List Source → Summaries
summaries_of us = rounds us (count_routines us)

-- ---- sites

abbrev pub estimated : List ℕ → Name → Counts → Estimate
estimated process n a = record { process = process; variable = n.text; reads = a.reads; writes = a.writes }

-- a variable, which stands behind the parameters, that is an object
abbrev pub is_site : Routine → ℕ → Name → Bool
is_site r position n = nat_le r.parameters position && is_some (object_type_number r.scope n)

-- the sites of a process among these names, the first of which has this position
abbrev pub sites_from : Summaries → List ℕ → Routine → ℕ → List Name → List Estimate
sites_from summaries process r position [] = []
sites_from summaries process r position (n ∷ ns) =
    (if is_site r position n then estimated process n (name_counts summaries r position n) ∷ [] else [])
    ++ sites_from summaries process r (suc position) ns

abbrev pub sites_in : Summaries → List ℕ → Routine → List Estimate
sites_in summaries process r = sites_from summaries process r 0 r.names

abbrev pub process_estimates : Summaries → List Source → TopName → List Estimate
process_estimates summaries us t = option_map_or (sites_in summaries t.defined.name.text) (routine_of us t) []

-- the estimates of a program's sites, in the order of its texts
abbrev pub estimates : List Source → List Estimate
estimates us = flat_map (process_estimates (summaries_of us) us) (process_texts us)
