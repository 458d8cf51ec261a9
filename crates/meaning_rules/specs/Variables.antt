-- Variables (docs/LANGUAGE.md, Variables): what is read from one and stored in one.
use Rattle.std.specs.Prelude.{ℕ, List, [], length, slice_get, slice_set, ok_or, Option, Some, None, Result, Ok}
use Rattle.orca_base.specs.declared.fault.FaultKind.{FaultKind}
use Rattle.orca_base.specs.declared.fault.FaultKind.TheVariants.{IndexOutside}
use Rattle.orca_tree.specs.declared.tree.Name.{Name}
use Rattle.type_rules.specs.Scopes.{Scope}
use Rattle.value_core.specs.Datum.{Datum}
use Rattle.value_core.specs.Datum as datum
use Rattle.value_ops.specs.Elements.{inserted, deleted, least_of, without_least}
use Rattle.graph_values.specs.Graphs as graphs
use Rattle.value_paths.specs.declared.step.Step.{Step as ValueStep}
use Rattle.value_paths.specs.Paths.{part_at, with_part}
use Rattle.meaning_rules.specs.Operators.{and_then}
use Rattle.meaning_rules.specs.Operators.{integer_in, fitting}
use Rattle.meaning_rules.specs.States.{State, Out, Goes, after, gives}
use Rattle.meaning_rules.specs.Designators.{slot, named_value}

-- the value at a path of a name
abbrev pub load : Scope → Name → List ValueStep → State → Out Datum
load v n path s = gives (and_then (named_value v n s) (part_at path)) s

-- where a value is to go: a variable, by its place in the frame, and a path in it
pub record Target : Type 0 where
  pub slot : ℕ
  pub path : List ValueStep

abbrev pub target : Scope → Name → List ValueStep → Target
target v n path = record { slot = slot v n; path = path }

-- no variable
abbrev pub nowhere : Scope → Target
nowhere v = record { slot = length v.locals; path = [] }

-- the whole variable, and the value at a target
abbrev pub whole_at : Target → State → Result Datum FaultKind
whole_at to s = ok_or (slice_get s.frame to.slot) IndexOutside

abbrev pub held : Target → State → Out Datum
held to s = gives (and_then (whole_at to s) (part_at to.path)) s

-- a variable gets a new value
abbrev pub stored : ℕ → Datum → State → State
stored place whole s = record s { frame = slice_set s.frame place whole }

-- a value with its part at a path changed
abbrev pub changed_at : List ValueStep → (Datum → Result Datum FaultKind) → Datum → Result Datum FaultKind
changed_at path by whole = and_then (part_at path whole) (λ old. and_then (by old) (λ new. Ok (with_part path whole new)))

-- the variable's value with what stands at a target changed
abbrev pub changed_whole : Target → (Datum → Result Datum FaultKind) → State → Result Datum FaultKind
changed_whole to by s = and_then (whole_at to s) (changed_at to.path by)

-- what stands at a target is changed; where it may grow, the variable may then be no larger than a variable may be
abbrev pub change : Target → (Datum → Result Datum FaultKind) → State → Out (Unit {0})
change to by s = after (gives (changed_whole to by s) s) (λ whole s1. Goes tt (stored to.slot whole s1))

abbrev pub enlarge : Target → (Datum → Result Datum FaultKind) → State → Out (Unit {0})
enlarge to by s = after (gives (and_then (changed_whole to by s) fitting) s) (λ whole s1. Goes tt (stored to.slot whole s1))

-- a value is stored at a target
abbrev pub store : Target → Datum → State → Out (Unit {0})
store to value s = enlarge to (λ old. Ok value) s

-- `insert` and `delete`
abbrev pub put : Target → Datum → State → Out (Unit {0})
put to element s = enlarge to (λ all. Ok (inserted element all)) s

abbrev pub drop_element : Target → Datum → State → Out (Unit {0})
drop_element to element s = change to (λ all. Ok (deleted element all)) s

-- `from`: the least element of a set or bag goes, and is the value
abbrev pub take : Target → State → Out Datum
take to s =
    after (held to s) (λ all s1.
    after (gives (least_of all) s1) (λ least s2.
    after (change to (λ old. Ok (without_least old)) s2) (λ _ s3. Goes least s3)))

-- `addnode`: the new node's name is the value
abbrev pub add_node : Target → Datum → State → Out (Option Datum)
add_node to fresh s =
    after (held to s) (λ graph s1.
    after (gives (graphs.added fresh graph) s1) (λ new s2.
    after (store to new.1 s2) (λ _ s3. Goes (Some (datum.int new.0)) s3)))

-- `deletenode`
abbrev pub delete_node : Target → Datum → State → Out (Option Datum)
delete_node to name s = after (change to (graphs.deleted (integer_in name)) s) (λ _ s1. Goes None s1)
