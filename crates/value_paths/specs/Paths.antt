-- Parts of values at the ends of paths, and values with another part there (docs/LANGUAGE.md, Operators).
use Rattle.std.specs.Prelude.{◌≡◌, ◌≢◌, ◌⊎◌, ℕ, List, [], ◌∷◌, Option, Some, None, Result, Ok, Err, IfOk, length, slice_get, slice_set}
use Rattle.orca_base.specs.declared.fault.FaultKind.{FaultKind}
use Rattle.orca_base.specs.declared.fault.FaultKind.TheVariants.{IndexOutside}
use Rattle.value_core.specs.Datum.{Datum, data_of, list_of}
use Rattle.value_core.specs.Datum as datum
use Rattle.value_ops.specs.Sizes.{place_of}
use Rattle.graph_values.specs.Graphs.{IsGraph, fields_in, graph_of, name_in, node_in, node_of, nodes_in, with_node}
use Rattle.value_paths.specs.declared.step.Step.{Step}
use Rattle.value_paths.specs.declared.step.Step.TheVariants.{Index, Field, Node}

-- the parts of an array
abbrev pub array_in : Datum → List Datum
array_in (datum.array w) = list_of w
array_in v = []

-- a part that is there
abbrev pub found : Option Datum → Result Datum FaultKind
found None = Err IndexOutside
found (Some x) = Ok x

abbrev pub at_place : Result ℕ FaultKind → List Datum → Result Datum FaultKind
at_place (Ok place) xs = found (slice_get xs place)
at_place (Err fault) xs = Err fault

-- the part to which one step leads: of an array by its index, of a record by its field, of a graph by the node's name
abbrev pub part_to : Step → Datum → Result Datum FaultKind
part_to (Index low index) v = at_place (place_of (length (array_in v)) low index) (array_in v)
part_to (Field place) v = found (slice_get (fields_in v) place)
part_to (Node name) v = found (node_in name v)

abbrev pub and_then : Result Datum FaultKind → (Datum → Result Datum FaultKind) → Result Datum FaultKind
and_then (Ok x) f = f x
and_then (Err fault) f = Err fault

-- the part at the end of a path, or the fault of the first step that leads nowhere
abbrev pub part_at : List Step → Datum → Result Datum FaultKind
part_at [] v = Ok v
part_at (step ∷ path) v = and_then (part_to step v) (part_at path)

abbrev pub set_place : Result ℕ FaultKind → List Datum → Datum → List Datum
set_place (Ok place) xs x = slice_set xs place x
set_place (Err fault) xs x = xs

-- a value with x in place of the part to which one step leads
abbrev pub with_step : Step → Datum → Datum → Datum
with_step (Index low index) v x = datum.array (data_of (set_place (place_of (length (array_in v)) low index) (array_in v) x))
with_step (Field place) v x = datum.fields (data_of (slice_set (fields_in v) place x))
with_step (Node name) v x = graph_of (name_in v) (with_node name (node_of name x) (nodes_in v))

abbrev pub where_found : Result Datum FaultKind → Datum → (Datum → Datum) → Datum
where_found (Ok x) v f = f x
where_found (Err fault) v f = v

-- a value with x in place of the part at the end of a path
abbrev pub with_part : List Step → Datum → Datum → Datum
with_part [] v x = x
with_part (step ∷ path) v x = where_found (part_to step v) v (λ p. with_step step v (with_part path p x))

-- a value at which a step can be taken: a step to a node asks for a graph
abbrev pub CanStep : Step → Datum → Type 0
CanStep (Index low index) v = Unit {0}
CanStep (Field place) v = Unit {0}
CanStep (Node name) v = IsGraph v

-- each step of a path can be taken where it begins
abbrev pub CanWalk : List Step → Datum → Type 0
CanWalk [] v = Unit {0}
CanWalk (step ∷ path) v = CanStep step v × IfOk (part_to step v) (CanWalk path)

-- two steps of one kind that lead to different parts
abbrev pub LeadApart : Step → Step → Datum → Type 0
LeadApart (Index low i) (Index bound j) v = place_of (length (array_in v)) low i ≢ place_of (length (array_in v)) bound j
LeadApart (Field i) (Field j) v = i ≢ j
LeadApart (Node m) (Node n) v = m ≢ n
LeadApart s t v = ⊥

-- two paths that lead the same way up to steps that lead to different parts
abbrev pub GoApart : List Step → List Step → Datum → Type 0
GoApart (s ∷ path) (t ∷ other) v = LeadApart s t v ⊎ ((s ≡ t) × IfOk (part_to s v) (GoApart path other))
GoApart path other v = ⊥
