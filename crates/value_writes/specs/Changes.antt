-- What a call leaves of the nodes of a graph, and what its error says.
use Rattle.std.specs.Prelude.{ℤ, List, Result, Ok, Err, is_some, if◌then◌else◌}
use Rattle.orca_base.specs.declared.fault.FaultKind.{FaultKind}
use Rattle.orca_base.specs.declared.fault.FaultKind.TheVariants.{IndexOutside}
use Rattle.value_core.specs.Datum.{Datum}
use Rattle.graph_values.specs.Graphs.{node_of, value_at, with_node, without_node}
use Rattle.value_writes.specs.declared.error.GraphError.{GraphError}
use Rattle.value_writes.specs.declared.error.GraphError.TheVariants.{Fault, NoMemory}

-- a change of nodes among which this name is
abbrev pub where_there : ℤ → List Datum → List Datum → Result (List Datum) FaultKind
where_there name nodes changed = if is_some (value_at name nodes) then Ok changed else Err IndexOutside

-- the nodes without the one with this name
abbrev pub nodes_deleted : ℤ → List Datum → Result (List Datum) FaultKind
nodes_deleted name nodes = where_there name nodes (without_node name nodes)

-- the nodes, where the one with this name has the value v
abbrev pub nodes_assigned : ℤ → Datum → List Datum → Result (List Datum) FaultKind
nodes_assigned name v nodes = where_there name nodes (with_node name (node_of name v) nodes)

-- P of the fault, where there is one; want of memory says nothing
abbrev pub IfFault : {T : Type 0} → Result T GraphError → (FaultKind → Type 0) → Type 0
IfFault (Ok x) P = Unit {0}
IfFault (Err (Fault fault)) P = P fault
IfFault (Err NoMemory) P = Unit {0}
