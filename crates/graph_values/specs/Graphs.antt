-- Graphs: nodes with names (docs/LANGUAGE.md, Graphs). A graph is a record of the name that comes next and the set of its
-- nodes, and a node a record of its name and its value.
use Rattle.std.specs.Prelude.{◌≡◌, ℤ, pos, ◌+ℤ◌, ◌≤ℤ◌, ◌<ℤ◌, Bool, List, [], ◌∷◌, ◌++◌, Option, Some, None, Result, Ok, Err, map, slice_get, unwrap_or, is_some, if◌then◌else◌}
use Rattle.std.specs.List.{All}
use Rattle.std.specs.List.Sorted.{IsStrictlySortedBy}
use Rattle.std.specs.Ordering.{int_cmp, int_eq}
use Rattle.orca_base.specs.declared.fault.FaultKind.{FaultKind}
use Rattle.orca_base.specs.declared.fault.FaultKind.TheVariants.{IndexOutside, Overflow}
use Rattle.value_core.specs.Datum.{Datum, Data, data_of, list_of}
use Rattle.value_core.specs.Datum as datum

-- a node with this name and value
abbrev pub node_of : ℤ → Datum → Datum
node_of name value = datum.fields (datum.more (datum.int name) (datum.more value datum.none))

-- a graph with this next name and these nodes
abbrev pub graph_of : ℤ → List Datum → Datum
graph_of next nodes = datum.fields (datum.more (datum.int next) (datum.more (datum.set (data_of nodes)) datum.none))

-- a graph that has given no name
abbrev pub empty_graph : Datum
empty_graph = graph_of (pos 1) []

-- the fields of a record
abbrev pub fields_in : Datum → List Datum
fields_in (datum.fields w) = list_of w
fields_in v = []

abbrev pub integer_of : Option Datum → ℤ
integer_of (Some (datum.int z)) = z
integer_of v = pos 0

abbrev pub nodes_of : Option Datum → List Datum
nodes_of (Some (datum.set w)) = list_of w
nodes_of v = []

-- the name of a node, and the next name of a graph
abbrev pub name_in : Datum → ℤ
name_in v = integer_of (slice_get (fields_in v) 0)

-- the value of a node
abbrev pub value_in : Datum → Datum
value_in v = unwrap_or (slice_get (fields_in v) 1) (datum.int (pos 0))

-- the nodes of a graph
abbrev pub nodes_in : Datum → List Datum
nodes_in g = nodes_of (slice_get (fields_in g) 1)

abbrev pub IsNode : Datum → Type 0
IsNode x = x ≡ node_of (name_in x) (value_in x)

-- a record of a next name and a set of nodes
abbrev pub HasForm : Datum → Type 0
HasForm g = g ≡ graph_of (name_in g) (nodes_in g)

-- nodes whose names rise
pub record AreNamed (xs : List Datum) : Type 0 where
  pub nodes : All IsNode xs
  pub rising : IsStrictlySortedBy int_cmp (map name_in xs)

-- a graph: its nodes' names rise, from 1 on up to below the next name
pub record IsGraph (g : Datum) : Type 0 where
  pub form : HasForm g
  pub named : AreNamed (nodes_in g)
  pub given : All (λ x. (pos 1 ≤ℤ name_in x) × (name_in x <ℤ name_in g)) (nodes_in g)
  pub next : pos 1 ≤ℤ name_in g

abbrev pub is_named : ℤ → Datum → Bool
is_named name x = int_eq (name_in x) name

-- the value of the node with this name
abbrev pub value_at : ℤ → List Datum → Option Datum
value_at name [] = None
value_at name (x ∷ xs) = if is_named name x then Some (value_in x) else value_at name xs

-- the nodes, where y stands in place of the one with this name
abbrev pub with_node : ℤ → Datum → List Datum → List Datum
with_node name y [] = []
with_node name y (x ∷ xs) = if is_named name x then y ∷ xs else x ∷ with_node name y xs

-- the nodes without the one with this name
abbrev pub without_node : ℤ → List Datum → List Datum
without_node name [] = []
without_node name (x ∷ xs) = if is_named name x then xs else x ∷ without_node name xs

-- the value of a graph's node
abbrev pub node_in : ℤ → Datum → Option Datum
node_in name g = value_at name (nodes_in g)

-- the greatest number, which is no name: a graph whose next name it is gives none
abbrev pub last_name : ℤ
last_name = pos 9223372036854775807

-- `addnode`: the new name, and the graph with its node
abbrev pub added : Datum → Datum → Result (ℤ × Datum) FaultKind
added fresh g = if int_eq (name_in g) last_name then Err Overflow
    else Ok (name_in g, graph_of (name_in g +ℤ pos 1) (nodes_in g ++ node_of (name_in g) fresh ∷ []))

-- a change of a graph that has a node with this name
abbrev pub where_named : ℤ → Datum → List Datum → Result Datum FaultKind
where_named name g nodes = if is_some (node_in name g) then Ok (graph_of (name_in g) nodes) else Err IndexOutside

-- `deletenode`
abbrev pub deleted : ℤ → Datum → Result Datum FaultKind
deleted name g = where_named name g (without_node name (nodes_in g))

-- an assignment to a node
abbrev pub assigned : ℤ → Datum → Datum → Result Datum FaultKind
assigned name v g = where_named name g (with_node name (node_of name v) (nodes_in g))
