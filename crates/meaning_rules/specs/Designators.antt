-- Designators (docs/LANGUAGE.md, Names and designators): what a name stands for, what type a path leads to, and by which steps.
use Rattle.std.specs.Prelude.{ℕ, ℤ, pos, List, bytes_eq, slice_get, unwrap_or, ok_or, Option, Some, None, Result, Ok}
use Rattle.std.specs.Option.{option_map_or}
use Rattle.std.specs.List.{position_or_len}
use Rattle.orca_base.specs.declared.fault.FaultKind.{FaultKind}
use Rattle.orca_base.specs.declared.fault.FaultKind.TheVariants.{IndexOutside}
use Rattle.orca_tree.specs.declared.tree.Name.{Name}
use Rattle.orca_syntax.specs.Syntax as syn
use Rattle.orca_syntax.specs.Syntax.{Expr, Step, Path}
use Rattle.link_rules.specs.Units.{Source}
use Rattle.type_rules.specs.declared.types.Base.TheVariants as base
use Rattle.type_rules.specs.declared.types.Layer.TheVariants as layer
use Rattle.type_rules.specs.Types as types
use Rattle.type_rules.specs.declared.types.DataType.{DataType}
use Rattle.type_rules.specs.Types.{Outside, outside_of, inside_of}
use Rattle.type_rules.specs.TopLevel as top
use Rattle.type_rules.specs.TopLevel.{What, StandsFor, stands_for}
use Rattle.type_rules.specs.declared.names.Chain.{Chain}
use Rattle.type_rules.specs.declared.names.Chain.TheVariants.{EndsAt}
use Rattle.type_rules.specs.Constants.{chain_from}
use Rattle.type_rules.specs.Scopes.{Scope, Local, local}
use Rattle.type_rules.specs.Expressions.{field_of}
use Rattle.value_core.specs.Datum.{Datum}
use Rattle.value_core.specs.Datum as datum
use Rattle.value_paths.specs.declared.step.Step.TheVariants.{Field, Index, Node}
use Rattle.value_paths.specs.declared.step.Step.{Step as ValueStep}
use Rattle.meaning_rules.specs.Openings.{field_number}
use Rattle.meaning_rules.specs.Operators.{integer_in}
use Rattle.meaning_rules.specs.States.{State}

-- ---- names

-- the place of a name in the scope, and so of its value in the frame; behind them all where the body has no such name
abbrev pub slot : Scope → Name → ℕ
slot v n = position_or_len (λ l. bytes_eq l.name n.text) v.locals

-- a constant is its number, an enumeration's name its place among its names, and `nil` the name of no node
abbrev pub constant : Chain → Datum
constant (EndsAt value) = datum.int value
constant _ = datum.int (pos 0)

abbrev pub top_value : List Source → ℕ → What → Datum
top_value us i (top.Constant b) = constant (chain_from us i)
top_value us i (top.Value of number) = datum.enumerated number
top_value us i _ = datum.int (pos 0)

abbrev pub outer_value : List Source → StandsFor → Datum
outer_value us (top.Top i t) = top_value us i t.what
outer_value us _ = datum.int (pos 0)

-- the value of a name: that of the frame, where the body has the name, and else of the top level
abbrev pub value_in : Scope → Name → State → Option Local → Result Datum FaultKind
value_in v n s (Some l) = ok_or (slice_get s.frame (slot v n)) IndexOutside
value_in v n s None = Ok (outer_value v.program (stands_for v.program v.home n.text))

abbrev pub named_value : Scope → Name → State → Result Datum FaultKind
named_value v n s = value_in v n s (local v n.text)

-- ---- types of paths

abbrev pub root_type : Scope → Name → Option DataType
root_type v n = option_map_or (λ l. l.type) (local v n.text) None

-- the type behind a step
abbrev pub stepped_type : Scope → Option DataType → Step → Option DataType
stepped_type v None x = None
stepped_type v (Some t) (syn.Field at f) = unwrap_or (field_of v f.text (outside_of t)) None
stepped_type v (Some t) (syn.Index at e) = Some (inside_of t)

abbrev pub path_type : Scope → Option DataType → Path → Option DataType
path_type v t syn.here = t
path_type v t (syn.to x p) = path_type v (stepped_type v t x) p

abbrev pub designator_type : Scope → Expr → Option DataType
designator_type v (syn.Get n p) = path_type v (root_type v n) p
designator_type v _ = None

-- ---- steps through values

-- the step to a record's field
abbrev pub field_of_base : List Source → List ℕ → Outside → ValueStep
field_of_base us f (types.Bare (base.Record i)) = Field (field_number us i f)
field_of_base us f _ = Field 0

abbrev pub step_to_field : Scope → Option DataType → Name → ValueStep
step_to_field v None f = Field 0
step_to_field v (Some t) f = field_of_base v.program f.text (outside_of t)

-- the step by an index: to an array's element, or to the node of a graph
abbrev pub index_into : Outside → ℤ → ValueStep
index_into (types.Within (layer.Array low high)) index = Index low index
index_into (types.Within layer.Graph) index = Node index
index_into _ index = Node index

abbrev pub step_by_index : Option DataType → Datum → ValueStep
step_by_index None index = Node (integer_in index)
step_by_index (Some t) index = index_into (outside_of t) (integer_in index)
