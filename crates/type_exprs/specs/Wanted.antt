-- What a rule wants a type to be.
use Rattle.std.specs.Prelude.{Bool, Option, Some, None}
use Rattle.type_rules.specs.declared.types.Base.{Base}
use Rattle.type_rules.specs.declared.types.Layer.{Layer}
use Rattle.type_rules.specs.declared.types.DataType.{DataType}
use Rattle.type_rules.specs.Types.{Outside, Bare, Within, is_boolean, is_integer, is_string, is_node_name, is_gathering, is_graph, is_numbered, is_counted, is_printed}
use Rattle.type_exprs.specs.declared.kinds.Wanted.{Wanted}
use Rattle.type_exprs.specs.declared.kinds.Wanted.TheVariants as wants

abbrev pub test : Wanted → DataType → Bool
test wants.Boolean = is_boolean
test wants.Integer = is_integer
test wants.Text = is_string
test wants.NodeName = is_node_name
test wants.Gathering = is_gathering
test wants.Graph = is_graph
test wants.Numbered = is_numbered
test wants.Counted = is_counted
test wants.Printed = is_printed

-- what a type is, by its outermost layer and its base
abbrev pub outside_by : Option Layer → Base → Outside
outside_by None b = Bare b
outside_by (Some l) b = Within l
