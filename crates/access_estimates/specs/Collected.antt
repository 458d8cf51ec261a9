-- Cited by private functions alone. The parameters and variables of a body, of which the variables may be objects or not, and their object
-- types.
use Rattle.std.specs.Prelude.{ℕ, Bool, List, ◌++◌, map, flat_map, find, bytes_eq, Option, None, option_and_then}
use Rattle.std.specs.Option.{option_map_or}
use Rattle.orca_tree.specs.declared.tree.Name.{Name}
use Rattle.orca_syntax.specs.Syntax.{Block, Parameter}
use Rattle.type_rules.specs.declared.types.DataType.{DataType}
use Rattle.type_rules.specs.Types.{object_in, outside_of}
use Rattle.type_rules.specs.Constants.{View}
use Rattle.type_rules.specs.declared.names.LocalRole.TheVariants.{Variable}
use Rattle.type_rules.specs.Scopes.{Local, locals_of, parameter_local}
use Rattle.type_exprs.specs.declared.scope.Local as tree
use Rattle.type_decls.specs.Bodies.{variable_found}
use Rattle.access_estimates.specs.Locals.{PlainLocal}

abbrev pub locals_in : Bool → View → List Parameter → Block → List Local
locals_in objects w ps b = map (parameter_local w) ps ++ flat_map (locals_of Variable (variable_found objects w)) b.variables

abbrev pub object_kind : Option DataType → Option ℕ
object_kind t = option_and_then (λ t. object_in (outside_of t)) t

-- a name with the number of its object type, as these have it
abbrev pub named_in : List Local → Name → PlainLocal
named_in ls n = record { name = n.text; object = object_kind (option_map_or (λ l. l.type) (find (λ l. bytes_eq l.name n.text) ls) None) }

-- the object type of what the table has
abbrev pub object_by : Option tree.Local → Option ℕ
object_by o = object_kind (option_map_or (λ l. l.kind) o None)
