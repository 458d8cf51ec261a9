-- The classes of all operations in a table: a list for each object type, by its number, of its operations by theirs.
use Rattle.std.specs.Prelude.{List, [], map, slice_get, unwrap_or}
use Rattle.std.specs.Option.{option_map_or}
use Rattle.orca_base.specs.declared.ids.KindNo.{KindNo}
use Rattle.orca_base.specs.declared.ids.OpNo.{OpNo}
use Rattle.link_rules.specs.Units.{Source}
use Rattle.type_rules.specs.TopLevel.{TopName}
use Rattle.value_core.specs.declared.action.Class.{Class}
use Rattle.value_core.specs.declared.action.Class.TheVariants.{Writes}
use Rattle.meaning_rules.specs.Classes.{operation_class}
use Rattle.meaning_rules.specs.Programs.{ObjectType, specified}

-- the class at a place; a write where nothing stands
abbrev pub class_at_place : List (List Class) → KindNo → OpNo → Class
class_at_place table kind op = unwrap_or (slice_get (unwrap_or (slice_get table kind.0) []) op.0) Writes

-- the classes of the operations of an implementation, and of the object type that a name of the top level specifies
abbrev pub type_classes : List Source → ObjectType → List Class
type_classes us t = map (operation_class us t) t.operations

abbrev pub specified_classes : List Source → TopName → List Class
specified_classes us t = option_map_or (type_classes us) (specified us t) []
