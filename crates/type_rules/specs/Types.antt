-- What types there are, and when two are one (docs/LANGUAGE.md, Types). A type has layers round a base: `array [1..3] of set of char` has
-- the layers `array [1..3]` and `set`, from the outermost, and the base `char`. Enumerations, records and object types go by name alone:
-- a base has the number of the name among the names of the top level (TopLevel.antt).
use Rattle.std.specs.Prelude.{ℕ, Bool, true, false, ◌&&◌, ◌==◌, List, [], ◌∷◌, Option, Some, None, drop, is_some, ◌||◌}
use Rattle.std.specs.Ordering.{int_eq}
pub use Rattle.type_rules.specs.declared.types.Base.{Base}
pub use Rattle.type_rules.specs.declared.types.Base.TheVariants.{Integer, Boolean, Character, String, NodeName, Enumeration, Record, Object}
pub use Rattle.type_rules.specs.declared.types.Layer.{Layer}
pub use Rattle.type_rules.specs.declared.types.Layer.TheVariants.{Array, Set, Bag, Graph}
pub use Rattle.type_rules.specs.declared.types.DataType.{DataType}
pub use Rattle.type_rules.specs.declared.types.Measured.{Measured}

abbrev pub plain : Base → DataType
plain b = record { layers = []; base = b }

abbrev pub layered : Layer → DataType → DataType
layered l t = record { layers = l ∷ t.layers; base = t.base }

-- ---- one type

abbrev pub same_base : Base → Base → Bool
same_base Integer Integer = true
same_base Boolean Boolean = true
same_base Character Character = true
same_base String String = true
same_base NodeName NodeName = true
same_base (Enumeration i) (Enumeration j) = i == j
same_base (Record i) (Record j) = i == j
same_base (Object i) (Object j) = i == j
same_base _ _ = false

abbrev pub same_layer : Layer → Layer → Bool
same_layer (Array low high) (Array low' high') = int_eq low low' && int_eq high high'
same_layer Set Set = true
same_layer Bag Bag = true
same_layer Graph Graph = true
same_layer _ _ = false

abbrev pub same_layers : List Layer → List Layer → Bool
same_layers [] [] = true
same_layers (l ∷ ls) (m ∷ ms) = same_layer l m && same_layers ls ms
same_layers _ _ = false

abbrev pub same_type : DataType → DataType → Bool
same_type t u = same_layers t.layers u.layers && same_base t.base u.base

-- ---- what a type is

-- of a type without layers its base, and of any other its outermost layer
pub data Outside : Type 0 where
  Bare : Base → Outside
  Within : Layer → Outside

abbrev pub outside : List Layer → Base → Outside
outside [] b = Bare b
outside (l ∷ ls) b = Within l

abbrev pub outside_of : DataType → Outside
outside_of t = outside t.layers t.base

-- of a layered type, what the layer is of
abbrev pub inside_of : DataType → DataType
inside_of t = record { layers = drop 1 t.layers; base = t.base }

abbrev pub is_integer : DataType → Bool
is_integer t = same_type t (plain Integer)

abbrev pub is_boolean : DataType → Bool
is_boolean t = same_type t (plain Boolean)

abbrev pub is_string : DataType → Bool
is_string t = same_type t (plain String)

abbrev pub is_node_name : DataType → Bool
is_node_name t = same_type t (plain NodeName)

-- the number of an object type
abbrev pub object_in : Outside → Option ℕ
object_in (Bare (Object i)) = Some i
object_in _ = None

abbrev pub is_object : DataType → Bool
is_object t = is_some (object_in (outside_of t))

abbrev pub gathers : Outside → Bool
gathers (Within Set) = true
gathers (Within Bag) = true
gathers _ = false

-- a set or a bag
abbrev pub is_gathering : DataType → Bool
is_gathering t = gathers (outside_of t)

abbrev pub links_nodes : Outside → Bool
links_nodes (Within Graph) = true
links_nodes _ = false

abbrev pub is_graph : DataType → Bool
is_graph t = links_nodes (outside_of t)

abbrev pub numbers_values : Outside → Bool
numbers_values (Bare Character) = true
numbers_values (Bare (Enumeration i)) = true
numbers_values _ = false

-- what `ord` may have
abbrev pub is_numbered : DataType → Bool
is_numbered t = numbers_values (outside_of t)

-- what `size` may have
abbrev pub is_counted : DataType → Bool
is_counted t = is_gathering t || is_string t

abbrev pub is_written : Outside → Bool
is_written (Bare Integer) = true
is_written (Bare Boolean) = true
is_written (Bare Character) = true
is_written (Bare String) = true
is_written (Bare (Enumeration i)) = true
is_written _ = false

-- what `WriteLine` may have
abbrev pub is_printed : DataType → Bool
is_printed t = is_written (outside_of t)
