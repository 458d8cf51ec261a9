-- The value that a variable of a type opens with (docs/LANGUAGE.md, Opening values), and the fields of records.
use Rattle.std.specs.Prelude.{ℕ, zero, suc, ◌+◌, pos, ◌-ℤ◌, nat_abs, false, List, [], ◌∷◌, map, replicate, slice_get, position, bytes_eq, unwrap_or, Option, Some, None}
use Rattle.std.specs.Option.{option_map_or}
use Rattle.orca_base.specs.declared.limits.TheConstants.{VALUE_NESTING}
use Rattle.orca_syntax.specs.Syntax as syn
use Rattle.orca_syntax.specs.Syntax.{TypedName, Definition}
use Rattle.link_rules.specs.Units.{Source}
use Rattle.type_rules.specs.declared.types.Base.{Base}
use Rattle.type_rules.specs.declared.types.Layer.{Layer}
use Rattle.type_rules.specs.declared.types.DataType.{DataType}
use Rattle.type_rules.specs.declared.types.Base.TheVariants.{Integer, Boolean, Character, String, NodeName, Enumeration, Record, Object}
use Rattle.type_rules.specs.declared.types.Layer.TheVariants.{Array, Set, Bag, Graph}
use Rattle.type_rules.specs.TopLevel as top
use Rattle.type_rules.specs.TopLevel.{What, TopName, top_names}
use Rattle.type_rules.specs.TypePhrases.{data_found, whole_module}
use Rattle.type_rules.specs.Scopes.{type_of}
use Rattle.value_core.specs.Datum.{Datum, data_of}
use Rattle.value_core.specs.Datum as datum
use Rattle.graph_values.specs.Graphs.{empty_graph}

-- ---- records

abbrev pub fields_in : Definition → List TypedName
fields_in (syn.Record at fields) = fields
fields_in (syn.Enumeration at names) = []
fields_in (syn.Alias kind) = []

abbrev pub fields_of_what : What → List TypedName
fields_of_what (top.TypeName of) = fields_in of
fields_of_what _ = []

-- the fields of the record type with this number
abbrev pub record_fields : List Source → ℕ → List TypedName
record_fields us i = option_map_or (λ t. fields_of_what t.what) (slice_get (top_names us) i) []

-- the number of its field with this name, from 0
abbrev pub field_number : List Source → ℕ → List ℕ → ℕ
field_number us i name = unwrap_or (position (λ f. bytes_eq f.name.text name) (record_fields us i)) 0

-- the types of its fields
abbrev pub types_in : List Source → TopName → List (Option DataType)
types_in us t = map (λ f. type_of (data_found (whole_module us t) f.kind)) (fields_of_what t.what)

abbrev pub field_types : List Source → ℕ → List (Option DataType)
field_types us i = option_map_or (types_in us) (slice_get (top_names us) i) []

-- ---- opening values

-- 0, false, code 0, the empty string, no node, the first name; a record as its type says. An object is made, and so has none
abbrev pub base_opening : (ℕ → Datum) → Base → Datum
base_opening of_record Integer = datum.int (pos 0)
base_opening of_record Boolean = datum.truth false
base_opening of_record Character = datum.char 0
base_opening of_record String = datum.text []
base_opening of_record NodeName = datum.int (pos 0)
base_opening of_record (Enumeration i) = datum.enumerated 0
base_opening of_record (Record i) = of_record i
base_opening of_record (Object i) = datum.object 0 0

-- the elements of an array open; sets, bags and graphs open empty
abbrev pub layers_opening : (ℕ → Datum) → List Layer → Base → Datum
layers_opening of_record [] b = base_opening of_record b
layers_opening of_record (Array low high ∷ ls) b =
    datum.array (data_of (replicate (nat_abs (high -ℤ low) + 1) (layers_opening of_record ls b)))
layers_opening of_record (Set ∷ ls) b = datum.set datum.none
layers_opening of_record (Bag ∷ ls) b = datum.bag datum.none
layers_opening of_record (Graph ∷ ls) b = empty_graph

abbrev pub type_opening : (ℕ → Datum) → Option DataType → Datum
type_opening of_record None = datum.int (pos 0)
type_opening of_record (Some t) = layers_opening of_record t.layers t.base

-- the fields of a record open; so many records at most stand in one another
abbrev pub record_opening : List Source → ℕ → ℕ → Datum
record_opening us zero i = datum.fields datum.none
record_opening us (suc k) i = datum.fields (data_of (map (type_opening (record_opening us k)) (field_types us i)))

-- the opening value of a type
abbrev pub opening : List Source → Option DataType → Datum
opening us t = type_opening (record_opening us VALUE_NESTING) t
