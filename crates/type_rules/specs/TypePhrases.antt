-- Types as they are written, and declared types (docs/LANGUAGE.md, Types). A type goes with the size of its opening value and with how deep
-- it nests.
use Rattle.std.specs.Prelude.{ℕ, zero, suc, ◌+◌, ◌*◌, max, ℤ, pos, ◌-ℤ◌, nat_abs, int_le, nat_le, Bool, true, false, not, ◌&&◌, ◌||◌, ◌==◌, List, [], ◌∷◌, ◌++◌, length, map, filter_map, flat_map, slice_get, if◌then◌else◌, Option, Some, None, option_map}
use Rattle.std.specs.Ordering.{int_eq}
use Rattle.std.specs.List.{list_any}
use Rattle.orca_base.specs.declared.place.Place.{Place}
use Rattle.orca_base.specs.declared.limits.TheConstants.{VALUE_NESTING, VALUE_SIZE}
use Rattle.orca_tree.specs.declared.tree.Name.{Name}
use Rattle.orca_tree.specs.declared.tree.Bound.{Bound}
use Rattle.orca_tree.specs.declared.tree.Bound.TheVariants as bounds
use Rattle.orca_syntax.specs.Syntax as syn
use Rattle.orca_syntax.specs.Syntax.{Kind, TypedName, Definition}
use Rattle.orca_syntax.specs.Places.{kind_place, bound_place}
use Rattle.link_rules.specs.Units.{Source}
use Rattle.type_rules.specs.Types.{Base, Measured, plain, layered, is_object, Integer, Boolean, Character, String, NodeName, Enumeration, Record, Object, Array, Set, Bag, Graph}
use Rattle.type_rules.specs.TopLevel as top
use Rattle.type_rules.specs.TopLevel.{What, TopName, Predeclared, StandsFor, stands_for, top_names}
use Rattle.type_rules.specs.Rules.{Found, found, unless, asks, breaks, fits, are_new}
use Rattle.type_rules.specs.Constants.{View, Sense, OfBody, OfAll, sense, bound}

-- a type that has no parts: its opening value is one value, or an empty string
abbrev pub single : Base → Measured
single b = record { kind = plain b; size = 1; nesting = 1 }

-- an array opens with so many opening values of its elements; a set or bag opens empty, and so does a graph, as a number and no nodes
abbrev pub array_of : ℤ → ℤ → Measured → Measured
array_of low high m =
    record { kind = layered (Array low high) m.kind; size = 1 + (nat_abs (high -ℤ low) + 1) * m.size; nesting = 1 + m.nesting }

abbrev pub set_of : Measured → Measured
set_of m = record { kind = layered Set m.kind; size = 1; nesting = 1 + m.nesting }

abbrev pub bag_of : Measured → Measured
bag_of m = record { kind = layered Bag m.kind; size = 1; nesting = 1 + m.nesting }

abbrev pub graph_of : Measured → Measured
graph_of m = record { kind = layered Graph m.kind; size = 3; nesting = 3 + m.nesting }

-- 10. The opening value of a type has a size of at most 10,000, and the type nests at most 16 deep.
abbrev pub is_small : Measured → Bool
is_small m = nat_le m.size VALUE_SIZE && nat_le m.nesting VALUE_NESTING

abbrev pub within_limits : Place → Found Measured → Found Measured
within_limits at f = unless (f.breaches ++ asks 10 at (fits is_small f.is)) f.is

-- 6. An object type stands only as the type of a process's variable or behind `shared`: not as that of data.
abbrev pub of_data : Place → Found Measured → Found Measured
of_data at f = unless (f.breaches ++ asks 6 at (fits (λ m. not (is_object m.kind)) f.is)) f.is

-- ---- names of types

-- 5. A name in the place of a type is a type or an object type.
abbrev pub top_type : (ℕ → Option Measured) → Name → ℕ → What → Found Measured
top_type declared n i (top.TypeName of) = found (declared i)
top_type declared n i (top.Specified heads) = found (Some (single (Object i)))
top_type declared n i (top.Implemented os) = found (Some (single (Object i)))
top_type declared n i _ = unless (breaks 5 n.at) None

abbrev pub predeclared_type : Name → Predeclared → Found Measured
predeclared_type n top.NodeNameType = found (Some (single NodeName))
predeclared_type n _ = unless (breaks 5 n.at) None

-- 2. A used name is declared and visible.
abbrev pub named_type : (ℕ → Option Measured) → Name → Sense → Found Measured
named_type declared n OfBody = unless (breaks 5 n.at) None
named_type declared n (OfAll top.Nothing) = unless (breaks 2 n.at) None
named_type declared n (OfAll (top.Top i t)) = top_type declared n i t.what
named_type declared n (OfAll (top.Everywhere p)) = predeclared_type n p

-- ---- arrays and graphs

abbrev pub is_graph_name : Sense → Bool
is_graph_name (OfAll (top.Everywhere top.GraphBound)) = true
is_graph_name _ = false

-- the predeclared `graph` as a bound
abbrev pub is_graph_bound : View → Bound → Bool
is_graph_bound v (bounds.Named n) = is_graph_name (sense v n)
is_graph_bound v _ = false

abbrev pub is_number_one : Bound → Bool
is_number_one (bounds.Number at value) = int_eq value (pos 1)
is_number_one _ = false

abbrev pub at_most : Option ℤ → Option ℤ → Bool
at_most None high = true
at_most (Some low) high = fits (int_le low) high

abbrev pub array_found : Option ℤ → Option ℤ → Option Measured → Option Measured
array_found (Some low) (Some high) (Some m) = Some (array_of low high m)
array_found _ _ _ = None

-- 9. The low bound is at most the high bound. The predeclared `graph` stands only as a high bound, and then the low bound is the number 1.
abbrev pub graph_phrase : Bound → Found ℤ → Found Measured → Found Measured
graph_phrase low first element =
    unless (first.breaches ++ (asks 9 (bound_place low) (is_number_one low) ++ element.breaches)) (option_map graph_of element.is)

abbrev pub ranged_phrase : Bound → Found ℤ → Found ℤ → Found Measured → Found Measured
ranged_phrase low first last element =
    unless (first.breaches ++ (last.breaches ++ (asks 9 (bound_place low) (at_most first.is last.is) ++ element.breaches)))
    (array_found first.is last.is element.is)

abbrev pub array_phrase : View → Bound → Bound → Found Measured → Found Measured
array_phrase v low high element =
    if is_graph_bound v high then graph_phrase low (bound v low) element else ranged_phrase low (bound v low) (bound v high) element

-- a set or a bag
abbrev pub gathering_phrase : (Measured → Measured) → Found Measured → Found Measured
gathering_phrase of element = unless element.breaches (option_map of element.is)

-- ---- phrases

-- what a type phrase is, where declared types are these
abbrev pub phrase : (ℕ → Option Measured) → View → Kind → Found Measured
phrase declared v (syn.Integer at) = found (Some (single Integer))
phrase declared v (syn.Boolean at) = found (Some (single Boolean))
phrase declared v (syn.Character at) = found (Some (single Character))
phrase declared v (syn.String at) = found (Some (single String))
phrase declared v (syn.Named n) = named_type declared n (sense v n)
phrase declared v (syn.Array at low high k) = within_limits at (array_phrase v low high (of_data (kind_place k) (phrase declared v k)))
phrase declared v (syn.Set at k) = within_limits at (gathering_phrase set_of (of_data (kind_place k) (phrase declared v k)))
phrase declared v (syn.Bag at k) = within_limits at (gathering_phrase bag_of (of_data (kind_place k) (phrase declared v k)))

-- one that is the type of data
abbrev pub data_phrase : (ℕ → Option Measured) → View → Kind → Found Measured
data_phrase declared v k = of_data (kind_place k) (phrase declared v k)

-- ---- declared types

abbrev pub whole_module : List Source → TopName → View
whole_module us t = record { program = us; home = t.defined.by; names = [] }

-- the sizes of a record's fields add up, and it is one deeper than the deepest
abbrev pub with_field : Option Measured → Option Measured → Option Measured
with_field (Some f) (Some r) = Some (record { kind = r.kind; size = f.size + r.size; nesting = max (1 + f.nesting) r.nesting })
with_field _ _ = None

abbrev pub field_before : Found Measured → Found Measured → Found Measured
field_before field rest = unless (field.breaches ++ rest.breaches) (with_field field.is rest.is)

abbrev pub record_of : (ℕ → Option Measured) → View → ℕ → List TypedName → Found Measured
record_of declared v i [] = found (Some (single (Record i)))
record_of declared v i (f ∷ fs) = field_before (data_phrase declared v f.kind) (record_of declared v i fs)

-- 3. No name is declared twice among the fields of a record.
abbrev pub distinct_fields : List TypedName → Found Measured → Found Measured
distinct_fields fields f = unless (f.breaches ++ are_new (map (λ f. f.name) fields)) f.is

-- what a declared type is
abbrev pub definition : (ℕ → Option Measured) → View → ℕ → Definition → Found Measured
definition declared v i (syn.Record at fields) = within_limits at (distinct_fields fields (record_of declared v i fields))
definition declared v i (syn.Enumeration at names) = found (Some (single (Enumeration i)))
definition declared v i (syn.Alias k) = data_phrase declared v k

abbrev pub declared_what : (ℕ → Option Measured) → List Source → ℕ → TopName → What → Option Measured
declared_what declared us i t (top.TypeName of) = (definition declared (whole_module us t) i of).is
declared_what declared us i t _ = None

abbrev pub declared_top : (ℕ → Option Measured) → List Source → ℕ → Option TopName → Option Measured
declared_top declared us i None = None
declared_top declared us i (Some t) = declared_what declared us i t t.what

-- the type of this number, where it goes through so many declarations at most; one that holds itself is none
abbrev pub declared_within : List Source → ℕ → ℕ → Option Measured
declared_within us zero i = None
declared_within us (suc k) i = declared_top (declared_within us k) us i (slice_get (top_names us) i)

-- the declared type of this number; none has more declarations inside than there are names
abbrev pub declared_type : List Source → ℕ → Option Measured
declared_type us i = declared_within us (length (top_names us)) i

-- what the type phrases of a program are
abbrev pub kind_found : View → Kind → Found Measured
kind_found v k = phrase (declared_type v.program) v k

abbrev pub data_found : View → Kind → Found Measured
data_found v k = data_phrase (declared_type v.program) v k

-- ---- 8. A type doesn't hold itself

-- the names in a type phrase, and in a definition
abbrev pub names_of : Kind → List Name
names_of (syn.Named n) = n ∷ []
names_of (syn.Array at low high k) = names_of k
names_of (syn.Set at k) = names_of k
names_of (syn.Bag at k) = names_of k
names_of _ = []

abbrev pub names_within : Definition → List Name
names_within (syn.Record at fields) = flat_map (λ f. names_of f.kind) fields
names_within (syn.Enumeration at names) = []
names_within (syn.Alias k) = names_of k

abbrev pub type_number : What → ℕ → Option ℕ
type_number (top.TypeName of) i = Some i
type_number _ i = None

abbrev pub declared_number : StandsFor → Option ℕ
declared_number (top.Top i t) = type_number t.what i
declared_number _ = None

abbrev pub types_within : List Source → List ℕ → What → List ℕ
types_within us m (top.TypeName of) = filter_map (λ n. declared_number (stands_for us m n.text)) (names_within of)
types_within us m _ = []

abbrev pub types_at : List Source → Option TopName → List ℕ
types_at us None = []
types_at us (Some t) = types_within us t.defined.by t.what

-- the declared types that a declared type names
abbrev pub parts_of : List Source → ℕ → List ℕ
parts_of us i = types_at us (slice_get (top_names us) i)

-- whether a declared type leads to another, within so many declarations
abbrev pub leads_to : List Source → ℕ → ℕ → ℕ → Bool
leads_to us zero i j = i == j
leads_to us (suc k) i j = i == j || list_any (λ h. leads_to us k h j) (parts_of us i)

abbrev pub holds_itself : List Source → ℕ → Bool
holds_itself us i = list_any (λ h. leads_to us (length (top_names us)) h i) (parts_of us i)
