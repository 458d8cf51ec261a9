-- Bodies: their names, and what may stand in them (docs/LANGUAGE.md, Names).
use Rattle.std.specs.Prelude.{ℕ, Bool, true, false, ◌&&◌, List, ◌++◌, map, flat_map, find, bytes_eq, slice_get, Option, Some, None, option_map}
use Rattle.orca_tree.specs.declared.tree.Name.{Name}
use Rattle.orca_tree.specs.declared.tree.Mode.{Mode}
use Rattle.orca_tree.specs.declared.tree.Mode.TheVariants as mode
use Rattle.orca_syntax.specs.Syntax as syn
use Rattle.orca_syntax.specs.Syntax.{Kind, TypedName, Parameter, Variables, Block, Head}
use Rattle.orca_syntax.specs.Places.{kind_place}
use Rattle.link_rules.specs.Units.{Source}
use Rattle.link_rules.specs.declared.role.Role.TheVariants.{Specification}
use Rattle.type_rules.specs.Types.{DataType, Measured, is_object}
pub use Rattle.type_rules.specs.declared.names.LocalRole.{LocalRole}
pub use Rattle.type_rules.specs.declared.names.LocalRole.TheVariants.{ObjectField, LoopVariable, Variable, ValueParameter, OutParameter, SharedParameter}
pub use Rattle.type_rules.specs.declared.names.Owner.{Owner}
pub use Rattle.type_rules.specs.declared.names.Owner.TheVariants as owner
pub use Rattle.type_rules.specs.declared.signature.Formal.{Formal}
pub use Rattle.type_rules.specs.declared.signature.Formal.TheVariants.{ByValue, Shared, Out, SomeGraph, NodeOf}
pub use Rattle.type_rules.specs.declared.signature.Signature.{Signature}
use Rattle.type_rules.specs.TopLevel as top
use Rattle.type_rules.specs.TopLevel.{What, TopName, top_names, number_as}
use Rattle.type_rules.specs.Rules.{Found, unless, asks, fits}
use Rattle.type_rules.specs.Constants.{View}
use Rattle.type_rules.specs.TypePhrases.{kind_found, data_found}

-- ---- names of a body

-- a name of a body, or a field of its object
pub record Local : Type 0 where
  pub name : List ℕ
  pub role : LocalRole
  pub type : Option DataType

-- where an expression or a statement stands: the names that it sees, the innermost first; the result of the body, where it has one; and
-- whether it is a guard
pub record Scope : Type 0 where
  pub program : List Source
  pub home : List ℕ
  pub locals : List Local
  pub owner : Owner
  pub result : Option (Option DataType)
  pub in_guard : Bool

abbrev pub local : Scope → List ℕ → Option Local
local v n = find (λ l. bytes_eq l.name n) v.locals

abbrev pub is_field : LocalRole → Bool
is_field ObjectField = true
is_field _ = false

-- what may be an object: a variable, and a `shared` parameter
abbrev pub may_be_object : LocalRole → Bool
may_be_object Variable = true
may_be_object SharedParameter = true
may_be_object _ = false

-- ---- types of parameters, variables and fields

abbrev pub type_of : Found Measured → Option DataType
type_of f = option_map (λ m. m.kind) f.is

abbrev pub is_name : Kind → Bool
is_name (syn.Named n) = true
is_name _ = false

-- 7. Behind `shared` stands an object type; a phrase that is no name is none, whatever stands inside.
abbrev pub of_object : Kind → Found Measured → Found Measured
of_object k f = unless (f.breaches ++ asks 7 (kind_place k) (is_name k && fits (λ m. is_object m.kind) f.is)) f.is

abbrev pub shared_found : View → Kind → Found Measured
shared_found v k = of_object k (kind_found v k)

abbrev pub parameter_found : View → Mode → Kind → Found Measured
parameter_found v mode.Value k = data_found v k
parameter_found v mode.Out k = data_found v k
parameter_found v mode.Shared k = shared_found v k

abbrev pub role_of : Mode → LocalRole
role_of mode.Value = ValueParameter
role_of mode.Out = OutParameter
role_of mode.Shared = SharedParameter

abbrev pub parameter_local : View → Parameter → Local
parameter_local v p = record { name = p.name.text; role = role_of p.mode; type = type_of (parameter_found v p.mode p.kind) }

abbrev pub value_local : View → TypedName → Local
value_local v t = record { name = t.name.text; role = ValueParameter; type = type_of (data_found v t.kind) }

-- names of one type, which was found of its phrase
abbrev pub locals_of : LocalRole → (Kind → Found Measured) → Variables → List Local
locals_of role find_kind vs = map (λ n. record { name = n.text; role = role; type = type_of (find_kind vs.kind) }) vs.names

abbrev pub variable_names : List Variables → List Name
variable_names vs = flat_map (λ v. v.names) vs

abbrev pub texts : List Name → List (List ℕ)
texts ns = map (λ n. n.text) ns

-- the names of a function or a process, and of an operation
abbrev pub own_names : List Parameter → Block → List Name
own_names ps b = map (λ p. p.name) ps ++ variable_names b.variables

abbrev pub view_of : List Source → List ℕ → List Name → View
view_of us m ns = record { program = us; home = m; names = texts ns }

-- ---- what a call passes

abbrev pub passed : Mode → Option DataType → Formal
passed mode.Value t = ByValue t
passed mode.Out t = Out t
passed mode.Shared t = Shared t

abbrev pub formal : View → Parameter → Formal
formal v p = passed p.mode (type_of (parameter_found v p.mode p.kind))

-- the signature of a function or a process, in its own module and among its own names
abbrev pub signature : List Source → List ℕ → List Parameter → Option Kind → Block → Signature
signature us m ps r b =
    record {
      formals = map (formal (view_of us m (own_names ps b))) ps;
      result = option_map (λ k. type_of (data_found (view_of us m (own_names ps b)) k)) r;
    }

abbrev pub head_view : List Source → List ℕ → Head → View
head_view us m h = view_of us m (map (λ t. t.name) h.parameters)

-- and of an operation, by its head in the specification
abbrev pub operation_signature : List Source → List ℕ → Head → Signature
operation_signature us m h =
    record {
      formals = map (λ t. ByValue (type_of (data_found (head_view us m h) t.kind))) h.parameters;
      result = option_map (λ k. type_of (data_found (head_view us m h) k)) h.result;
    }

-- ---- object types

pub record Heads : Type 0 where
  pub home : List ℕ
  pub heads : List Head

abbrev pub heads_in : TopName → What → Option Heads
heads_in t (top.Specified hs) = Some (record { home = t.defined.by; heads = hs })
heads_in t _ = None

abbrev pub specification_of : Option TopName → Option Heads
specification_of None = None
specification_of (Some t) = heads_in t t.what

-- the specification of the object type with this number
abbrev pub specification_at : List Source → Option ℕ → Option Heads
specification_at us None = None
specification_at us (Some i) = specification_of (slice_get (top_names us) i)

-- and of the one with this name
abbrev pub specification : List Source → List ℕ → Option Heads
specification us n = specification_at us (number_as us Specification n)

abbrev pub operation_in : List Source → List ℕ → Option Heads → Option Signature
operation_in us n None = None
operation_in us n (Some hs) = option_map (operation_signature us hs.home) (find (λ h. bytes_eq h.name.text n) hs.heads)

-- the signature of an object type's operation
abbrev pub operation_of : List Source → ℕ → List ℕ → Option Signature
operation_of us i n = operation_in us n (specification_at us (Some i))

-- ---- what may stand in a body

-- 1. An implementation holds no operation call, no `fork` and no `WriteLine`.
abbrev pub is_plain : Owner → Bool
is_plain owner.Implementation = false
is_plain _ = true

-- 13. An operation call or `WriteLine` stands only in a process or in a function with a `shared` parameter.
-- 15. A function with a `shared` parameter is called only there.
abbrev pub may_invoke : Owner → Bool
may_invoke owner.Process = true
may_invoke owner.SharingFunction = true
may_invoke _ = false

-- 14. `fork` stands only in a process.
abbrev pub may_fork : Owner → Bool
may_fork owner.Process = true
may_fork _ = false
