-- The bodies of a program, by their numbers, and what each sees (docs/LANGUAGE.md, Bodies).
use Rattle.std.specs.Prelude.{ℕ, zero, suc, Bool, true, false, List, flat_map, filter, filter_map, length, take, position, slice_get, bytes_eq, codes, unwrap_or, if◌then◌else◌, Option, Some, None, option_and_then}
use Rattle.std.specs.List.{list_any}
use Rattle.orca_base.specs.declared.ids.KindNo.{KindNo}
use Rattle.orca_base.specs.declared.ids.OpNo.{OpNo}
use Rattle.orca_base.specs.declared.ids.TextNo.{TextNo}
use Rattle.orca_syntax.specs.Syntax as syn
use Rattle.orca_syntax.specs.Syntax.{Kind, Stmts, Parameter, Variables, Operation, Block, Decl}
use Rattle.link_rules.specs.Units.{Source}
use Rattle.link_rules.specs.declared.role.Role.TheVariants.{Specification}
use Rattle.link_rules.specs.Rules.{is_role}
use Rattle.link_rules.specs.Declarations.{declarations}
use Rattle.type_rules.specs.TopLevel as top
use Rattle.type_rules.specs.TopLevel.{What, TopName, top_names, bears}
use Rattle.type_rules.specs.declared.types.DataType.{DataType}
use Rattle.type_rules.specs.Constants.{View}
use Rattle.type_rules.specs.TypePhrases.{kind_found, data_found}
use Rattle.type_rules.specs.declared.names.Owner.{Owner}
use Rattle.type_rules.specs.declared.names.LocalRole.TheVariants.{Variable}
use Rattle.type_rules.specs.Scopes.{Local, Scope, Heads, view_of, own_names, locals_of, specification_at}
use Rattle.type_rules.specs.declared.names.Owner.TheVariants as owner
use Rattle.type_rules.specs.Declarations.{owner_of, is_shared, block_scope, implementation_scope, operation_locals, operation_view, field_locals, result_of}

-- ---- numbers

-- object types are numbered from 1, in the order of their specifications; 0 is that of the output object
abbrev pub is_specification : TopName → Bool
is_specification t = is_role Specification t.defined.role

abbrev pub specifications : List Source → List TopName
specifications us = filter is_specification (top_names us)

-- the number of the object type whose specification is this one of the top level's names
abbrev pub kind_of : List Source → ℕ → KindNo
kind_of us i = record { 0 = suc (length (filter is_specification (take i (top_names us)))) }

-- operations are numbered from 0, in the order of their heads
abbrev pub op_in : List ℕ → Heads → Option ℕ
op_in name hs = position (λ h. bytes_eq h.name.text name) hs.heads

abbrev pub op_of : List Source → ℕ → List ℕ → OpNo
op_of us i name = record { 0 = unwrap_or (option_and_then (op_in name) (specification_at us (Some i))) 0 }

-- and the texts of processes from 0, in order of declaration
abbrev pub is_process : What → Bool
is_process (top.Process ps b) = true
is_process _ = false

abbrev pub process_texts : List Source → List TopName
process_texts us = filter (λ t. is_process t.what) (top_names us)

abbrev pub text_of : List Source → List ℕ → TextNo
text_of us name = record { 0 = unwrap_or (position (bears name) (process_texts us)) 0 }

abbrev pub main_text : List Source → TextNo
main_text us = text_of us (codes "OrcaMain")

-- ---- object types

-- an implementation, in its module
pub record ObjectType : Type 0 where
  pub home : List ℕ
  pub fields : List Variables
  pub operations : List Operation
  pub begins : Option Stmts

abbrev pub implements : List ℕ → List ℕ → Decl → Option ObjectType
implements name m (syn.Implementation at n fields operations begins) =
    if bytes_eq n.text name then Some (record { home = m; fields = fields; operations = operations; begins = begins }) else None
implements name m _ = None

-- the implementation of the object type with this name
abbrev pub implementation : List Source → List ℕ → Option ObjectType
implementation us name = slice_get (filter_map (λ x. implements name x.by x.decl) (declarations us)) 0

abbrev pub specified : List Source → TopName → Option ObjectType
specified us t = implementation us t.defined.name.text

-- and of the one with this number: the output object has none
abbrev pub type_at : List Source → ℕ → Option ObjectType
type_at us zero = None
type_at us (suc k) = option_and_then (specified us) (slice_get (specifications us) k)

abbrev pub object_type : List Source → KindNo → Option ObjectType
object_type us kind = type_at us kind.0

-- ---- what a body sees: its parameters, its variables and its object's fields, in this order

abbrev pub block_view : List Source → List ℕ → List Parameter → Block → View
block_view us m ps b = view_of us m (own_names ps b)

abbrev pub function_owner : List Parameter → Owner
function_owner ps = owner_of ps (list_any (λ p. is_shared p.mode) ps)

abbrev pub function_scope : List Source → List ℕ → List Parameter → Option Kind → Block → Scope
function_scope us m ps r b =
    block_scope us m (function_owner ps) (data_found (block_view us m ps b)) (block_view us m ps b) ps r b

abbrev pub process_scope : List Source → List ℕ → List Parameter → Block → Scope
process_scope us m ps b = block_scope us m owner.Process (kind_found (block_view us m ps b)) (block_view us m ps b) ps None b

abbrev pub result_in : List Source → ObjectType → Operation → Option (Option DataType)
result_in us t o = result_of (operation_view us t.home t.fields o) o.head.result

abbrev pub operation_scope : List Source → ObjectType → Operation → Bool → Scope
operation_scope us t o in_guard =
    implementation_scope us t.home (operation_locals us t.home t.fields o) (result_in us t o) in_guard

abbrev pub begin_scope : List Source → ObjectType → Scope
begin_scope us t = implementation_scope us t.home (field_locals us t.home t.fields) None false

-- the variables of an operation
abbrev pub operation_variables : List Source → ObjectType → Operation → List Local
operation_variables us t o = flat_map (locals_of Variable (data_found (operation_view us t.home t.fields o))) o.variables
