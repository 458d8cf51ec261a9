-- The rules of declarations (docs/LANGUAGE.md, Typing): 3, 4, 8, 11, 12, 16 and 17, and those of what stands inside.
use Rattle.std.specs.Prelude.{ℕ, Bool, true, false, not, ◌&&◌, ◌||◌, List, [], ◌∷◌, ◌++◌, length, map, drop, flat_map, bytes_eq, codes, slice_get, Option, Some, None, option_map}
use Rattle.std.specs.List.{list_any}
use Rattle.orca_tree.specs.declared.tree.Name.{Name}
use Rattle.orca_tree.specs.declared.tree.Mode.{Mode}
use Rattle.orca_tree.specs.declared.tree.Mode.TheVariants as mode
use Rattle.orca_syntax.specs.Syntax as syn
use Rattle.orca_syntax.specs.Syntax.{Kind, Stmts, TypedName, Parameter, Variables, Block, Head, Guard, Body, Operation, Definition, Decl}
use Rattle.link_rules.specs.Units.{Source, values_of}
use Rattle.link_rules.specs.declared.role.Role.TheVariants.{Implementation}
use Rattle.type_rules.specs.Types.{DataType, Measured, is_boolean}
use Rattle.type_rules.specs.TopLevel as top
use Rattle.type_rules.specs.TopLevel.{What, TopName, top_names, number_as, number_of, sees}
use Rattle.type_rules.specs.Rules.{Breach, Found, asks, breaks, agree, is_among, are_new}
use Rattle.type_rules.specs.Constants.{View, bound}
use Rattle.type_rules.specs.TypePhrases.{kind_found, data_found, declared_type, definition, holds_itself}
use Rattle.type_rules.specs.Scopes.{Local, Scope, Owner, Heads, parameter_found, parameter_local, value_local, locals_of, variable_names, own_names, texts, view_of, head_view, type_of, specification, ObjectField, Variable}
use Rattle.type_rules.specs.declared.names.Owner.TheVariants as owner
use Rattle.type_rules.specs.Statements.{wants, stmts_breaches}

-- ---- names

-- 4. A parameter, variable, loop variable or object's field doesn't bear the name of a visible top-level declaration, and in an
-- implementation not that of a field.
abbrev pub are_free : List Source → List ℕ → List (List ℕ) → List Name → List Breach
are_free us m fields ns = flat_map (λ n. asks 4 n.at (not (sees us m n.text) && not (is_among fields n.text))) ns

-- ---- types of what is declared

abbrev pub result_breaches : View → Option Kind → List Breach
result_breaches v None = []
result_breaches v (Some k) = (data_found v k).breaches

abbrev pub parameters_breaches : View → List Parameter → List Breach
parameters_breaches v ps = flat_map (λ p. (parameter_found v p.mode p.kind).breaches) ps

abbrev pub values_breaches : View → List TypedName → List Breach
values_breaches v ts = flat_map (λ t. (data_found v t.kind).breaches) ts

abbrev pub variables_breaches : (Kind → Found Measured) → List Variables → List Breach
variables_breaches find_kind vs = flat_map (λ v. (find_kind v.kind).breaches) vs

-- the type of a result, where there is one
abbrev pub result_of : View → Option Kind → Option (Option DataType)
result_of v r = option_map (λ k. type_of (data_found v k)) r

-- ---- functions and processes

abbrev pub is_shared : Mode → Bool
is_shared mode.Shared = true
is_shared _ = false

abbrev pub owner_of : List Parameter → Bool → Owner
owner_of ps true = owner.SharingFunction
owner_of ps false = owner.Function

abbrev pub block_scope : List Source → List ℕ → Owner → (Kind → Found Measured) → View → List Parameter → Option Kind → Block → Scope
block_scope us m owner find_kind v ps r b =
    record {
      program = us;
      home = m;
      locals = map (parameter_local v) ps ++ flat_map (locals_of Variable find_kind) b.variables;
      owner = owner;
      result = result_of v r;
      in_guard = false;
    }

-- a function or a process, whose variables have types of these sorts
abbrev pub block_breaches : List Source → List ℕ → Owner → (Kind → Found Measured) → View → List Parameter → Option Kind → Block →
    List Breach
block_breaches us m owner find_kind v ps r b =
    are_new (own_names ps b)
    ++ (are_free us m [] (own_names ps b)
    ++ (parameters_breaches v ps
    ++ (result_breaches v r
    ++ (variables_breaches find_kind b.variables
    ++ stmts_breaches (block_scope us m owner find_kind v ps r b) b.statements))))

abbrev pub function_breaches : List Source → List ℕ → List Parameter → Option Kind → Block → List Breach
function_breaches us m ps r b =
    block_breaches us m (owner_of ps (list_any (λ p. is_shared p.mode) ps)) (data_found (view_of us m (own_names ps b)))
    (view_of us m (own_names ps b)) ps r b

-- 6. An object type stands only as the type of a process's variable or behind `shared`.
abbrev pub process_breaches : List Source → List ℕ → List Parameter → Block → List Breach
process_breaches us m ps b =
    block_breaches us m owner.Process (kind_found (view_of us m (own_names ps b))) (view_of us m (own_names ps b)) ps None b

-- ---- 16. `OrcaMain` is a process without parameters; a process has no `out` parameter

abbrev pub is_main : Name → Bool
is_main n = bytes_eq n.text (codes "OrcaMain")

abbrev pub is_empty : {X : Type 0} → List X → Bool
is_empty [] = true
is_empty (x ∷ xs) = false

abbrev pub is_not_out : Mode → Bool
is_not_out mode.Out = false
is_not_out _ = true

abbrev pub no_main : Name → List Breach
no_main n = asks 16 n.at (not (is_main n))

abbrev pub process_form : Name → List Parameter → List Breach
process_form n ps = asks 16 n.at (not (is_main n) || is_empty ps) ++ flat_map (λ p. asks 16 p.name.at (is_not_out p.mode)) ps

-- ---- object types

-- 11. An implementation has a specification in the same module.
abbrev pub is_specified_in : List ℕ → Option Heads → Bool
is_specified_in m None = false
is_specified_in m (Some hs) = bytes_eq hs.home m

-- two parameters, or results, of an operation
abbrev pub same_parameters : View → View → List TypedName → List TypedName → Bool
same_parameters v w [] [] = true
same_parameters v w (t ∷ ts) (u ∷ us) =
    bytes_eq t.name.text u.name.text && (agree (type_of (data_found v t.kind)) (type_of (data_found w u.kind)) && same_parameters v w ts us)
same_parameters v w _ _ = false

abbrev pub same_result : View → View → Option Kind → Option Kind → Bool
same_result v w None None = true
same_result v w (Some k) (Some l) = agree (type_of (data_found v k)) (type_of (data_found w l))
same_result v w _ _ = false

abbrev pub is_same_head : View → View → Head → Head → Bool
is_same_head v w g h =
    bytes_eq g.name.text h.name.text && (same_parameters v w g.parameters h.parameters && same_result v w g.result h.result)

-- a head of an implementation sees its fields, and the names of its operation's variables
abbrev pub operation_names : Operation → List Name
operation_names o = map (λ t. t.name) o.head.parameters ++ variable_names o.variables

abbrev pub field_names : List Variables → List Name
field_names fields = variable_names fields

abbrev pub operation_view : List Source → List ℕ → List Variables → Operation → View
operation_view us m fields o = view_of us m (operation_names o ++ field_names fields)

abbrev pub is_head_of : List Source → View → List ℕ → Head → Option Head → Bool
is_head_of us v home g None = false
is_head_of us v home g (Some h) = is_same_head v (head_view us home h) g h

-- 12. An implementation's heads are its specification's: same order, names, parameter names, types and results.
abbrev pub heads_match : List Source → List ℕ → List Variables → List ℕ → List Head → List Operation → List Breach
heads_match us m fields home hs [] = []
heads_match us m fields home hs (o ∷ os) =
    asks 12 o.head.at (is_head_of us (operation_view us m fields o) home o.head (slice_get hs 0))
    ++ heads_match us m fields home (drop 1 hs) os

abbrev pub heads_of : Option Heads → List Operation → (List ℕ → List Head → List Operation → List Breach) → List Breach
heads_of None os match_heads = []
heads_of (Some hs) os match_heads = match_heads hs.home hs.heads os

abbrev pub operations_of_what : What → Option ℕ
operations_of_what (top.Implemented os) = Some (length os)
operations_of_what _ = None

abbrev pub operations_of : Option TopName → Option ℕ
operations_of None = None
operations_of (Some t) = operations_of_what t.what

abbrev pub operations_at : List Source → Option ℕ → Option ℕ
operations_at us None = None
operations_at us (Some i) = operations_of (slice_get (top_names us) i)

-- the number of operations of the implementation with this name
abbrev pub operation_count : List Source → List ℕ → Option ℕ
operation_count us n = operations_at us (number_as us Implementation n)

-- a head that the implementation lacks: the first behind those that it has
abbrev pub lacks : List Head → List Breach
lacks [] = []
lacks (h ∷ hs) = breaks 12 h.at

abbrev pub lacking : List Head → Option ℕ → List Breach
lacking hs None = []
lacking hs (Some n) = lacks (drop n hs)

-- 3. No name is declared twice among the operations of a specification.
abbrev pub specification_breaches : List Source → List ℕ → Name → List Head → List Breach
specification_breaches us m n hs =
    are_new (map (λ h. h.name) hs)
    ++ (flat_map (λ h. are_free us m [] (map (λ t. t.name) h.parameters)) hs
    ++ (flat_map (λ h. values_breaches (head_view us m h) h.parameters ++ result_breaches (head_view us m h) h.result) hs
    ++ lacking hs (operation_count us n.text)))

abbrev pub fields_view : List Source → List ℕ → List Variables → View
fields_view us m fields = view_of us m (field_names fields)

abbrev pub field_locals : List Source → List ℕ → List Variables → List Local
field_locals us m fields = flat_map (locals_of ObjectField (data_found (fields_view us m fields))) fields

abbrev pub implementation_scope : List Source → List ℕ → List Local → Option (Option DataType) → Bool → Scope
implementation_scope us m locals result in_guard =
    record { program = us; home = m; locals = locals; owner = owner.Implementation; result = result; in_guard = in_guard }

abbrev pub operation_locals : List Source → List ℕ → List Variables → Operation → List Local
operation_locals us m fields o =
    map (value_local (operation_view us m fields o)) o.head.parameters
    ++ (flat_map (locals_of Variable (data_found (operation_view us m fields o))) o.variables ++ field_locals us m fields)

-- 17. A guard is boolean.
abbrev pub guard_breaches : (Bool → Scope) → Guard → List Breach
guard_breaches scope g = wants (scope true) 17 is_boolean g.test ++ stmts_breaches (scope false) g.body

abbrev pub body_breaches : (Bool → Scope) → Body → List Breach
body_breaches scope (syn.Guarded first others) = guard_breaches scope first ++ flat_map (guard_breaches scope) others
body_breaches scope (syn.Plain ss) = stmts_breaches (scope false) ss

abbrev pub operation_breaches : List Source → List ℕ → List Variables → Operation → List Breach
operation_breaches us m fields o =
    are_new (operation_names o)
    ++ (are_free us m (texts (field_names fields)) (operation_names o)
    ++ (values_breaches (operation_view us m fields o) o.head.parameters
    ++ (result_breaches (operation_view us m fields o) o.head.result
    ++ (variables_breaches (data_found (operation_view us m fields o)) o.variables
    ++ body_breaches
    (implementation_scope us m (operation_locals us m fields o) (result_of (operation_view us m fields o) o.head.result)) o.body))))

abbrev pub opening_breaches : Scope → Option Stmts → List Breach
opening_breaches v None = []
opening_breaches v (Some ss) = stmts_breaches v ss

-- 3. No name is declared twice among the fields and operations of an implementation.
abbrev pub implementation_breaches : List Source → List ℕ → Name → List Variables → List Operation → Option Stmts → List Breach
implementation_breaches us m n fields os opening =
    asks 11 n.at (is_specified_in m (specification us n.text))
    ++ (are_new (field_names fields ++ map (λ o. o.head.name) os)
    ++ (are_free us m [] (field_names fields)
    ++ (variables_breaches (data_found (fields_view us m fields)) fields
    ++ (heads_of (specification us n.text) os (heads_match us m fields)
    ++ (flat_map (operation_breaches us m fields) os
    ++ opening_breaches (implementation_scope us m (field_locals us m fields) None false) opening)))))

-- ---- declarations

-- 8. A type doesn't hold itself.
abbrev pub holds_no_self : List Source → Name → Option ℕ → List Breach
holds_no_self us n None = []
holds_no_self us n (Some i) = asks 8 n.at (not (holds_itself us i))

abbrev pub number_or_none : Option ℕ → ℕ
number_or_none None = 0
number_or_none (Some i) = i

-- the breaches of a declaration, in a module
abbrev pub decl_breaches : List Source → List ℕ → Decl → List Breach
decl_breaches us m (syn.Constant at n value) = no_main n ++ (bound (view_of us m []) value).breaches
decl_breaches us m (syn.Declares at n of) =
    no_main n ++ (flat_map no_main (values_of of) ++ (holds_no_self us n (number_of us n.text)
    ++ (definition (declared_type us) (view_of us m []) (number_or_none (number_of us n.text)) of).breaches))
decl_breaches us m (syn.Specification at n hs) = no_main n ++ specification_breaches us m n hs
decl_breaches us m (syn.Implementation at n fields os opening) = no_main n ++ implementation_breaches us m n fields os opening
decl_breaches us m (syn.Function at n ps r b) = no_main n ++ function_breaches us m ps r b
decl_breaches us m (syn.Process at n ps b) = process_form n ps ++ process_breaches us m ps b
