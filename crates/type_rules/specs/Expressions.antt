-- The rules of expressions and of calls (docs/LANGUAGE.md, Typing), from 2 to 5, 13, 15, 18, 19 and 26 to 41.
use Rattle.std.specs.Prelude.{ℕ, Bool, true, false, not, ◌&&◌, ◌||◌, List, [], ◌∷◌, ◌++◌, length, find, bytes_eq, ◌==◌, slice_get, is_some, if◌then◌else◌, Option, Some, None, option_map, ◌+◌, drop}
use Rattle.std.specs.List.{list_any}
use Rattle.orca_base.specs.declared.place.Place.{Place}
use Rattle.orca_tree.specs.declared.tree.Name.{Name}
use Rattle.orca_tree.specs.declared.tree.Operator.{Operator}
use Rattle.orca_tree.specs.declared.tree.Operator.TheVariants as op
use Rattle.orca_syntax.specs.Syntax as syn
use Rattle.orca_syntax.specs.Syntax.{Expr, Links, Step, Path, Exprs, TypedName, Definition}
use Rattle.orca_syntax.specs.Places.{expr_place}
use Rattle.link_rules.specs.Units.{Source}
use Rattle.type_rules.specs.Types as types
use Rattle.type_rules.specs.Types.{DataType, Base, Layer, Outside, plain, same_type, outside_of, inside_of, object_in, is_integer, is_boolean, is_string, is_node_name, is_object, is_gathering, is_graph, is_numbered, is_counted, is_printed}
use Rattle.type_rules.specs.TopLevel as top
use Rattle.type_rules.specs.TopLevel.{What, TopName, Predeclared, StandsFor, stands_for, top_names, number_of}
use Rattle.type_rules.specs.Rules.{Breach, Found, found, unless, asks, breaks, fits, agree, each_new}
use Rattle.type_rules.specs.TypePhrases.{data_found, whole_module}
use Rattle.type_rules.specs.Scopes.{LocalRole, Local, Scope, Formal, Signature, local, type_of, signature, operation_of, may_be_object, is_plain, may_invoke, LoopVariable, SharedParameter, ByValue, Shared, Out, SomeGraph, NodeOf}

-- ---- names in the place of a value

-- 5. A name in the place of a value is a variable, parameter, loop variable, field, constant or enumeration name.
abbrev pub top_value : Scope → Name → What → Found DataType
top_value v n (top.Constant b) = found (Some (plain types.Integer))
top_value v n (top.Value of number) = found (option_map (λ i. plain (types.Enumeration i)) (number_of v.program of))
top_value v n _ = unless (breaks 5 n.at) None

abbrev pub predeclared_value : Name → Predeclared → Found DataType
predeclared_value n top.Nil = found (Some (plain types.NodeName))
predeclared_value n _ = unless (breaks 5 n.at) None

-- 2. A used name is declared and visible.
abbrev pub outer_value : Scope → Name → StandsFor → Found DataType
outer_value v n top.Nothing = unless (breaks 2 n.at) None
outer_value v n (top.Top i t) = top_value v n t.what
outer_value v n (top.Everywhere p) = predeclared_value n p

abbrev pub value_of : Scope → Name → Option Local → Found DataType
value_of v n (Some l) = found l.type
value_of v n None = outer_value v n (stands_for v.program v.home n.text)

abbrev pub named_value : Scope → Name → Found DataType
named_value v n = value_of v n (local v n.text)

-- ---- designators that may be written

abbrev pub is_changed : LocalRole → Bool
is_changed LoopVariable = false
is_changed SharedParameter = false
is_changed _ = true

-- 19. The root of a left side is a variable, a field of the object, or a parameter that isn't `shared`; it isn't a loop variable or an
-- object.
abbrev pub may_write : Local → Bool
may_write l = is_changed l.role && fits (λ t. not (is_object t)) l.type

-- the root of a designator that is to be written, for the rule that says so; an unknown name breaks rule 2
abbrev pub outer_root : ℕ → Name → StandsFor → Found DataType
outer_root rule n top.Nothing = unless (breaks 2 n.at) None
outer_root rule n _ = unless (breaks rule n.at) None

abbrev pub root_of : Scope → ℕ → Name → Option Local → Found DataType
root_of v rule n (Some l) = unless (asks rule n.at (may_write l)) l.type
root_of v rule n None = outer_root rule n (stands_for v.program v.home n.text)

abbrev pub written_root : Scope → ℕ → Name → Found DataType
written_root v rule n = root_of v rule n (local v n.text)

abbrev pub is_written : Option Local → Bool
is_written None = false
is_written (Some l) = may_write l

-- whether an argument is a designator that may be written
abbrev pub may_be_written : Scope → Expr → Bool
may_be_written v (syn.Get n p) = is_written (local v n.text)
may_be_written v _ = false

-- ---- steps to parts

abbrev pub field_in : List Source → TopName → List ℕ → Definition → Option (Option DataType)
field_in us t f (syn.Record at fields) =
    option_map (λ d. type_of (data_found (whole_module us t) d.kind)) (find (λ d. bytes_eq d.name.text f) fields)
field_in us t f _ = None

abbrev pub field_of_what : List Source → TopName → List ℕ → What → Option (Option DataType)
field_of_what us t f (top.TypeName of) = field_in us t f of
field_of_what us t f _ = None

abbrev pub field_at : List Source → List ℕ → Option TopName → Option (Option DataType)
field_at us f None = None
field_at us f (Some t) = field_of_what us t f t.what

-- of a record, the type of the field with this name
abbrev pub field_of : Scope → List ℕ → Outside → Option (Option DataType)
field_of v f (types.Bare (types.Record i)) = field_at v.program f (slice_get (top_names v.program) i)
field_of v f _ = None

-- of an array or a graph, what stands in brackets behind it
abbrev pub index_of : Outside → Option DataType
index_of (types.Within (types.Array low high)) = Some (plain types.Integer)
index_of (types.Within types.Graph) = Some (plain types.NodeName)
index_of _ = None

abbrev pub is_indexed_by : Option DataType → Option DataType → Bool
is_indexed_by None index = false
is_indexed_by (Some wanted) index = fits (same_type wanted) index

-- 40. `.f` stands on a record with that field; `[i]` stands on an array with an integer, or on a graph with a nodename.
abbrev pub field_found : Place → Option (Option DataType) → Found DataType
field_found at None = unless (breaks 40 at) None
field_found at (Some t) = found t

abbrev pub field_step : Scope → Place → Name → Option DataType → Found DataType
field_step v at f None = found None
field_step v at f (Some t) = field_found at (field_of v f.text (outside_of t))

abbrev pub index_step : Place → Found DataType → Option DataType → Found DataType
index_step at index None = unless index.breaches None
index_step at index (Some t) = unless (asks 40 at (is_indexed_by (index_of (outside_of t)) index.is) ++ index.breaches) (Some (inside_of t))

-- a step further from what was found before
abbrev pub step_found : Found DataType → Found DataType → Found DataType
step_found before step = unless (before.breaches ++ step.breaches) step.is

-- ---- operators

-- 35. Operands of `and`, `or` and `not` are boolean. 36. Operands of `+ - * / %` are integers; operands of `&` are strings.
abbrev pub operands : ℕ → (DataType → Bool) → Place → Found DataType → Place → Found DataType → DataType → Found DataType
operands rule p at left place right t =
    unless (left.breaches ++ (asks rule at (fits p left.is) ++ (right.breaches ++ asks rule place (fits p right.is)))) (Some t)

abbrev pub operand : ℕ → (DataType → Bool) → Place → Found DataType → DataType → Found DataType
operand rule p at e t = unless (e.breaches ++ asks rule at (fits p e.is)) (Some t)

-- 37. Operands of a relation have one type, no object type; the right side of `in` is a set or bag of the left side's type.
abbrev pub is_data : Option DataType → Bool
is_data t = fits (λ t. not (is_object t)) t

abbrev pub are_compared : Option DataType → Option DataType → Bool
are_compared left right = agree left right && (is_data left && is_data right)

abbrev pub relation : Place → Found DataType → Found DataType → Found DataType
relation at left right =
    unless (left.breaches ++ (right.breaches ++ asks 37 at (are_compared left.is right.is))) (Some (plain types.Boolean))

abbrev pub holds_element : Option DataType → Option DataType → Bool
holds_element None all = fits is_gathering all
holds_element (Some t) all = fits (λ u. is_gathering u && same_type t (inside_of u)) all

abbrev pub membership : Found DataType → Place → Found DataType → Found DataType
membership left place right =
    unless (left.breaches ++ (right.breaches ++ asks 37 place (holds_element left.is right.is))) (Some (plain types.Boolean))

-- two operands, the first at the first place and the second at the second
abbrev pub joined : Operator → Place → Found DataType → Place → Found DataType → Found DataType
joined op.Or at left place right = operands 35 is_boolean at left place right (plain types.Boolean)
joined op.And at left place right = operands 35 is_boolean at left place right (plain types.Boolean)
joined op.Equal at left place right = relation at left right
joined op.Different at left place right = relation at left right
joined op.Less at left place right = relation at left right
joined op.AtMost at left place right = relation at left right
joined op.Greater at left place right = relation at left right
joined op.AtLeast at left place right = relation at left right
joined op.In at left place right = membership left place right
joined op.Join at left place right = operands 36 is_string at left place right (plain types.String)
joined op.Add at left place right = operands 36 is_integer at left place right (plain types.Integer)
joined op.Subtract at left place right = operands 36 is_integer at left place right (plain types.Integer)
joined op.Multiply at left place right = operands 36 is_integer at left place right (plain types.Integer)
joined op.Divide at left place right = operands 36 is_integer at left place right (plain types.Integer)
joined op.Remainder at left place right = operands 36 is_integer at left place right (plain types.Integer)

-- ---- sets and bags

-- 38. `insert`, `delete` and `from` have a designator that may be written of a set or bag; the element has its element type.
abbrev pub gathering : Place → Found DataType → Found DataType
gathering at d = unless (d.breaches ++ asks 38 at (fits is_gathering d.is)) d.is

abbrev pub is_element : Option DataType → Option DataType → Bool
is_element None all = true
is_element (Some t) all = fits (λ u. same_type t (inside_of u)) all

-- ---- arguments

abbrev pub named_here : Scope → Expr → Option Local
named_here v (syn.Get n syn.here) = local v n.text
named_here v _ = None

abbrev pub has_object : Option Local → Bool
has_object None = false
has_object (Some l) = may_be_object l.role && fits is_object l.type

-- 30. An argument has its parameter's type.
-- 31. An argument for `shared` is the name of an object variable or `shared` parameter of that object type.
-- 32. An argument for `out` is a designator that may be written, of the parameter's type.
-- 41. The argument of `addnode` and the second argument of `deletenode` are designators of a graph type that may be written; the first
-- argument of `deletenode` is a nodename.
abbrev pub suits : Scope → Formal → Expr → Option DataType → List Breach
suits v (ByValue t) e u = asks 30 (expr_place e) (agree t u)
suits v (Shared t) e u = asks 30 (expr_place e) (agree t u) ++ asks 31 (expr_place e) (has_object (named_here v e))
suits v (Out t) e u = asks 30 (expr_place e) (agree t u) ++ asks 32 (expr_place e) (may_be_written v e)
suits v SomeGraph e u = asks 41 (expr_place e) (may_be_written v e && fits is_graph u)
suits v NodeOf e u = asks 41 (expr_place e) (fits is_node_name u)

abbrev pub root_in : Expr → List Name
root_in (syn.Get n p) = n ∷ []
root_in _ = []

abbrev pub lent_root : List Formal → Expr → List Name
lent_root (Out t ∷ fs) e = root_in e
lent_root _ e = []

-- the roots of the arguments for `out`
abbrev pub lent_roots : List Formal → Exprs → List Name
lent_roots fs syn.no_expr = []
lent_roots fs (syn.expr e es) = lent_root fs e ++ lent_roots (drop 1 fs) es

-- 32. No two arguments for `out` of one call have one root.
abbrev pub roots_differ : List Formal → Exprs → List Breach
roots_differ fs es = each_new 32 [] (lent_roots fs es)

abbrev pub count_of : Exprs → ℕ
count_of syn.no_expr = 0
count_of (syn.expr e es) = 1 + count_of es

-- ---- what is called

pub data Called : Type 0 where
  Unknown NoFunction : Called
  AFunction : Signature → Called
  AGraphFunction : Signature → Called

abbrev pub top_function : Scope → TopName → What → Called
top_function v t (top.Function ps r b) = AFunction (signature v.program t.defined.by ps r b)
top_function v t _ = NoFunction

-- `addnode` has one parameter and a result, and `deletenode` has two and none
abbrev pub predeclared_function : Predeclared → Called
predeclared_function top.AddNode = AGraphFunction (record { formals = SomeGraph ∷ []; result = Some (Some (plain types.NodeName)) })
predeclared_function top.DeleteNode = AGraphFunction (record { formals = NodeOf ∷ SomeGraph ∷ []; result = None })
predeclared_function _ = NoFunction

abbrev pub outer_function : Scope → StandsFor → Called
outer_function v top.Nothing = Unknown
outer_function v (top.Top i t) = top_function v t t.what
outer_function v (top.Everywhere p) = predeclared_function p

abbrev pub function_of : Scope → List ℕ → Option Local → Called
function_of v n (Some l) = NoFunction
function_of v n None = outer_function v (stands_for v.program v.home n)

abbrev pub called : Scope → Name → Called
called v n = function_of v n.text (local v n.text)

-- a call in an expression gives a value, and one as a statement none
pub data Use : Type 0 where
  AsValue AsStatement : Use

-- 33. A call as a statement has no result; a call in an expression has one.
abbrev pub is_used_well : Use → Option (Option DataType) → Bool
is_used_well AsValue r = is_some r
is_used_well AsStatement r = not (is_some r)

abbrev pub is_shared : Formal → Bool
is_shared (Shared t) = true
is_shared _ = false

abbrev pub is_out : Formal → Bool
is_out (Out t) = true
is_out _ = false

abbrev pub result_type : Option (Option DataType) → Option DataType
result_type None = None
result_type (Some t) = t

-- what a call's own rules say, apart from its arguments: 33 at the call's first token, 29 at the called name.
-- 29. There are as many arguments as parameters.
abbrev pub called_well : Use → Place → Name → Signature → Exprs → List Breach
called_well way at n s es = asks 33 at (is_used_well way s.result) ++ asks 29 n.at (length s.formals == count_of es)

-- 15. A function with a `shared` parameter is called only in a process or in a function with a `shared` parameter.
-- 18. A guard holds no `from`, no `addnode`, no `deletenode` and no call of a function with an `out` parameter.
-- 26. The name before `(` is a function.
abbrev pub function_rules : Scope → Use → Name → Exprs → Called → List Breach
function_rules v way n es Unknown = breaks 2 n.at
function_rules v way n es NoFunction = breaks 26 n.at
function_rules v way n es (AFunction s) =
    asks 15 n.at (may_invoke v.owner || not (list_any is_shared s.formals))
    ++ (asks 18 n.at (not (v.in_guard && list_any is_out s.formals)) ++ called_well way n.at n s es)
function_rules v way n es (AGraphFunction s) = asks 18 n.at (not v.in_guard) ++ called_well way n.at n s es

abbrev pub signature_of : Called → Signature
signature_of (AFunction s) = s
signature_of (AGraphFunction s) = s
signature_of _ = record { formals = []; result = None }

-- ---- operations

pub data Invoked : Type 0 where
  UnknownObject NoObject Untyped NoOperation : Invoked
  AnOperation : Signature → Invoked

abbrev pub of_operation : Option Signature → Invoked
of_operation None = NoOperation
of_operation (Some s) = AnOperation s

abbrev pub of_object : Scope → Name → Option ℕ → Invoked
of_object v m None = NoObject
of_object v m (Some i) = of_operation (operation_of v.program i m.text)

abbrev pub of_type : Scope → Name → Option DataType → Invoked
of_type v m None = Untyped
of_type v m (Some t) = of_object v m (object_in (outside_of t))

abbrev pub outer_object : StandsFor → Invoked
outer_object top.Nothing = UnknownObject
outer_object _ = NoObject

abbrev pub of_local : Scope → Name → Name → Option Local → Invoked
of_local v o m (Some l) = if may_be_object l.role then of_type v m l.type else NoObject
of_local v o m None = outer_object (stands_for v.program v.home o.text)

abbrev pub invoked : Scope → Name → Name → Invoked
invoked v o m = of_local v o m (local v o.text)

-- 27. The name before `$` is an object variable or a `shared` parameter. 28. The name behind `$` is an operation of that object type.
abbrev pub operation_rules : Use → Name → Name → Exprs → Invoked → List Breach
operation_rules way o m es UnknownObject = breaks 2 o.at
operation_rules way o m es NoObject = breaks 27 o.at
operation_rules way o m es Untyped = []
operation_rules way o m es NoOperation = breaks 28 m.at
operation_rules way o m es (AnOperation s) = called_well way o.at m s es

abbrev pub invoked_signature : Invoked → Signature
invoked_signature (AnOperation s) = s
invoked_signature _ = record { formals = []; result = None }

-- 1. An implementation holds no operation call. 13. An operation call stands only in a process or in a function with a `shared` parameter.
abbrev pub acts : Scope → Place → List Breach
acts v at = asks 1 at (is_plain v.owner) ++ asks 13 at (may_invoke v.owner)

-- ---- what was found of a phrase, from its parts

abbrev pub suits_first : Scope → List Formal → Expr → Option DataType → List Breach
suits_first v [] e t = []
suits_first v (f ∷ fs) e t = suits v f e t

-- 18. A guard holds no `from`.
abbrev pub taken : Scope → Place → Found DataType → Found DataType
taken v at d = unless (asks 18 at (not v.in_guard) ++ d.breaches) (option_map inside_of d.is)

abbrev pub call_found : Scope → Use → Name → Exprs → Called → List Breach → Found DataType
call_found v way n es c inside =
    unless (function_rules v way n es c ++ (inside ++ roots_differ (signature_of c).formals es)) (result_type (signature_of c).result)

abbrev pub invoke_found : Scope → Use → Name → Name → Exprs → Invoked → List Breach → Found DataType
invoke_found v way o m es i inside =
    unless (acts v o.at ++ (operation_rules way o m es i ++ inside)) (result_type (invoked_signature i).result)

-- ---- expressions

abbrev mutual
  -- the type of an expression, and its breaches
  pub typed : Scope → Expr → Found DataType
  typed v (syn.Chain first ls) = chained v (expr_place first) (typed v first) ls
  typed v (syn.Number at value) = found (Some (plain types.Integer))
  typed v (syn.Char at code) = found (Some (plain types.Character))
  typed v (syn.Text at text) = found (Some (plain types.String))
  typed v (syn.Truth at value) = found (Some (plain types.Boolean))
  typed v (syn.Not at e) = operand 35 is_boolean (expr_place e) (typed v e) (plain types.Boolean)
  typed v (syn.Negative at e) = operand 36 is_integer (expr_place e) (typed v e) (plain types.Integer)
  typed v (syn.Parentheses at e) = typed v e
  typed v (syn.From at n p) = taken v at (gathering n.at (walked v (written_root v 38 n) p))
  typed v (syn.Size at e) = operand 39 is_counted (expr_place e) (typed v e) (plain types.Integer)
  typed v (syn.Ordinal at e) = operand 39 is_numbered (expr_place e) (typed v e) (plain types.Integer)
  typed v (syn.Get n p) = walked v (named_value v n) p
  typed v (Expr.Call n es) = call_found v AsValue n es (called v n) (arguments v (signature_of (called v n)).formals es)
  typed v (Expr.Invoke o m es) = invoke_found v AsValue o m es (invoked v o m) (arguments v (invoked_signature (invoked v o m)).formals es)

  -- operators from the left, behind a first operand that begins at this place
  pub chained : Scope → Place → Found DataType → Links → Found DataType
  chained v at left syn.no_link = left
  chained v at left (syn.link o e ls) = chained v at (joined o at left (expr_place e) (typed v e)) ls

  -- a path from what was found of its root
  pub walked : Scope → Found DataType → Path → Found DataType
  walked v d syn.here = d
  walked v d (syn.to s p) = walked v (step_found d (stepped v d.is s)) p

  pub stepped : Scope → Option DataType → Step → Found DataType
  stepped v t (syn.Field at f) = field_step v at f t
  stepped v t (syn.Index at e) = index_step at (typed v e) t

  -- arguments, each with its parameter where there is one
  pub arguments : Scope → List Formal → Exprs → List Breach
  arguments v fs syn.no_expr = []
  arguments v fs (syn.expr e es) = (typed v e).breaches ++ (suits_first v fs e (typed v e).is ++ arguments v (drop 1 fs) es)
