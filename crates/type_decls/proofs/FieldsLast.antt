-- The names of bodies: which are fields, and what they are called.
use Rattle.std.proofs.Common.{◌≡◌, ℕ, Bool, true, false, cond, ◌&&◌, List, [], ◌∷◌, ◌++◌, map, Option, refl, ap, ◌∙◌, append_assoc}
use Rattle.std.specs.Prelude.{flat_map}
use Rattle.orca_tree.specs.declared.tree.Name.{Name}
use Rattle.orca_tree.specs.declared.tree.Mode.{Mode}
use Rattle.orca_tree.specs.declared.tree.Mode.TheVariants as mode
use Rattle.orca_syntax.specs.Syntax.{Kind, Parameter, TypedName, Variables}
use Rattle.type_rules.specs.declared.types.DataType.{DataType}
use Rattle.type_rules.specs.declared.types.Measured.{Measured}
use Rattle.type_rules.specs.Rules.{Found}
use Rattle.type_rules.specs.Constants.{View}
use Rattle.type_rules.specs.declared.names.LocalRole.{LocalRole}
use Rattle.type_rules.specs.declared.names.LocalRole.TheVariants.{ObjectField, Variable}
use Rattle.type_rules.specs.Scopes.{Local, is_field, locals_of, parameter_local, role_of, texts, value_local, variable_names}
use Rattle.type_stmts.specs.Bodies.{all_fields, fields_last}

-- one name of the body in front
own_first : (l : Local) (ls : List Local) → is_field l.role ≡ false → fields_last ls ≡ true → fields_last (l ∷ ls) ≡ true
own_first l ls own h = ap (λ (b : Bool). cond b (all_fields ls) (fields_last ls)) own ∙ h

own_role : (m : Mode) → is_field (role_of m) ≡ false
own_role mode.Value = refl
own_role mode.Out = refl
own_role mode.Shared = refl

pub parameters_first : (v : View) (ps : List Parameter) (ls : List Local) → fields_last ls ≡ true → fields_last (map (parameter_local v) ps ++ ls) ≡ true
parameters_first v [] ls h = h
parameters_first v (p ∷ ps) ls h = own_first (parameter_local v p) (map (parameter_local v) ps ++ ls) (own_role p.mode) (parameters_first v ps ls h)

pub values_first : (v : View) (ts : List TypedName) (ls : List Local) → fields_last ls ≡ true → fields_last (map (value_local v) ts ++ ls) ≡ true
values_first v [] ls h = h
values_first v (t ∷ ts) ls h = own_first (value_local v t) (map (value_local v) ts ++ ls) refl (values_first v ts ls h)

abbrev pub named : LocalRole → Option DataType → List Name → List Local
named role t ns = map (λ n. record { name = n.text; role = role; type = t }) ns

names_first : (t : Option DataType) (ns : List Name) (ls : List Local) → fields_last ls ≡ true → fields_last (named Variable t ns ++ ls) ≡ true
names_first t [] ls h = h
names_first t (n ∷ ns) ls h = own_first (record { name = n.text; role = Variable; type = t }) (named Variable t ns ++ ls) refl (names_first t ns ls h)

pub variables_first : (find_kind : Kind → Found Measured) (vs : List Variables) (ls : List Local) → fields_last ls ≡ true →
    fields_last (flat_map (locals_of Variable find_kind) vs ++ ls) ≡ true
variables_first find_kind [] ls h = h
variables_first find_kind (v ∷ vs) ls h =
    ap fields_last (append_assoc (locals_of Variable find_kind v) (flat_map (locals_of Variable find_kind) vs) ls)
    ∙ names_first _ v.names (flat_map (locals_of Variable find_kind) vs ++ ls) (variables_first find_kind vs ls h)

-- ---- fields

all_named : (t : Option DataType) (ns : List Name) (ls : List Local) → all_fields ls ≡ true → all_fields (named ObjectField t ns ++ ls) ≡ true
all_named t [] ls h = h
all_named t (n ∷ ns) ls h = all_named t ns ls h

all_in : (find_kind : Kind → Found Measured) (vs : List Variables) → all_fields (flat_map (locals_of ObjectField find_kind) vs) ≡ true
all_in find_kind [] = refl
all_in find_kind (v ∷ vs) = all_named _ v.names (flat_map (locals_of ObjectField find_kind) vs) (all_in find_kind vs)

both_true : (a b : Bool) → (a && b) ≡ true → (a ≡ true) × (b ≡ true)
both_true true b h = (refl, h)
both_true false b h = absurd (cc h)

all_last : (ls : List Local) → all_fields ls ≡ true → fields_last ls ≡ true
all_last [] h = refl
all_last (l ∷ ls) h =
    let both = both_true (is_field l.role) (all_fields ls) h in
    ap (λ (b : Bool). cond b (all_fields ls) (fields_last ls)) both.0 ∙ both.1

pub only_fields : (find_kind : Kind → Found Measured) (vs : List Variables) → fields_last (flat_map (locals_of ObjectField find_kind) vs) ≡ true
only_fields find_kind vs = all_last (flat_map (locals_of ObjectField find_kind) vs) (all_in find_kind vs)

-- ---- what they are called

abbrev pub called : List Local → List (List ℕ)
called ls = map (λ l. l.name) ls

called_named : (role : LocalRole) (t : Option DataType) (ns : List Name) (ls : List Local) (ms : List Name) → called ls ≡ texts ms →
    called (named role t ns ++ ls) ≡ texts (ns ++ ms)
called_named role t [] ls ms h = h
called_named role t (n ∷ ns) ls ms h = ap (λ (l : List (List ℕ)). n.text ∷ l) (called_named role t ns ls ms h)

called_variables : (role : LocalRole) (find_kind : Kind → Found Measured) (vs : List Variables) →
    called (flat_map (locals_of role find_kind) vs) ≡ texts (variable_names vs)
called_variables role find_kind [] = refl
called_variables role find_kind (v ∷ vs) =
    called_named role _ v.names (flat_map (locals_of role find_kind) vs) (variable_names vs) (called_variables role find_kind vs)

-- the parameters and variables of an operation
pub called_own : (v : View) (find_kind : Kind → Found Measured) (ts : List TypedName) (vs : List Variables) →
    called (map (value_local v) ts ++ flat_map (locals_of Variable find_kind) vs) ≡ texts (map (λ t. t.name) ts ++ variable_names vs)
called_own v find_kind [] vs = called_variables Variable find_kind vs
called_own v find_kind (t ∷ ts) vs = ap (λ (l : List (List ℕ)). t.name.text ∷ l) (called_own v find_kind ts vs)
