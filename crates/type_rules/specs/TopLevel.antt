-- The names of the top level (docs/LANGUAGE.md, Names): what each is, by which number it goes, and which a module sees; and the names that
-- every module has beside them.
use Rattle.std.specs.Prelude.{ℕ, zero, suc, Bool, false, ◌&&◌, ◌||◌, List, [], ◌∷◌, flat_map, position, bytes_eq, codes, slice_get, if◌then◌else◌, Option, Some, None}
use Rattle.orca_tree.specs.declared.tree.Name.{Name}
use Rattle.orca_tree.specs.declared.tree.Bound.{Bound}
use Rattle.orca_syntax.specs.Syntax as syn
use Rattle.orca_syntax.specs.Syntax.{Kind, Parameter, Block, Head, Operation, Definition, Decl}
use Rattle.link_rules.specs.declared.role.Role.{Role}
use Rattle.link_rules.specs.declared.role.Role.TheVariants.{Specification, Implementation, Other}
use Rattle.link_rules.specs.Units.{Source, Defined, defined, module_name, values_of}
use Rattle.link_rules.specs.Rules.{is_role}
use Rattle.link_rules.specs.Visible.{is_seen}
pub use Rattle.type_rules.specs.declared.names.Predeclared.{Predeclared}
pub use Rattle.type_rules.specs.declared.names.Predeclared.TheVariants.{GraphBound, NodeNameType, Nil, AddNode, DeleteNode}

-- what a name of the top level is; a value has the name of its enumeration, and its number there; an object type has two halves, with the
-- heads of its operations and the operations themselves
pub data What : Type 0 where
  Constant : Bound → What
  TypeName : Definition → What
  Value : List ℕ → ℕ → What
  Specified : List Head → What
  Implemented : List Operation → What
  Function : List Parameter → Option Kind → Block → What
  Process : List Parameter → Block → What

-- a name of the top level, with its module and its file
pub record TopName : Type 0 where
  pub defined : Defined
  pub what : What

abbrev pub top_at : List ℕ → List ℕ → Role → Name → What → TopName
top_at by file role name what = record { defined = defined by file role name; what = what }

-- what a declaration declares its name as
abbrev pub role_in : Decl → Role
role_in (syn.Specification at n heads) = Specification
role_in (syn.Implementation at n fields operations opening) = Implementation
role_in _ = Other

abbrev pub name_in : Decl → Name
name_in (syn.Constant at n value) = n
name_in (syn.Declares at n of) = n
name_in (syn.Specification at n heads) = n
name_in (syn.Implementation at n fields operations opening) = n
name_in (syn.Function at n parameters result body) = n
name_in (syn.Process at n parameters body) = n

abbrev pub what_in : Decl → What
what_in (syn.Constant at n value) = Constant value
what_in (syn.Declares at n of) = TypeName of
what_in (syn.Specification at n heads) = Specified heads
what_in (syn.Implementation at n fields operations opening) = Implemented operations
what_in (syn.Function at n parameters result body) = Function parameters result body
what_in (syn.Process at n parameters body) = Process parameters body

-- the values of an enumeration, numbered from here on
abbrev pub values_at : List ℕ → List ℕ → List ℕ → ℕ → List Name → List TopName
values_at by file of number [] = []
values_at by file of number (n ∷ ns) = top_at by file Other n (Value of number) ∷ values_at by file of (suc number) ns

-- the names of values that a declaration declares
abbrev pub values_in : Decl → List Name
values_in (syn.Declares at n of) = values_of of
values_in _ = []

-- the names that a declaration brings to the top level of a module
abbrev pub names_in : List ℕ → List ℕ → Decl → List TopName
names_in by file d = top_at by file (role_in d) (name_in d) (what_in d) ∷ values_at by file (name_in d).text zero (values_in d)

abbrev pub unit_names : Source → List TopName
unit_names u = flat_map (names_in (module_name u) u.file) u.syntax.declarations

-- the names of a program's top level, in the order of the files and of their texts
abbrev pub top_names : List Source → List TopName
top_names us = flat_map unit_names us

abbrev pub bears : List ℕ → TopName → Bool
bears n t = bytes_eq t.defined.name.text n

-- a name is declared as this
abbrev pub is_as : Role → List ℕ → TopName → Bool
is_as role n t = is_role role t.defined.role && bears n t

-- the number of a name that is declared as this: its place among the names of the top level
abbrev pub number_as : List Source → Role → List ℕ → Option ℕ
number_as us role n = position (is_as role n) (top_names us)

abbrev pub or_else : Option ℕ → Option ℕ → Option ℕ
or_else None other = other
or_else (Some i) other = Some i

-- an object type goes by the number of its specification, or, where it has none, of its implementation
abbrev pub number_of : List Source → List ℕ → Option ℕ
number_of us n = or_else (number_as us Specification n) (or_else (number_as us Implementation n) (number_as us Other n))

abbrev pub is_seen_top : List Source → List ℕ → Option TopName → Bool
is_seen_top us m None = false
is_seen_top us m (Some t) = is_seen us m t.defined

abbrev pub is_seen_at : List Source → List ℕ → Option ℕ → Bool
is_seen_at us m None = false
is_seen_at us m (Some i) = is_seen_top us m (slice_get (top_names us) i)

-- a module sees a name where it sees its declaration; of an object type, either half
abbrev pub sees : List Source → List ℕ → List ℕ → Bool
sees us m n =
    is_seen_at us m (number_as us Specification n)
    || (is_seen_at us m (number_as us Implementation n) || is_seen_at us m (number_as us Other n))

-- ---- names that every module has

abbrev pub predeclared : List ℕ → Option Predeclared
predeclared n =
    if bytes_eq n (codes "graph") then Some GraphBound
    else if bytes_eq n (codes "nodename") then Some NodeNameType
    else if bytes_eq n (codes "nil") then Some Nil
    else if bytes_eq n (codes "addnode") then Some AddNode
    else if bytes_eq n (codes "deletenode") then Some DeleteNode
    else None

-- ---- what a name stands for in a module, where no name of a body hides it

pub data StandsFor : Type 0 where
  Nothing : StandsFor
  Top : ℕ → TopName → StandsFor
  Everywhere : Predeclared → StandsFor

abbrev pub everywhere : Option Predeclared → StandsFor
everywhere None = Nothing
everywhere (Some p) = Everywhere p

abbrev pub numbered : ℕ → Option TopName → StandsFor
numbered i None = Nothing
numbered i (Some t) = Top i t

abbrev pub at_number : List Source → Option ℕ → StandsFor
at_number us None = Nothing
at_number us (Some i) = numbered i (slice_get (top_names us) i)

abbrev pub stands_for : List Source → List ℕ → List ℕ → StandsFor
stands_for us m n = if sees us m n then at_number us (number_of us n) else everywhere (predeclared n)
