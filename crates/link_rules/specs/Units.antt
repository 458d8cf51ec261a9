-- What the units of a program define and import (docs/LANGUAGE.md, Linking).
use Rattle.std.specs.Prelude.{ℕ, List, [], ◌∷◌, map, flat_map, codes, unwrap_or}
use Rattle.orca_tree.specs.declared.tree.Name.{Name}
use Rattle.orca_syntax.specs.Syntax as syn
use Rattle.orca_syntax.specs.Syntax.{Decl, Syntax}
use Rattle.orca_syntax.specs.Shown.{syntax_of}
use Rattle.link_rules.specs.declared.named_unit.NamedUnit.{NamedUnit}
use Rattle.link_rules.specs.declared.role.Role.{Role}
use Rattle.link_rules.specs.declared.role.Role.TheVariants.{Module, Specification, Implementation, Other}

-- the syntax of a text, and the name of its file
pub record Source : Type 0 where
  pub file : List ℕ
  pub syntax : Syntax

abbrev pub source : NamedUnit → Source
source u = record { file = u.file; syntax = syntax_of u.unit }

-- a name that is defined: a module's, or one of the top level; and the name of the module that it stands in
pub record Defined : Type 0 where
  pub role : Role
  pub by : List ℕ
  pub file : List ℕ
  pub name : Name

-- a name that is imported, and the name of the module that imports it
pub record Import : Type 0 where
  pub by : List ℕ
  pub file : List ℕ
  pub name : Name

-- a text without a `module` line is the module `Main`, which is named at its first place
abbrev pub main_module : Name
main_module = record { at = record { line = 1; column = 1 }; text = codes "Main" }

abbrev pub module_of : Syntax → Name
module_of s = unwrap_or s.name main_module

-- the values of an enumeration; any other type has none
abbrev pub values_of : syn.Definition → List Name
values_of (syn.Enumeration at names) = names
values_of (syn.Record at fields) = []
values_of (syn.Alias of) = []

-- the name of a unit's module
abbrev pub module_name : Source → List ℕ
module_name u = (module_of u.syntax).text

abbrev pub defined : List ℕ → List ℕ → Role → Name → Defined
defined by file role name = record { role = role; by = by; file = file; name = name }

-- what a declaration defines, in a module and its file: its name, and the values of an enumeration
abbrev pub defined_by : List ℕ → List ℕ → Decl → List Defined
defined_by by file (syn.Constant at name value) = defined by file Other name ∷ []
defined_by by file (syn.Declares at name of) = defined by file Other name ∷ map (defined by file Other) (values_of of)
defined_by by file (syn.Specification at name heads) = defined by file Specification name ∷ []
defined_by by file (syn.Implementation at name fields operations opening) = defined by file Implementation name ∷ []
defined_by by file (syn.Function at name parameters result body) = defined by file Other name ∷ []
defined_by by file (syn.Process at name parameters body) = defined by file Other name ∷ []

-- what a unit defines, in the order of its text: its module, and what its declarations define
abbrev pub definitions_of : Source → List Defined
definitions_of u =
    defined (module_name u) u.file Module (module_of u.syntax) ∷ flat_map (defined_by (module_name u) u.file) u.syntax.declarations

abbrev pub definitions : List Source → List Defined
definitions us = flat_map definitions_of us

-- what a unit imports, in the order of its text; a module may be imported more than once
abbrev pub imported : Source → Name → Import
imported u name = record { by = module_name u; file = u.file; name = name }

abbrev pub imports_of : Source → List Import
imports_of u = map (imported u) u.syntax.imports

abbrev pub imports : List Source → List Import
imports us = flat_map imports_of us
