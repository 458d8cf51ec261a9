-- Cited by private functions alone. What the code keeps of the parameters and variables of a function or a process, its locals.
use Rattle.std.specs.Prelude.{ℕ, List, map, Option}
use Rattle.orca_tree.specs.declared.tree.Name.{Name}
use Rattle.type_rules.specs.Scopes.{Scope}
use Rattle.estimate_rules.specs.Routines.{object_type_number}
use Rattle.access_estimates.specs.declared.locals.Local.{Local}

-- a local as plain data: its name, and the number of its object type, where it is an object
pub record PlainLocal : Type 0 where
  pub name : List ℕ
  pub object : Option ℕ

abbrev pub local_seen : Local → PlainLocal
local_seen o = record { name = o.name.now; object = o.object }

abbrev pub locals_seen : List Local → List PlainLocal
locals_seen os = map local_seen os

-- the same of a name of a body
abbrev pub named : Scope → Name → PlainLocal
named w n = record { name = n.text; object = object_type_number w n }
