-- Counts of what lists of a tree show, as code goes over them.
use Rattle.std.specs.Prelude.{ℕ, ◌+◌, List, length, map, Option, Some, None, Vec}
use Rattle.std.specs.List.{sum_by}
use Rattle.std.specs.declared.alloc.Global.{Global}
use Rattle.orca_tree.specs.declared.tree.Declaration.{Declaration}
use Rattle.orca_tree.specs.declared.tree.Guard.{Guard}
use Rattle.orca_tree.specs.declared.tree.Head.{Head}
use Rattle.orca_tree.specs.declared.tree.Operation.{Operation}
use Rattle.orca_tree.specs.declared.tree.Statement.{Statement}
use Rattle.orca_tree.specs.declared.tree.Variables.{Variables}
use Rattle.orca_syntax.specs.Shown as shown
use Rattle.type_rules.specs.Scopes.{variable_names}
use Rattle.link_rules.specs.Units.{source}
use Rattle.link_rules.specs.declared.named_unit.NamedUnit.{NamedUnit}
use Rattle.accepted_law.specs.Limits.{loops_in_all, names_declared, names_in_head, names_in_operation, words_in}

abbrev pub loops_in_guards : List Guard → ℕ
loops_in_guards gs = sum_by (λ g. loops_in_all g.body) (map shown.guard gs)

abbrev pub names_of_variables : List Variables → ℕ
names_of_variables vs = length (variable_names (map shown.variables vs))

abbrev pub names_in_heads : List Head → ℕ
names_in_heads hs = sum_by names_in_head (map shown.head hs)

abbrev pub names_in_operations : List Operation → ℕ
names_in_operations os = sum_by names_in_operation (map shown.operation os)

abbrev pub names_in_declarations : List Declaration → ℕ
names_in_declarations ds = sum_by names_declared (map shown.decl ds)

abbrev pub names_in_opening : Option (Vec Statement Global) → ℕ
names_in_opening None = 0
names_in_opening (Some ss) = loops_in_all (shown.stmts ss.items)

abbrev pub names_in_implementation : List Variables → List Operation → Option (Vec Statement Global) → ℕ
names_in_implementation fs os opening = 1 + (names_of_variables fs + (names_in_operations os + names_in_opening opening))

abbrev pub words_in_units : List NamedUnit → ℕ
words_in_units us = sum_by words_in (map source us)
