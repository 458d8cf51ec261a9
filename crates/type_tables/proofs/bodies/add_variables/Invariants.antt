use Rattle.std.proofs.Common.{◌≡◌, ◌++◌, drop, map}
use Rattle.orca_syntax.specs.Shown.{variables}
use Rattle.type_rules.specs.Scopes.{variable_names}
use Rattle.type_forms.specs.Seen.{lent}
use Rattle.type_tables.proofs.bodies.add_variables.Given as goal

abbrev pub invariant-variables : goal.invariant-variables
invariant-variables l =
    lent l.all.items ++ variable_names (map variables (drop l.group-index l.variables)) ≡ lent l.initial.all.items ++ variable_names (map variables l.variables)
