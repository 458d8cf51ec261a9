use Rattle.std.proofs.Common.{◌≡◌, ◌++◌, map, take}
use Rattle.orca_syntax.specs.Shown.{operation, variables}
use Rattle.type_rules.specs.Declarations as rules
use Rattle.type_forms.specs.Seen.{lent}
use Rattle.type_decls.proofs.implementations.all_names.Given as goal

abbrev pub invariant-operations : goal.invariant-operations
invariant-operations l =
    lent l.names.items ≡ rules.field_names (map variables l.groups) ++ map (λ o. o.head.name) (map operation (take l.operation-index l.operations))
