use Rattle.std.proofs.Common.{◌≡◌, ◌++◌, drop, map}
use Rattle.std.specs.Prelude.{flat_map}
use Rattle.orca_tree.specs.declared.tree.Name.{Name}
use Rattle.orca_tree.specs.declared.tree.Variables.{Variables}
use Rattle.code_units.proofs.processes.declared_at.Given as goal

abbrev pub invariant-groups : goal.invariant-groups
invariant-groups l =
    l.places.items ++ flat_map (λ (own : Variables). map (λ (n : Name). n.at) own.names.items) (drop l.own-index l.variables)
    ≡ flat_map (λ (own : Variables). map (λ (n : Name). n.at) own.names.items) l.variables
