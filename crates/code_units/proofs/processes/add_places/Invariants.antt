use Rattle.std.proofs.Common.{◌≡◌, ◌++◌, drop, map}
use Rattle.orca_tree.specs.declared.tree.Name.{Name}
use Rattle.code_units.proofs.processes.add_places.Given as goal

abbrev pub invariant-names : goal.invariant-names
invariant-names l =
    l.places.items ++ map (λ (n : Name). n.at) (drop l.name-index l.names) ≡ l.initial.places.items ++ map (λ (n : Name). n.at) l.names
