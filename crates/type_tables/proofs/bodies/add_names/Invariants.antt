use Rattle.std.proofs.Common.{◌≡◌, ◌++◌, take}
use Rattle.type_forms.specs.Seen.{lent}
use Rattle.type_tables.proofs.bodies.add_names.Given as goal

abbrev pub invariant-names : goal.invariant-names
invariant-names l = lent l.all.items ≡ lent l.initial.all.items ++ take l.name-index l.names
