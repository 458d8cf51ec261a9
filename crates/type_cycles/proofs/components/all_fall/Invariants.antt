use Rattle.std.proofs.Common.{◌≡◌, drop}
use Rattle.std.specs.List.{list_all}
use Rattle.type_cycles.specs.Components.{falls_to}
use Rattle.type_cycles.proofs.components.all_fall.Given as goal

abbrev pub invariant-parts : goal.invariant-parts
invariant-parts l = list_all (falls_to l.members l.count l.own) (drop l.part-index l.parts) ≡ list_all (falls_to l.members l.count l.own) l.parts
