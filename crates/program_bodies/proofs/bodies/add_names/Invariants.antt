use Rattle.std.proofs.Common.{List, ◌++◌, map, take}
use Rattle.type_rules.specs.Scopes.{Local}
use Rattle.program_bodies.specs.Bodies.{HasLocals}
use Rattle.program_bodies.proofs.bodies.add_names.Given as goal

abbrev pub invariant-own : goal.invariant-own
invariant-own l = (ls : List Local) → HasLocals l.initial.names ls →
    HasLocals l.names (ls ++ map (λ n. record { name = n.text; role = l.role; type = l.kind }) (take l.name-index l.own))
