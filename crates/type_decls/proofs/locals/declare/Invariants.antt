use Rattle.std.proofs.Common.{◌≤◌, List, ◌++◌, length, drop, map}
use Rattle.type_rules.specs.Scopes as scopes
use Rattle.type_decls.specs.Bodies.{AreLocals}
use Rattle.type_decls.proofs.locals.declare.Given as goal

abbrev pub invariant-names : goal.invariant-names
invariant-names l = (l.left ≤ length l.names)
    × ((ls : List scopes.Local) → AreLocals l.initial.locals ls →
    AreLocals l.locals (map (λ n. record { name = n.text; role = l.role; type = l.kind }) (drop l.left l.names) ++ ls))

abbrev pub decreases-names : goal.decreases-names
decreases-names l = l.left
