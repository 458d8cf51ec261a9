use Rattle.std.proofs.Common.{◌≡◌, Bool, drop, map}
use Rattle.std.specs.Prelude.{flat_map}
use Rattle.orca_syntax.specs.Shown.{guard}
use Rattle.type_rules.specs.Order.{least, lesser}
use Rattle.type_rules.specs.Scopes.{Scope}
use Rattle.type_rules.specs.Declarations.{guard_breaches}
use Rattle.type_stmts.specs.Bodies.{IsBody, guarding}
use Rattle.type_stmts.proofs.guards.guards_breach.Given as goal

abbrev pub invariant-guards : goal.invariant-guards
invariant-guards l = (w : Bool → Scope) → ((g : Bool) → IsBody (guarding l.body g) (w g)) →
    lesser l.first (least (flat_map (guard_breaches w) (map guard (drop l.guard-index l.guards)))) ≡ least (flat_map (guard_breaches w) (map guard l.guards))
