use Rattle.std.proofs.Common.{◌≡◌, drop}
use Rattle.orca_syntax.specs.Shown.{arms, stmts}
use Rattle.type_rules.specs.Order.{least, lesser}
use Rattle.type_rules.specs.Scopes.{Scope}
use Rattle.type_rules.specs.Statements.{arms_breaches, stmts_breaches}
use Rattle.type_stmts.specs.Bodies.{IsBody}
use Rattle.type_stmts.proofs.statements.+statements.Given as goal

abbrev pub invariant-stmts_breach-statements : goal.invariant-stmts_breach-statements
invariant-stmts_breach-statements l = (w : Scope) → IsBody l.body w →
    lesser l.first (least (stmts_breaches w (stmts (drop l.statement-index l.statements)))) ≡ least (stmts_breaches w (stmts l.statements))

abbrev pub invariant-arms_breach-arms : goal.invariant-arms_breach-arms
invariant-arms_breach-arms l = (w : Scope) → IsBody l.body w →
    lesser l.first (least (arms_breaches w (arms (drop l.arm-index l.arms)))) ≡ least (arms_breaches w (arms l.arms))
