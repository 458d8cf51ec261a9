use Rattle.std.proofs.Common.{◌≡◌, drop}
use Rattle.orca_syntax.specs.Shown.{exprs}
use Rattle.type_rules.specs.Order.{least, lesser}
use Rattle.type_rules.specs.Scopes.{Scope}
use Rattle.type_rules.specs.Statements.{printed}
use Rattle.type_exprs.specs.Scoped.{IsScope}
use Rattle.type_stmts.proofs.wanted.printed.Given as goal

abbrev pub invariant-given : goal.invariant-given
invariant-given l = (w : Scope) → IsScope l.scope w →
    lesser l.first (least (printed w (exprs (drop l.e-index l.given)))) ≡ least (printed w (exprs l.given))
