use Rattle.std.proofs.Common.{◌≡◌, take, drop}
use Rattle.orca_syntax.specs.Shown.{exprs, links, path}
use Rattle.type_rules.specs.declared.types.DataType.{DataType}
use Rattle.type_rules.specs.Order.{least, lesser}
use Rattle.type_rules.specs.Rules.{Found}
use Rattle.type_rules.specs.Scopes.{Scope}
use Rattle.type_rules.specs.Expressions.{arguments, chained, walked}
use Rattle.type_forms.specs.Finding.{Finds}
use Rattle.type_exprs.specs.Scoped.{IsScope}
use Rattle.type_exprs.proofs.expressions.+expressions.Given as goal

abbrev pub invariant-chained-links : goal.invariant-chained-links
invariant-chained-links l = (w : Scope) → IsScope l.scope w → (f : Found DataType) → Finds l.fn.first f →
    Finds l.left (chained w l.at f (links (take l.link-index l.links)))

abbrev pub invariant-walked-path : goal.invariant-walked-path
invariant-walked-path l = (w : Scope) → IsScope l.scope w → (f : Found DataType) → Finds l.fn.root f →
    Finds l.found (walked w f (path (take l.step-index l.path)))

abbrev pub invariant-arguments-given : goal.invariant-arguments-given
invariant-arguments-given l = (w : Scope) → IsScope l.scope w →
    lesser l.first (least (arguments w (drop l.place l.formals) (exprs (drop l.place l.given)))) ≡ least (arguments w l.formals (exprs l.given))
