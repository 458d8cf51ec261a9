use Rattle.std.proofs.Common.{◌≡◌, ◌++◌, drop}
use Rattle.orca_syntax.specs.Shown.{exprs}
use Rattle.type_rules.specs.Expressions.{lent_roots}
use Rattle.type_forms.specs.Seen.{lent}
use Rattle.type_exprs.proofs.lending.lent_roots.Given as goal

abbrev pub invariant-given : goal.invariant-given
invariant-given l = lent l.names.items ++ lent_roots (drop l.place l.formals) (exprs (drop l.place l.given)) ≡ lent_roots l.formals (exprs l.given)
