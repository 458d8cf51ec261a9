use Rattle.std.proofs.Common.{Option, sym, ap}
use Rattle.std.specs.Prelude.{option_map}
use Rattle.orca_tree.specs.declared.tree.Expression.{Expression}
use Rattle.orca_syntax.specs.Shown.{expr}
use Rattle.access_estimates.specs.Seen.{all_seen}
use Rattle.estimate_rules.specs.Uses.{uses_if_any}
use Rattle.access_estimates.proofs.Rest.{same}
use Rattle.access_estimates.proofs.expressions.in_any.Goals as goal

pub returns-in-Some : goal.returns-in-Some
returns-in-Some c =
    same c.in_expression.result (all_seen c.args.out.now.items) _ _ _ (ap (λ (o : Option Expression). uses_if_any c.args.times (option_map expr o)) (sym c.in-Some.is)) c.in_expression.ensures
