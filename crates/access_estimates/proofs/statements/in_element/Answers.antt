use Rattle.std.proofs.Common.{List, ◌++◌, ap}
use Rattle.orca_tree.specs.declared.tree.Selector.{Selector}
use Rattle.orca_syntax.specs.Shown.{expr, path}
use Rattle.access_estimates.specs.Seen.{all_seen}
use Rattle.estimate_rules.specs.Uses.{expr_uses, path_uses}
use Rattle.access_estimates.proofs.Rest.{grows}
use Rattle.access_estimates.proofs.statements.in_element.Goals as goal

pub returns : goal.returns
returns c =
    grows c.in_path.result (all_seen c.args.out.now.items) (all_seen c.in_expression.new.out.items) _ _ _ _ (c.in_ok-in_expression.ensures {u = tt})
    (ap (λ (l : List Selector). expr_uses c.args.times (expr c.args.element.now) ++ path_uses c.args.times (path l)) c.deref.ensures.value) c.in_path.ensures
