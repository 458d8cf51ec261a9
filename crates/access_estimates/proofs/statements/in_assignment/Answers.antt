use Rattle.std.proofs.Common.{List, ◌++◌, ap}
use Rattle.orca_tree.specs.declared.tree.Selector.{Selector}
use Rattle.orca_syntax.specs.Shown.{expr, path}
use Rattle.access_estimates.specs.Seen.{all_seen}
use Rattle.estimate_rules.specs.Uses.{expr_uses, path_uses}
use Rattle.access_estimates.proofs.Rest.{grows}
use Rattle.access_estimates.proofs.statements.in_assignment.Goals as goal

pub returns : goal.returns
returns c =
    grows c.in_expression.result (all_seen c.args.out.now.items) (all_seen c.in_path.new.out.items) _ _ _ _ (c.in_ok-in_path.ensures {u = tt})
    (ap (λ (l : List Selector). path_uses c.args.times (path l) ++ expr_uses c.args.times (expr c.args.value.now)) c.deref.ensures.value) c.in_expression.ensures
