use Rattle.std.proofs.Common.{◌≡◌, ◌++◌, ap, ◌∙◌, rules}
use Rattle.orca_tree.specs.declared.tree.Expression.{Expression}
use Rattle.orca_tree.specs.Marks.{operand}
use Rattle.orca_tree.proofs.Rows.{chain_is}
use Rattle.parse_exprs.specs.Chains.{links_marks}
use Rattle.parse_exprs.proofs.ChainLemmas.{marks_of_some}
use Rattle.parse_exprs.proofs.factors.chain.Goals as goal

pub returns : goal.returns
returns c =
    let boxed : c.in_ok-first.first.value ≡ c.args.first = c.in_ok-first.ensures.ok in
    chain_is c.in_ok-first.first c.args.links
    ∙ marks_of_some (operand c.in_ok-first.first.value) c.args.links.items (search rules)
    ∙ ap (λ (e : Expression). operand e ++ links_marks c.args.links.items) boxed
