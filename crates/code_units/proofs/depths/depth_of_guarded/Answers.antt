use Rattle.std.proofs.Common.{ℕ, List, ap, ◌∙◌}
use Rattle.std.specs.Prelude.{max}
use Rattle.orca_tree.specs.declared.tree.Statement.{Statement}
use Rattle.orca_syntax.specs.Shown.{stmts}
use Rattle.code_rules.specs.Phrases.{depth_all}
use Rattle.code_units.proofs.depths.depth_of_guarded.Goals as goal

pub returns : goal.returns
returns c =
    c.larger.ensures
    ∙ ap (λ (k : ℕ). max k c.in_ok-more.more) ((c.in_ok-own.ensures {u = tt}) ∙ ap (λ (ss : List Statement). depth_all (stmts ss)) c.deref.ensures.value)
    ∙ ap (λ (k : ℕ). max (depth_all (stmts c.args.first.now.body.items)) k) (c.in_ok-more.ensures {u = tt})
