use Rattle.std.proofs.Common.{List, ◌++◌, ap, ◌∙◌}
use Rattle.orca_tree.specs.declared.tree.Name.{Name}
use Rattle.type_forms.specs.Seen.{lent}
use Rattle.type_forms.proofs.Loops.{appended}
use Rattle.type_exprs.proofs.Pushed.{root_more}
use Rattle.type_exprs.proofs.lending.lent_roots.Goals as goal

pub given-preserved : goal.given-preserved
given-preserved c =
    appended (lent c.given.names.items) (lent c.add.new.names.items) _ _ _ _
    (c.in_ok-add.ensures {u = tt} ∙ ap (λ (l : List Name). lent c.given.names.items ++ l) c.lent_root-root.ensures)
    (root_more c.args.formals.now c.args.given.now c.given.place c.index-given-place.result c.given-test.true c.index-given-place.is)
    c.given.invariant
