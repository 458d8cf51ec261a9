use Rattle.std.proofs.Common.{[], ◌∷◌, ◌++◌, ap, sym, ◌∙◌, subst}
use Rattle.std.specs.List.Sorted.{IsStrictlySortedBy}
use Rattle.value_core.specs.Datum.{list_of}
use Rattle.value_core.specs.Order.{datum_cmp}
use Rattle.value_core.specs.View.{datum_of}
use Rattle.frame_variables.specs.Naming.{AreBefore}
use Rattle.frame_variables.proofs.Keeping.{nodes_ordered}
use Rattle.frame_variables.proofs.Rising.{added_ordered}
use Rattle.frame_variables.proofs.graphs.added.Goals as goal

pub may_follow-stays-requires : goal.may_follow-stays-requires
may_follow-stays-requires c t = subst (IsStrictlySortedBy datum_cmp) (sym (c.as_slice.ensures ∙ (c.in_ok-graph.ensures {u = tt}).nodes)) (nodes_ordered (datum_of c.args.value) (c.requires t)).1

pub returns-clause-ordered : goal.returns-clause-ordered
returns-clause-ordered c t =
    let xs = list_of c.in_ok-graph.graph.nodes in
    let stays = c.may_follow-stays.ensures in
    added_ordered _ _ (datum_of c.args.value) (datum_of c.args.fresh) (datum_of c.in_ok-value.field-0) xs (list_of c.push.new.self) (c.requires (stays.rising t)) (stays.value t) (c.in_ok-graph.ensures {u = tt}).nodes
    (subst (AreBefore _) c.as_slice.ensures (stays.before t)) ((c.in_ok-push.ensures {u = tt}).ok ∙ ap (λ d. xs ++ d ∷ []) (c.in_ok-node.ensures {u = tt})) (c.in_ok-value.ensures {u = tt})
