use Rattle.std.proofs.Common.{refl, sym, ◌∙◌, subst}
use Rattle.std.specs.Int.{w64}
use Rattle.std.specs.List.Sorted.{IsStrictlySortedBy}
use Rattle.std.proofs.lemmas.Int.{to_z-of_z}
use Rattle.value_core.specs.Order.{datum_cmp}
use Rattle.value_core.specs.View.{datum_of}
use Rattle.frame_variables.specs.Firm.{IsFirmNode}
use Rattle.frame_variables.proofs.Keeping.{nodes_ordered}
use Rattle.frame_variables.proofs.Standing.{firm_node}
use Rattle.frame_variables.proofs.firm.is_firm_node.Goals as goal

pub place_of-requires : goal.place_of-requires
place_of-requires c t = subst (IsStrictlySortedBy datum_cmp) (sym c.nodes_of-nodes.ensures) (nodes_ordered (datum_of c.args.value.now) (c.requires.ordered t)).1

pub returns-then-has_value : goal.returns-then-has_value
returns-then-has_value c t =
    subst (IsFirmNode c.args.name) c.nodes_of-nodes.ensures
    (firm_node c.args.name _ c.nodes_of-nodes.result.now c.in-Some.place _ c.index-nodes-place.result (to_z-of_z w64 c.args.name c.ranges.name) c.requires.named (sym c.in-Some.is ∙ c.place_of.ensures) c.index-nodes-place.is
    (c.has_value.ensures c.if-has_value.true) refl (c.has_other.ensures t))
