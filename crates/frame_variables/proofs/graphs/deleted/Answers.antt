use Rattle.std.proofs.Common.{sym, ◌∙◌, subst}
use Rattle.std.specs.Int.{w64}
use Rattle.std.specs.List.Sorted.{IsStrictlySortedBy}
use Rattle.std.proofs.lemmas.Int.{to_z-of_z}
use Rattle.value_core.specs.Datum.{list_of}
use Rattle.value_core.specs.Order.{datum_cmp}
use Rattle.value_core.specs.View.{datum_of}
use Rattle.frame_variables.proofs.Keeping.{nodes_ordered}
use Rattle.frame_variables.proofs.Pairing.{is_deleted, not_deleted}
use Rattle.frame_variables.proofs.Rising.{removed_ordered}
use Rattle.frame_variables.proofs.graphs.deleted.Goals as goal

pub place_of-requires : goal.place_of-requires
place_of-requires c t = subst (IsStrictlySortedBy datum_cmp) (sym (c.as_slice.ensures ∙ (c.in_ok-graph.ensures {u = tt}).nodes)) (nodes_ordered (datum_of c.args.value) (c.requires t)).1

pub returns-in-None-clause-given : goal.returns-in-None-clause-given
returns-in-None-clause-given c s =
    not_deleted c.args.name _ (datum_of c.args.value) c.as_slice.result.now (list_of c.in_ok-graph.graph.nodes) s
    (to_z-of_z w64 c.args.name c.ranges.name) (c.in_ok-graph.ensures {u = tt}).nodes c.as_slice.ensures (sym c.in-None.is ∙ c.place_of.ensures)

pub returns-in_ok-value-in-Some-clause-given : goal.returns-in_ok-value-in-Some-clause-given
returns-in_ok-value-in-Some-clause-given c s =
    is_deleted c.args.name _ (datum_of c.args.value) (datum_of c.in_ok-value-in-Some.field-0) c.as_slice.result.now (list_of c.in_ok-graph.graph.nodes) (list_of c.remove.new.self) c.in-Some.place c.in_ok-graph.graph.next s
    (to_z-of_z w64 c.args.name c.ranges.name) (c.in_ok-graph.ensures {u = tt}).next (c.in_ok-graph.ensures {u = tt}).nodes c.as_slice.ensures (sym c.in-Some.is ∙ c.place_of.ensures) c.remove.ensures.new (c.in_ok-value-in-Some.ensures {u = tt})

pub returns-in_ok-value-in-Some-clause-ordered : goal.returns-in_ok-value-in-Some-clause-ordered
returns-in_ok-value-in-Some-clause-ordered c t =
    removed_ordered _ (datum_of c.args.value) (datum_of c.in_ok-value-in-Some.field-0) (list_of c.in_ok-graph.graph.nodes) (list_of c.remove.new.self) c.in-Some.place (c.requires t) (c.in_ok-graph.ensures {u = tt}).nodes c.remove.ensures.new
    (c.in_ok-value-in-Some.ensures {u = tt})
