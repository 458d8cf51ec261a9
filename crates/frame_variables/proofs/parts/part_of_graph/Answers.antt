use Rattle.std.proofs.Common.{ap, ◌∙◌, sym, subst, refl, Ok}
use Rattle.std.specs.Int.{w64}
use Rattle.std.specs.List.Sorted.{IsStrictlySortedBy}
use Rattle.std.specs.Prelude.{slice_get, unwrap_or}
use Rattle.std.proofs.lemmas.Int.{to_z-of_z}
use Rattle.value_core.specs.Order.{datum_cmp}
use Rattle.value_core.specs.View.{datum_of}
use Rattle.graph_values.specs.Graphs.{fields_in, nodes_in}
use Rattle.value_paths.specs.Paths.{found}
use Rattle.frame_variables.proofs.Keeping.{nodes_ordered}
use Rattle.frame_variables.proofs.Pairing.{node_found, node_nowhere}
use Rattle.frame_variables.proofs.parts.part_of_graph.Goals as goal

pub place_of-requires : goal.place_of-requires
place_of-requires c t = subst (IsStrictlySortedBy datum_cmp) (sym c.nodes_of-nodes.ensures) (nodes_ordered (datum_of c.args.value.now) (c.requires.ordered t)).1

pub returns-in-Some : goal.returns-in-Some
returns-in-Some c =
    let value = c.second_field.ensures ∙ ap (unwrap_or (slice_get (fields_in (datum_of c.index-nodes-place.result)) 1)) c.requires.zero in
    ap found (node_found c.args.name _ (datum_of c.args.value.now) c.nodes_of-nodes.result.now c.in-Some.place c.index-nodes-place.result
    (to_z-of_z w64 c.args.name c.ranges.name) c.nodes_of-nodes.ensures (sym c.in-Some.is ∙ c.place_of.ensures) c.index-nodes-place.is)
    ∙ ap Ok (sym value)

pub returns-in-None : goal.returns-in-None
returns-in-None c =
    ap found (node_nowhere c.args.name _ (datum_of c.args.value.now) c.nodes_of-nodes.result.now (nodes_in (datum_of c.args.value.now)) (to_z-of_z w64 c.args.name c.ranges.name) refl c.nodes_of-nodes.ensures (sym c.in-None.is ∙ c.place_of.ensures))
