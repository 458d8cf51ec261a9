use Rattle.std.proofs.Common.{◌≡◌, drop, ap, ◌∙◌, sym, subst, Some, Ok, Err, arith}
use Rattle.std.specs.Int.{w64}
use Rattle.std.specs.List.Sorted.{IsStrictlySortedBy}
use Rattle.std.specs.Prelude.{position}
use Rattle.std.proofs.lemmas.Int.{to_z-of_z}
use Rattle.std.proofs.lemmas.Result.{err_from_is_err_and}
use Rattle.value_core.specs.Datum.{list_of}
use Rattle.value_core.specs.Order.{datum_cmp}
use Rattle.value_core.specs.View.{datum_of}
use Rattle.graph_values.specs.Graphs.{is_named, name_in, node_of, nodes_in}
use Rattle.value_paths.specs.Paths.{and_then, found, part_at}
use Rattle.meaning_rules.specs.States.{gives}
use Rattle.frame_variables.specs.Gives.{path_of}
use Rattle.frame_variables.specs.Ordered.{AllOrdered, IsOrdered}
use Rattle.frame_variables.proofs.Keeping.{got, nodes_ordered, second_ordered}
use Rattle.frame_variables.proofs.Pairing.{node_nowhere}
use Rattle.frame_variables.proofs.Putting.{node_puts, together}
use Rattle.frame_variables.proofs.Standing.{array_part, fields_part}
use Rattle.frame_variables.proofs.parts.+puts.Goals as goal

pub put_in_graph-returns-in_default : goal.put_in_graph-returns-in_default
put_in_graph-returns-in_default t c s =
    let nodes = (c.in_ok-graph.ensures {u = tt}).nodes ∙ ap (λ x. nodes_in (datum_of x)) c.replace.ensures.value in
    ap (λ o. gives (and_then (found o) (part_at (path_of (drop c.args.from c.args.path.now)))) s)
    (node_nowhere c.args.name _ (datum_of c.args.value.now) c.as_slice.result.now (list_of c.in_ok-graph.graph.nodes) (to_z-of_z w64 c.args.name c.ranges.name) nodes c.as_slice.ensures (sym c.in_default.is ∙ c.place_of.ensures))

pub put_in_graph-returns-in_err-old : goal.put_in_graph-returns-in_err-old
put_in_graph-returns-in_err-old t c =
    let p = err_from_is_err_and c.from_residual-in_err-old.result c.from_residual-in_err-old.ensures.1 in
    let nodes = (c.in_ok-graph.ensures {u = tt}).nodes ∙ ap (λ x. nodes_in (datum_of x)) c.replace.ensures.value in
    let at_place = subst (λ n. Some c.in-Some.place ≡ position (λ v. is_named n (datum_of v)) c.as_slice.result.now) (to_z-of_z w64 c.args.name c.ranges.name) (sym c.in-Some.is ∙ c.place_of.ensures) in
    rw (p.1, p.2) (node_puts c.args.name (path_of (drop c.args.from c.args.path.now)) (datum_of c.args.part) (datum_of c.args.value.now) (datum_of c.replace-2.result) (datum_of c.in_ok-inside.inside) (datum_of c.put_from.new.value)
    c.as_slice.result.now (list_of c.in_ok-graph.graph.nodes) c.in-Some.place (Err c.in_err-old.field-0.0) nodes c.as_slice.ensures at_place c.replace-2.ensures.old (c.in_ok-inside.ensures {u = tt}) (c.in_err-old.ensures {u = tt}))

pub put_in_graph-returns : goal.put_in_graph-returns
put_in_graph-returns t c =
    let nodes = (c.in_ok-graph.ensures {u = tt}).nodes ∙ ap (λ x. nodes_in (datum_of x)) c.replace.ensures.value in
    let next = (c.in_ok-graph.ensures {u = tt}).next ∙ ap (λ x. name_in (datum_of x)) c.replace.ensures.value in
    let back = to_z-of_z w64 c.args.name c.ranges.name in
    let at_place = subst (λ n. Some c.in-Some.place ≡ position (λ v. is_named n (datum_of v)) c.as_slice.result.now) back (sym c.in-Some.is ∙ c.place_of.ensures) in
    let node = (c.in_ok-node.ensures {u = tt}) ∙ ap (λ n. node_of n (datum_of c.put_from.new.value)) back in
    let put = node_puts c.args.name (path_of (drop c.args.from c.args.path.now)) (datum_of c.args.part) (datum_of c.args.value.now) (datum_of c.replace-2.result) (datum_of c.in_ok-inside.inside) (datum_of c.put_from.new.value)
    c.as_slice.result.now (list_of c.in_ok-graph.graph.nodes) c.in-Some.place (Ok c.in_ok-old.old) nodes c.as_slice.ensures at_place c.replace-2.ensures.old (c.in_ok-inside.ensures {u = tt}) (c.in_ok-old.ensures {u = tt}) in
    let new = together c.args.name c.in_ok-graph.graph.next (name_in (datum_of c.args.value.now)) (list_of c.in_ok-graph.graph.nodes) (list_of c.replace-2.new.self) (list_of c.set.new.self) c.in-Some.place _ (datum_of c.in_ok-node.field-0) (datum_of c.put_from.new.value) (datum_of c.in_ok-value.field-0)
    next c.replace-2.ensures.new c.set.ensures node (c.in_ok-value.ensures {u = tt}) in
    (put.0, new ∙ put.1)

-- what a part that is changed asks for
pub put_in_array-put_from-requires : goal.put_in_array-put_from-requires
put_in_array-put_from-requires t c = (
  omega (arith, c.decreases),
  λ u. array_part c.args.value.now c.in-Array.parts c.in_ok-parts-in-Array.parts.now c.in_ok-place-in-Array.place (datum_of c.part_mut.result.now) (c.requires u)
      c.in-Array.is ((c.in_ok-parts-in-Array.ensures {u = tt}).value ∙ c.in-Array.parts-is) c.part_mut.ensures.value,
)

pub put_in_record-put_from-requires : goal.put_in_record-put_from-requires
put_in_record-put_from-requires t c = (
  omega (arith, c.decreases),
  λ u. fields_part c.args.value.now c.in-Fields.fields c.in_ok-fields-in-Fields.fields.now c.args.place (datum_of c.part_mut.result.now) (c.requires u)
      c.in-Fields.is ((c.in_ok-fields-in-Fields.ensures {u = tt}).value ∙ c.in-Fields.fields-is) c.part_mut.ensures.value,
)

pub put_in_graph-place_of-requires : goal.put_in_graph-place_of-requires
put_in_graph-place_of-requires t c u =
    let nodes = (c.in_ok-graph.ensures {u = tt}).nodes ∙ ap (λ x. nodes_in (datum_of x)) c.replace.ensures.value in
    subst (IsStrictlySortedBy datum_cmp) (sym (c.as_slice.ensures ∙ nodes)) (nodes_ordered (datum_of c.args.value.now) (c.requires u)).1

pub put_in_graph-put_from-requires : goal.put_in_graph-put_from-requires
put_in_graph-put_from-requires t c =
    let nodes = (c.in_ok-graph.ensures {u = tt}).nodes ∙ ap (λ x. nodes_in (datum_of x)) c.replace.ensures.value in (
      omega (arith, c.decreases),
      λ u.
          subst IsOrdered (sym (c.in_ok-inside.ensures {u = tt}))
          (second_ordered (datum_of c.replace-2.result)
          (got (list_of c.in_ok-graph.graph.nodes) c.in-Some.place (datum_of c.replace-2.result) (subst AllOrdered (sym nodes) (nodes_ordered (datum_of c.args.value.now) (c.requires u)).0) c.replace-2.ensures.old)),
    )
