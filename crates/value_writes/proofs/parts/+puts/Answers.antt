use Rattle.std.proofs.Common.{◌≡◌, ℤ, rules, drop, Some, refl, ap, sym, ◌∙◌, subst, arith, ◌∷◌}
use Rattle.std.specs.Int.{cast_signed, cast_unsigned, w64}
use Rattle.std.specs.Prelude.{FitsSigned, IfOk, slice_get, slice_set}
use Rattle.std.specs.Result.{is_ok}
use Rattle.std.proofs.lemmas.Int.{to_z-of_z}
use Rattle.std.proofs.lemmas.Result.{err_from_is_err_and}
use Rattle.value_core.specs.Datum.{data_of, list_of}
use Rattle.value_core.specs.Datum as datum
use Rattle.value_core.specs.View.{datum_of}
use Rattle.value_core.specs.declared.value.Value.TheVariants.{Array, Fields}
use Rattle.value_ops.specs.Sizes.{place_of}
use Rattle.graph_values.specs.Graphs.{value_at, value_in}
use Rattle.value_paths.specs.declared.step.Step.TheVariants.{Node}
use Rattle.value_paths.specs.Paths.{CanWalk, found}
use Rattle.value_writes.specs.Puts.{Puts, graph_with}
use Rattle.value_writes.proofs.Changed.{absent_there, stands_there}
use Rattle.value_writes.proofs.Down.{Way, fields_formed, named_there, nodes_there, same_graph}
use Rattle.value_writes.proofs.Lists.{node_has_value, node_is_record, none_lent, put_back}
use Rattle.value_writes.proofs.Steps.{array_nowhere, array_puts, field_nowhere, graph_puts, index_as, no_array, no_record, node_nowhere, node_walks, nodes_put, puts_as, puts_same, record_puts, refused, walks_same, without}
use Rattle.value_writes.proofs.parts.+puts.Goals as goal

-- an array
pub put_in_array-returns-in-Ok : goal.put_in_array-returns-in-Ok
put_in_array-returns-in-Ok t c =
    let placed =
    ap (λ n. place_of n c.args.low c.args.index) (sym c.len.ensures.len)
    ∙ ap (λ z. place_of c.len.result z c.args.index) (sym (to_z-of_z w64 c.args.low c.ranges.low))
    ∙ ap (place_of c.len.result (cast_signed w64 (cast_unsigned w64 c.args.low))) (sym (to_z-of_z w64 c.args.index c.ranges.index))
    ∙ sym (c.in-Ok.ensures {u = tt}) in
    array_puts c.args.low c.args.index (drop c.args.from c.args.path.now) (datum_of c.args.part) c.part_mut.result.now c.put_from.new.value c.args.parts.now c.in-Ok.place c.put_from.result
    placed c.part_mut.ensures.value c.put_from.ensures

pub put_in_array-returns-in-Err : goal.put_in_array-returns-in-Err
put_in_array-returns-in-Err t c =
    let placed =
    ap (λ n. place_of n c.args.low c.args.index) (sym c.len.ensures.len)
    ∙ ap (λ z. place_of c.len.result z c.args.index) (sym (to_z-of_z w64 c.args.low c.ranges.low))
    ∙ ap (place_of c.len.result (cast_signed w64 (cast_unsigned w64 c.args.low))) (sym (to_z-of_z w64 c.args.index c.ranges.index))
    ∙ sym (c.in-Err.ensures {u = tt}) in
    rw c.refuse.ensures (array_nowhere c.args.low c.args.index (drop c.args.from c.args.path.now) c.args.parts.now c.in-Err.fault placed, refl)

-- a record
pub put_in_record-returns-then-place-len : goal.put_in_record-returns-then-place-len
put_in_record-returns-then-place-len t c =
    rw c.refuse.ensures (field_nowhere c.args.place (drop c.args.from c.args.path.now) c.args.fields.now (omega (arith, c.len.ensures.len)), refl)

pub put_in_record-returns : goal.put_in_record-returns
put_in_record-returns t c =
    record_puts c.args.place (drop c.args.from c.args.path.now) (datum_of c.args.part) c.part_mut.result.now c.put_from.new.value c.args.fields.now c.put_from.result
    c.part_mut.ensures.value c.put_from.ensures

-- the nodes of a graph
pub put_in_nodes-unreachable-requires : goal.put_in_nodes-unreachable-requires
put_in_nodes-unreachable-requires t c =
    let xs = list_of c.args.nodes.now in
    let stands = stands_there c.args.name _ xs c.in-Some.place c.ranges.name (c.in-Some.ensures {u = tt}) c.as_slice.ensures in
    let x = datum_of c.part_mut.result.now in
    c.in_default.not-Fields _ (node_is_record c.args.name (value_in x) c.part_mut.result.now (stands.node x c.part_mut.ensures.value))

pub put_in_nodes-part_mut-requires-in-Fields : goal.put_in_nodes-part_mut-requires-in-Fields
put_in_nodes-part_mut-requires-in-Fields t c =
    let xs = list_of c.args.nodes.now in
    let stands = stands_there c.args.name _ xs c.in-Some.place c.ranges.name (c.in-Some.ensures {u = tt}) c.as_slice.ensures in
    let stood : slice_get xs c.in-Some.place ≡ Some (datum.fields c.in-Fields.node) = c.part_mut.ensures.value ∙ ap (λ v. Some (datum_of v)) c.in-Fields.is in
    node_has_value c.args.name (value_in (datum.fields c.in-Fields.node)) c.in-Fields.node _ (stands.node (datum.fields c.in-Fields.node) stood)
    ((c.in_ok-as_parts_mut-in-Fields.ensures {u = tt}).value ∙ c.in-Fields.node-is)

pub put_in_nodes-put_from-requires : goal.put_in_nodes-put_from-requires
put_in_nodes-put_from-requires t c =
    let xs = list_of c.args.nodes.now in
    let u = c.in_ok-as_parts_mut-in-Fields.field-0.now in
    let stands = stands_there c.args.name _ xs c.in-Some.place c.ranges.name (c.in-Some.ensures {u = tt}) c.as_slice.ensures in
    let same = (c.in_ok-as_parts_mut-in-Fields.ensures {u = tt}).value ∙ c.in-Fields.node-is in
    let stood : slice_get xs c.in-Some.place ≡ Some (datum.fields u) = c.part_mut.ensures.value ∙ ap (λ v. Some (datum_of v)) c.in-Fields.is ∙ ap (λ y. Some (datum.fields y)) (sym same) in
    (omega (arith, c.decreases), node_walks c.args.name (drop c.args.from c.args.path.now) (datum_of c.part_mut-in-Fields.result.now) xs u c.in-Some.place stands stood c.part_mut-in-Fields.ensures.value c.requires.walks)

pub put_in_nodes-returns-in_err-as_parts_mut-in-Fields : goal.put_in_nodes-returns-in_err-as_parts_mut-in-Fields
put_in_nodes-returns-in_err-as_parts_mut-in-Fields t c next =
    let p = err_from_is_err_and c.from_residual.result c.from_residual.ensures.1 in
    let stays = none_lent _ _ c.as_parts_mut.follows.lender-at-none _ c.in-Fields.node c.in_err-as_parts_mut-in-Fields.was c.in-Fields.node-is c.as_parts_mut.follows.holds-at-none in
    without (Node c.args.name ∷ drop c.args.from c.args.path.now) (datum_of c.args.part) _ _ c.from_residual.result p.0 p.1 p.2
    (ap (graph_with next) (put_back c.args.nodes.now c.in-Some.place (datum.fields c.in-Fields.node) _ (c.part_mut.ensures.value ∙ ap (λ v. Some (datum_of v)) c.in-Fields.is) (ap datum.fields stays)))

pub put_in_nodes-returns-in_ok-as_parts_mut-in-Fields : goal.put_in_nodes-returns-in_ok-as_parts_mut-in-Fields
put_in_nodes-returns-in_ok-as_parts_mut-in-Fields t c next =
    let xs = list_of c.args.nodes.now in
    let place = c.in-Some.place in
    let u = c.in_ok-as_parts_mut-in-Fields.field-0.now in
    let w = data_of (slice_set (list_of u) 1 (datum_of c.put_from.new.value)) in
    let stands = stands_there c.args.name _ xs place c.ranges.name (c.in-Some.ensures {u = tt}) c.as_slice.ensures in
    let same = (c.in_ok-as_parts_mut-in-Fields.ensures {u = tt}).value ∙ c.in-Fields.node-is in
    let stood : slice_get xs place ≡ Some (datum.fields u) = c.part_mut.ensures.value ∙ ap (λ v. Some (datum_of v)) c.in-Fields.is ∙ ap (λ y. Some (datum.fields y)) (sym same) in
    let held = c.as_parts_mut.follows.holds w (ap is_ok c.in_ok-as_parts_mut-in-Fields.was) in
    puts_same (Node c.args.name ∷ drop c.args.from c.args.path.now) (datum_of c.args.part) (graph_with next c.args.nodes.now) _ (graph_with next (data_of (slice_set xs place (datum.fields w)))) _ c.put_from.result refl
    (ap (λ y. graph_with next (data_of (slice_set xs place (datum.fields y)))) (sym held))
    (nodes_put next c.args.name (drop c.args.from c.args.path.now) (datum_of c.args.part) c.part_mut-in-Fields.result.now c.put_from.new.value c.args.nodes.now u place c.put_from.result stands stood c.part_mut-in-Fields.ensures.value c.put_from.ensures)

pub put_in_nodes-returns-in-None : goal.put_in_nodes-returns-in-None
put_in_nodes-returns-in-None t c next =
    rw c.refuse.ensures (node_nowhere next c.args.name (drop c.args.from c.args.path.now) c.args.nodes.now (absent_there c.args.name _ (list_of c.args.nodes.now) c.ranges.name (c.in-None.ensures {u = tt}) c.as_slice.ensures), refl)

-- a graph
pub put_in_graph-returns-in_err-as_parts_mut-in-Fields : goal.put_in_graph-returns-in_err-as_parts_mut-in-Fields
put_in_graph-returns-in_err-as_parts_mut-in-Fields t c =
    let p = err_from_is_err_and c.from_residual.result c.from_residual.ensures.1 in
    let stays = none_lent _ _ c.as_parts_mut.follows.lender-at-none _ c.in-Fields.fields c.in_err-as_parts_mut-in-Fields.was c.in-Fields.fields-is c.as_parts_mut.follows.holds-at-none in
    without (Node c.args.name ∷ drop c.args.from c.args.path.now) (datum_of c.args.part) _ _ c.from_residual.result p.0 p.1 p.2 (ap Fields stays ∙ sym c.in-Fields.is)

pub put_in_graph-returns-in_err-as_parts_mut-in-Set : goal.put_in_graph-returns-in_err-as_parts_mut-in-Set
put_in_graph-returns-in_err-as_parts_mut-in-Set t c =
    let p = err_from_is_err_and c.from_residual-in_err-as_parts_mut-in-Set.result c.from_residual-in_err-as_parts_mut-in-Set.ensures.1 in
    let u = c.in_ok-as_parts_mut-in-Fields.field-0.now in
    let m = c.as_parts_mut-in-Set.follows.lender-at-none in
    let stays = none_lent _ _ m _ c.in-Set.nodes c.in_err-as_parts_mut-in-Set.was c.in-Set.nodes-is c.as_parts_mut-in-Set.follows.holds-at-none in
    let left = data_of (slice_set (list_of u) 1 (datum.set m)) in
    let way : Way c.args.graph.now c.part_mut.result.now c.in-Fields.fields u c.in-Set.nodes c.in-Set.nodes m (c.as_parts_mut.follows.lender left) = record {
      is = c.in-Fields.is;
      same = (c.in_ok-as_parts_mut-in-Fields.ensures {u = tt}).value ∙ c.in-Fields.fields-is;
      second = c.part_mut.ensures.value;
      set = c.in-Set.is;
      nodes_same = refl;
      left = c.as_parts_mut.follows.holds left (ap is_ok c.in_ok-as_parts_mut-in-Fields.was);
    } in
    without (Node c.args.name ∷ drop c.args.from c.args.path.now) (datum_of c.args.part) _ _ c.from_residual-in_err-as_parts_mut-in-Set.result p.0 p.1 p.2 (same_graph _ _ _ _ _ _ _ _ way stays)

pub put_in_graph-returns : goal.put_in_graph-returns
put_in_graph-returns t c =
    let path = drop c.args.from c.args.path.now in
    let x = datum_of c.args.part in
    let u = c.in_ok-as_parts_mut-in-Fields.field-0.now in
    let v = c.in_ok-as_parts_mut-in-Set.field-0.now in
    let w = c.put_in_nodes.new.nodes in
    let left = data_of (slice_set (list_of u) 1 (datum.set (c.as_parts_mut-in-Set.follows.lender w))) in
    let same = (c.in_ok-as_parts_mut-in-Fields.ensures {u = tt}).value ∙ c.in-Fields.fields-is in
    let nodes_same = (c.in_ok-as_parts_mut-in-Set.ensures {u = tt}).value ∙ c.in-Set.nodes-is in
    let second : slice_get (list_of u) 1 ≡ Some (datum.set v) = c.part_mut.ensures.value ∙ ap (λ y. Some (datum_of y)) c.in-Set.is ∙ ap (λ y. Some (datum.set y)) (sym nodes_same) in
    let held = c.as_parts_mut.follows.holds left (ap is_ok c.in_ok-as_parts_mut-in-Fields.was)
    ∙ ap (λ y. data_of (slice_set (list_of u) 1 (datum.set y))) (c.as_parts_mut-in-Set.follows.holds w (ap is_ok c.in_ok-as_parts_mut-in-Set.was)) in
    puts_same (Node c.args.name ∷ path) x (Fields u) c.args.graph.now (Fields (data_of (slice_set (list_of u) 1 (datum.set w)))) _ c.put_in_nodes.result
    (ap Fields same ∙ sym c.in-Fields.is) (ap Fields (sym held))
    (graph_puts c.args.name path x u v w c.put_in_nodes.result (fields_formed c.args.graph.now c.in-Fields.fields u c.in-Fields.is same c.requires.0) second
    (subst (λ z. (next : ℤ) → Puts (Node z ∷ path) x (graph_with next v) c.put_in_nodes.result (graph_with next w)) (to_z-of_z w64 c.args.name c.ranges.name) c.put_in_nodes.ensures))

pub put_in_graph-put_in_nodes-requires : goal.put_in_graph-put_in_nodes-requires
put_in_graph-put_in_nodes-requires t c =
    let path = drop c.args.from c.args.path.now in
    let v = c.in_ok-as_parts_mut-in-Set.field-0.now in
    let same = (c.in_ok-as_parts_mut-in-Fields.ensures {u = tt}).value ∙ c.in-Fields.fields-is in
    let nodes_same = (c.in_ok-as_parts_mut-in-Set.ensures {u = tt}).value ∙ c.in-Set.nodes-is in
    let back = to_z-of_z w64 c.args.name c.ranges.name in
    let there = nodes_there c.args.graph.now c.part_mut.result.now c.in-Fields.fields c.in_ok-as_parts_mut-in-Fields.field-0.now c.in-Set.nodes v c.in-Fields.is same c.part_mut.ensures.value c.in-Set.is nodes_same in (
      omega (arith, c.decreases),
      (
        named_there c.args.graph.now c.part_mut.result.now c.in-Fields.fields c.in_ok-as_parts_mut-in-Fields.field-0.now c.in-Set.nodes v c.requires.0.named c.in-Fields.is same c.part_mut.ensures.value c.in-Set.is nodes_same,
        subst (λ z. IfOk (found (value_at z (list_of v))) (CanWalk path)) (sym back) (subst (λ xs. IfOk (found (value_at c.args.name xs)) (CanWalk path)) there c.requires.1),
      ),
    )

-- any value
pub put_behind-put_in_array-requires : goal.put_behind-put_in_array-requires
put_behind-put_in_array-requires t c =
    let low_fits : FitsSigned w64 c.in-Index.low = search rules in
    let index_fits : FitsSigned w64 c.in-Index.index = search rules in
    let u = c.in_ok-as_parts_mut-in-Array.field-0.now in
    let same = (c.in_ok-as_parts_mut-in-Array.ensures {u = tt}).value ∙ c.in-Array.parts-is in (
      omega (arith, c.decreases),
      walks_same c.args.step _ (drop c.args.from c.args.path.now) (datum_of c.args.value.now) (datum.array u) (index_as c.in-Index.low c.in-Index.index c.args.step low_fits index_fits c.in-Index.is)
          (ap datum_of c.in-Array.is ∙ ap datum.array (sym same)) c.requires,
    )

pub put_behind-returns-in_ok-as_parts_mut-in-Array : goal.put_behind-returns-in_ok-as_parts_mut-in-Array
put_behind-returns-in_ok-as_parts_mut-in-Array t c =
    let low_fits : FitsSigned w64 c.in-Index.low = search rules in
    let index_fits : FitsSigned w64 c.in-Index.index = search rules in
    let u = c.in_ok-as_parts_mut-in-Array.field-0.now in
    let w = c.put_in_array.new.parts in
    let same = (c.in_ok-as_parts_mut-in-Array.ensures {u = tt}).value ∙ c.in-Array.parts-is in
    let held = c.as_parts_mut.follows.holds w (ap is_ok c.in_ok-as_parts_mut-in-Array.was) in
    puts_as c.args.step _ (drop c.args.from c.args.path.now) (datum_of c.args.part) (Array u) c.args.value.now (Array w) _ c.put_in_array.result (index_as c.in-Index.low c.in-Index.index c.args.step low_fits index_fits c.in-Index.is)
    (ap Array same ∙ sym c.in-Array.is) (ap Array (sym held)) c.put_in_array.ensures

pub put_behind-returns-in_err-as_parts_mut-in-Array : goal.put_behind-returns-in_err-as_parts_mut-in-Array
put_behind-returns-in_err-as_parts_mut-in-Array t c =
    let p = err_from_is_err_and c.from_residual.result c.from_residual.ensures.1 in
    let stays = none_lent _ _ c.as_parts_mut.follows.lender-at-none _ c.in-Array.parts c.in_err-as_parts_mut-in-Array.was c.in-Array.parts-is c.as_parts_mut.follows.holds-at-none in
    without (c.args.step ∷ drop c.args.from c.args.path.now) (datum_of c.args.part) _ _ c.from_residual.result p.0 p.1 p.2 (ap Array stays ∙ sym c.in-Array.is)

pub put_behind-returns-in_default : goal.put_behind-returns-in_default
put_behind-returns-in_default t c =
    refused c.args.step _ (drop c.args.from c.args.path.now) (datum_of c.args.part) c.args.value.now c.refuse.result _ c.refuse.ensures c.in-Index.is
    (no_array c.in-Index.low c.in-Index.index (drop c.args.from c.args.path.now) c.args.value.now c.in_default.not-Array)

pub put_behind-put_in_record-requires : goal.put_behind-put_in_record-requires
put_behind-put_in_record-requires t c =
    let u = c.in_ok-as_parts_mut-in-Fields.field-0.now in
    let same = (c.in_ok-as_parts_mut-in-Fields.ensures {u = tt}).value ∙ c.in-Fields.fields-is in (
      omega (arith, c.decreases),
      walks_same c.args.step _ (drop c.args.from c.args.path.now) (datum_of c.args.value.now) (datum.fields u) c.in-Field.is (ap datum_of c.in-Fields.is ∙ ap datum.fields (sym same)) c.requires,
    )

pub put_behind-returns-in_ok-as_parts_mut-in-Fields : goal.put_behind-returns-in_ok-as_parts_mut-in-Fields
put_behind-returns-in_ok-as_parts_mut-in-Fields t c =
    let u = c.in_ok-as_parts_mut-in-Fields.field-0.now in
    let w = c.put_in_record.new.fields in
    let same = (c.in_ok-as_parts_mut-in-Fields.ensures {u = tt}).value ∙ c.in-Fields.fields-is in
    let held = c.as_parts_mut-in-Fields.follows.holds w (ap is_ok c.in_ok-as_parts_mut-in-Fields.was) in
    puts_as c.args.step _ (drop c.args.from c.args.path.now) (datum_of c.args.part) (Fields u) c.args.value.now (Fields w) _ c.put_in_record.result c.in-Field.is
    (ap Fields same ∙ sym c.in-Fields.is) (ap Fields (sym held)) c.put_in_record.ensures

pub put_behind-returns-in_err-as_parts_mut-in-Fields : goal.put_behind-returns-in_err-as_parts_mut-in-Fields
put_behind-returns-in_err-as_parts_mut-in-Fields t c =
    let p = err_from_is_err_and c.from_residual-in_err-as_parts_mut-in-Fields.result c.from_residual-in_err-as_parts_mut-in-Fields.ensures.1 in
    let stays = none_lent _ _ c.as_parts_mut-in-Fields.follows.lender-at-none _ c.in-Fields.fields c.in_err-as_parts_mut-in-Fields.was c.in-Fields.fields-is c.as_parts_mut-in-Fields.follows.holds-at-none in
    without (c.args.step ∷ drop c.args.from c.args.path.now) (datum_of c.args.part) _ _ c.from_residual-in_err-as_parts_mut-in-Fields.result p.0 p.1 p.2 (ap Fields stays ∙ sym c.in-Fields.is)

pub put_behind-returns-in_default-value : goal.put_behind-returns-in_default-value
put_behind-returns-in_default-value t c =
    refused c.args.step _ (drop c.args.from c.args.path.now) (datum_of c.args.part) c.args.value.now c.refuse-in_default-value.result _ c.refuse-in_default-value.ensures c.in-Field.is
    (no_record c.in-Field.place (drop c.args.from c.args.path.now) c.args.value.now c.in_default-value.not-Fields)

pub put_behind-put_in_graph-requires : goal.put_behind-put_in_graph-requires
put_behind-put_in_graph-requires t c =
    let fits : FitsSigned w64 c.in-Node.name = search rules in (
      omega (arith, c.decreases),
      walks_same c.args.step _ (drop c.args.from c.args.path.now) (datum_of c.args.value.now) (datum_of c.args.value.now) (c.in-Node.is ∙ ap Node (sym (to_z-of_z w64 c.in-Node.name fits))) refl c.requires,
    )

pub put_behind-returns-in-Node : goal.put_behind-returns-in-Node
put_behind-returns-in-Node t c =
    let fits : FitsSigned w64 c.in-Node.name = search rules in
    puts_as c.args.step _ (drop c.args.from c.args.path.now) (datum_of c.args.part) c.args.value.now c.args.value.now c.put_in_graph.new.graph c.put_in_graph.new.graph c.put_in_graph.result
    (c.in-Node.is ∙ ap Node (sym (to_z-of_z w64 c.in-Node.name fits))) refl refl c.put_in_graph.ensures
