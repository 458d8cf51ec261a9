use Rattle.std.proofs.Common.{refl, ap, ◌∙◌, sym, subst}
use Rattle.std.specs.Int.{w64}
use Rattle.std.specs.Prelude.{slice_set}
use Rattle.std.specs.Result.{is_ok}
use Rattle.std.proofs.lemmas.Int.{to_z-of_z}
use Rattle.value_core.specs.Datum.{data_of, list_of}
use Rattle.value_core.specs.Datum as datum
use Rattle.value_core.specs.View.{datum_of}
use Rattle.value_core.specs.declared.value.Value.TheVariants.{Fields}
use Rattle.graph_values.specs.Graphs.{IsGraph, without_node}
use Rattle.value_writes.proofs.Down.{Way, changed_err, changed_fault, changed_ok, named_there, same_graph, stays_graph}
use Rattle.value_writes.proofs.Lists.{none_lent, on_err}
use Rattle.value_writes.proofs.graphs.delete_node.Goals as goal

pub drop_node-requires : goal.drop_node-requires
drop_node-requires c =
    named_there c.args.graph.now c.part_mut.result.now c.in-Fields.fields c.in_ok-as_parts_mut-in-Fields.field-0.now c.in-Set.nodes _ c.requires.named
    c.in-Fields.is ((c.in_ok-as_parts_mut-in-Fields.ensures {u = tt}).value ∙ c.in-Fields.fields-is) c.part_mut.ensures.value c.in-Set.is ((c.in_ok-as_parts_mut-in-Set.ensures {u = tt}).value ∙ c.in-Set.nodes-is)

pub returns-in_err-as_parts_mut-in-Fields-clause-err : goal.returns-in_err-as_parts_mut-in-Fields-clause-err
returns-in_err-as_parts_mut-in-Fields-clause-err c =
    let stays = none_lent _ _ c.as_parts_mut.follows.lender-at-none _ c.in-Fields.fields c.in_err-as_parts_mut-in-Fields.was c.in-Fields.fields-is c.as_parts_mut.follows.holds-at-none in
    on_err c.from_residual.result _ (ap Fields stays ∙ sym c.in-Fields.is)

pub returns-in_err-as_parts_mut-in-Fields-clause-graph : goal.returns-in_err-as_parts_mut-in-Fields-clause-graph
returns-in_err-as_parts_mut-in-Fields-clause-graph c =
    let stays = none_lent _ _ c.as_parts_mut.follows.lender-at-none _ c.in-Fields.fields c.in_err-as_parts_mut-in-Fields.was c.in-Fields.fields-is c.as_parts_mut.follows.holds-at-none in
    subst (λ y. IsGraph (datum_of y)) (c.in-Fields.is ∙ ap Fields (sym stays)) c.requires

pub returns-in_err-as_parts_mut-in-Set-clause-err : goal.returns-in_err-as_parts_mut-in-Set-clause-err
returns-in_err-as_parts_mut-in-Set-clause-err c =
    let u = c.in_ok-as_parts_mut-in-Fields.field-0.now in
    let m = c.as_parts_mut-in-Set.follows.lender-at-none in
    let stays = none_lent _ _ m _ c.in-Set.nodes c.in_err-as_parts_mut-in-Set.was c.in-Set.nodes-is c.as_parts_mut-in-Set.follows.holds-at-none in
    let left = data_of (slice_set (list_of u) 1 (datum.set m)) in
    let way : Way c.args.graph.now c.part_mut.result.now c.in-Fields.fields u c.in-Set.nodes c.in-Set.nodes m (c.as_parts_mut.follows.lender left) = record {
      is = c.in-Fields.is;
      same = (c.in_ok-as_parts_mut-in-Fields.ensures {u = tt}).value ∙ c.in-Fields.fields-is;
      second = c.part_mut.ensures.value;
      set = c.in-Set.is;
      nodes_same = refl;
      left = c.as_parts_mut.follows.holds left (ap is_ok c.in_ok-as_parts_mut-in-Fields.was);
    } in
    on_err c.from_residual-in_err-as_parts_mut-in-Set.result _ (same_graph _ _ _ _ _ _ _ _ way stays)

pub returns-in_err-as_parts_mut-in-Set-clause-graph : goal.returns-in_err-as_parts_mut-in-Set-clause-graph
returns-in_err-as_parts_mut-in-Set-clause-graph c =
    let u = c.in_ok-as_parts_mut-in-Fields.field-0.now in
    let m = c.as_parts_mut-in-Set.follows.lender-at-none in
    let stays = none_lent _ _ m _ c.in-Set.nodes c.in_err-as_parts_mut-in-Set.was c.in-Set.nodes-is c.as_parts_mut-in-Set.follows.holds-at-none in
    let left = data_of (slice_set (list_of u) 1 (datum.set m)) in
    let way : Way c.args.graph.now c.part_mut.result.now c.in-Fields.fields u c.in-Set.nodes c.in-Set.nodes m (c.as_parts_mut.follows.lender left) = record {
      is = c.in-Fields.is;
      same = (c.in_ok-as_parts_mut-in-Fields.ensures {u = tt}).value ∙ c.in-Fields.fields-is;
      second = c.part_mut.ensures.value;
      set = c.in-Set.is;
      nodes_same = refl;
      left = c.as_parts_mut.follows.holds left (ap is_ok c.in_ok-as_parts_mut-in-Fields.was);
    } in
    subst (λ y. IsGraph (datum_of y)) (sym (same_graph _ _ _ _ _ _ _ _ way stays)) c.requires

pub returns : goal.returns
returns c =
    let g = c.args.graph.now in
    let p = c.part_mut.result.now in
    let f = c.in-Fields.fields in
    let u = c.in_ok-as_parts_mut-in-Fields.field-0.now in
    let nodes = c.in-Set.nodes in
    let v = c.in_ok-as_parts_mut-in-Set.field-0.now in
    let w = c.drop_node.new.nodes in
    let m = c.as_parts_mut-in-Set.follows.lender w in
    let left = data_of (slice_set (list_of u) 1 (datum.set m)) in
    let l = c.as_parts_mut.follows.lender left in
    let back = to_z-of_z w64 c.args.name c.ranges.name in
    let way : Way g p f u nodes v w l = record {
      is = c.in-Fields.is;
      same = (c.in_ok-as_parts_mut-in-Fields.ensures {u = tt}).value ∙ c.in-Fields.fields-is;
      second = c.part_mut.ensures.value;
      set = c.in-Set.is;
      nodes_same = (c.in_ok-as_parts_mut-in-Set.ensures {u = tt}).value ∙ c.in-Set.nodes-is;
      left = c.as_parts_mut.follows.holds left (ap is_ok c.in_ok-as_parts_mut-in-Fields.was)
          ∙ ap (λ y. data_of (slice_set (list_of u) 1 (datum.set y))) (c.as_parts_mut-in-Set.follows.holds w (ap is_ok c.in_ok-as_parts_mut-in-Set.was));
    } in
    let ok = changed_ok c.drop_node.result c.args.name _ without_node g p f u nodes v w l way c.requires back c.drop_node.ensures.ok in
    let err = changed_err c.drop_node.result g p f u nodes v w l way c.drop_node.ensures.err in
    record {
      ok = ok;
      fault = changed_fault c.drop_node.result c.args.name _ without_node g p f u nodes v w l way back c.drop_node.ensures.fault;
      err = err;
      graph = stays_graph c.drop_node.result _ g l c.requires (λ h is. (c.graphs_law.ensures.deleted c.args.name (datum_of g) h c.requires is).0) ok err;
    }
