use Rattle.std.proofs.Common.{pos, ap, ◌∙◌, sym, subst}
use Rattle.std.specs.Int.{w64}
use Rattle.std.specs.Prelude.{FitsSigned, ◌≤ℤ◌, ◌+ℤ◌}
use Rattle.std.specs.Ordering.{int_eq}
use Rattle.std.specs.Result.{is_ok}
use Rattle.std.proofs.lemmas.Int.{to_z-of_z}
use Rattle.value_core.specs.View.{datum_of}
use Rattle.value_core.specs.declared.value.Value.TheVariants.{Fields}
use Rattle.graph_values.specs.Graphs.{IsGraph, last_name}
use Rattle.value_writes.proofs.Changed.{fits_next}
use Rattle.value_writes.proofs.Down.{added_through, fields_formed}
use Rattle.value_writes.proofs.Lists.{none_lent, on_err}
use Rattle.value_writes.proofs.Names.{other_word}
use Rattle.value_writes.proofs.graphs.add_node.Goals as goal

pub push_node-requires : goal.push_node-requires
push_node-requires c =
    fields_formed c.args.graph.now c.in-Fields.fields _ c.in-Fields.is ((c.in_ok-as_parts_mut-in-Fields.ensures {u = tt}).value ∙ c.in-Fields.fields-is) c.requires

pub returns-in_err-as_parts_mut-in-Fields-clause-err : goal.returns-in_err-as_parts_mut-in-Fields-clause-err
returns-in_err-as_parts_mut-in-Fields-clause-err c =
    let stays = none_lent _ _ c.as_parts_mut.follows.lender-at-none _ c.in-Fields.fields c.in_err-as_parts_mut-in-Fields.was c.in-Fields.fields-is c.as_parts_mut.follows.holds-at-none in
    on_err c.from_residual-in_err-as_parts_mut-in-Fields.result _ (ap Fields stays ∙ sym c.in-Fields.is)

pub returns-in_err-as_parts_mut-in-Fields-clause-graph : goal.returns-in_err-as_parts_mut-in-Fields-clause-graph
returns-in_err-as_parts_mut-in-Fields-clause-graph c =
    let stays = none_lent _ _ c.as_parts_mut.follows.lender-at-none _ c.in-Fields.fields c.in_err-as_parts_mut-in-Fields.was c.in-Fields.fields-is c.as_parts_mut.follows.holds-at-none in
    subst (λ y. IsGraph (datum_of y)) (c.in-Fields.is ∙ ap Fields (sym stays)) c.requires

pub returns-in_err-push_node-in-Fields-clause-err : goal.returns-in_err-push_node-in-Fields-clause-err
returns-in_err-push_node-in-Fields-clause-err c =
    let held = c.as_parts_mut.follows.holds c.push_node.new.fields (ap is_ok c.in_ok-as_parts_mut-in-Fields.was) in
    let same = (c.in_ok-as_parts_mut-in-Fields.ensures {u = tt}).value ∙ c.in-Fields.fields-is in
    on_err c.from_residual-in_err-push_node-in-Fields.result _ (ap Fields (held ∙ (c.in_err-push_node-in-Fields.ensures {u = tt}).err ∙ same) ∙ sym c.in-Fields.is)

pub returns-in_err-push_node-in-Fields-clause-graph : goal.returns-in_err-push_node-in-Fields-clause-graph
returns-in_err-push_node-in-Fields-clause-graph c =
    let held = c.as_parts_mut.follows.holds c.push_node.new.fields (ap is_ok c.in_ok-as_parts_mut-in-Fields.was) in
    let same = (c.in_ok-as_parts_mut-in-Fields.ensures {u = tt}).value ∙ c.in-Fields.fields-is in
    subst (λ y. IsGraph (datum_of y)) (c.in-Fields.is ∙ ap Fields (sym (held ∙ (c.in_err-push_node-in-Fields.ensures {u = tt}).err ∙ same))) c.requires

pub returns : goal.returns
returns c =
    let n = c.name_of-name.result in
    let fits : FitsSigned w64 n = record { sfits = c.name_of-name.type_inv } in
    let back = to_z-of_z w64 n fits in
    let more = c.if-name-eq9223372036854775807.false in
    let next : FitsSigned w64 (n +ℤ pos 1) = fits_next n (subst (λ z. pos 1 ≤ℤ z) (sym c.name_of-name.ensures) c.requires.next) fits more in
    let held = c.as_parts_mut.follows.holds c.push_node.new.fields (ap is_ok c.in_ok-as_parts_mut-in-Fields.was) in
    let same = (c.in_ok-as_parts_mut-in-Fields.ensures {u = tt}).value ∙ c.in-Fields.fields-is in
    let is = added_through c.args.graph.now (datum_of c.args.fresh) (datum_of c.in_ok-node.node) c.in-Fields.fields c.in_ok-as_parts_mut-in-Fields.field-0.now c.push_node.new.fields (c.as_parts_mut.follows.lender c.push_node.new.fields) _ _
    (back ∙ c.name_of-name.ensures) (ap (λ z. int_eq z last_name) back ∙ other_word n last_name more) (c.in_ok-node.ensures {u = tt}) c.in-Fields.is same held
    (c.in_ok-push_node-in-Fields.ensures {u = tt}).ok (to_z-of_z w64 _ (subst (λ z. FitsSigned w64 (z +ℤ pos 1)) (sym back) next)) in
    record { ok = is; fault = tt; err = tt; graph = (c.graphs_law.ensures.added (datum_of c.args.fresh) (datum_of c.args.graph.now) _ _ c.requires is).0 }
