use Rattle.std.proofs.Common.{◌≡◌, map, None, Some, Ok, ap, sym, ◌∙◌}
use Rattle.std.specs.Int.{cast_signed, cast_unsigned, w64}
use Rattle.std.specs.Prelude.{slice_get, slice_set}
use Rattle.std.specs.Result.{is_ok}
use Rattle.value_core.specs.Datum.{data_of, list_of}
use Rattle.value_core.specs.Datum as datum
use Rattle.value_core.specs.View.{datum_of}
use Rattle.graph_values.specs.Graphs.{value_at, value_in}
use Rattle.graph_values.specs.Places.{StandsAt}
use Rattle.value_writes.proofs.Changed.{absent_there, assigned_is, at_none, nowhere, stands_there}
use Rattle.value_writes.proofs.Lists.{node_has_value, node_is_record, none_lent, on_err, put_back}
use Rattle.value_writes.proofs.graphs.assign.Goals as goal

pub set-requires : goal.set-requires
set-requires c =
    let xs = list_of c.args.nodes.now in
    let stands = stands_there c.args.name _ xs c.in-Some.place c.ranges.name (c.in-Some.ensures {u = tt}) c.as_slice.ensures in
    let stood : slice_get xs c.in-Some.place ≡ Some (datum.fields c.in-Fields.node) = c.part_mut.ensures.value ∙ ap (λ v. Some (datum_of v)) c.in-Fields.is in
    node_has_value c.args.name (value_in (datum.fields c.in-Fields.node)) c.in-Fields.node _ (stands.node (datum.fields c.in-Fields.node) stood)
    ((c.in_ok-as_parts_mut-in-Fields.ensures {u = tt}).value ∙ c.in-Fields.node-is)

pub unreachable-requires : goal.unreachable-requires
unreachable-requires c =
    let xs = list_of c.args.nodes.now in
    let stands = stands_there c.args.name _ xs c.in-Some.place c.ranges.name (c.in-Some.ensures {u = tt}) c.as_slice.ensures in
    let x = datum_of c.part_mut.result.now in
    c.in_default-part_mut.not-Fields _ (node_is_record c.args.name (value_in x) c.part_mut.result.now (stands.node x c.part_mut.ensures.value))

pub returns-in_err-as_parts_mut-in-Fields-clause-err : goal.returns-in_err-as_parts_mut-in-Fields-clause-err
returns-in_err-as_parts_mut-in-Fields-clause-err c =
    let stays = none_lent _ _ c.as_parts_mut.follows.lender-at-none _ c.in-Fields.node c.in_err-as_parts_mut-in-Fields.was c.in-Fields.node-is c.as_parts_mut.follows.holds-at-none in
    on_err c.from_residual.result _
    (put_back c.args.nodes.now c.in-Some.place (datum.fields c.in-Fields.node) _ (c.part_mut.ensures.value ∙ ap (λ v. Some (datum_of v)) c.in-Fields.is) (ap datum.fields stays))

pub returns-clause-ok : goal.returns-clause-ok
returns-clause-ok c =
    let xs = list_of c.args.nodes.now in
    let place = c.in-Some.place in
    let w = c.set.new.self in
    let stands = stands_there c.args.name _ xs place c.ranges.name (c.in-Some.ensures {u = tt}) c.as_slice.ensures in
    let stood : slice_get xs place ≡ Some (datum.fields c.in-Fields.node) = c.part_mut.ensures.value ∙ ap (λ v. Some (datum_of v)) c.in-Fields.is in
    let same = (c.in_ok-as_parts_mut-in-Fields.ensures {u = tt}).value ∙ c.in-Fields.node-is in
    let left = c.as_parts_mut.follows.holds w (ap is_ok c.in_ok-as_parts_mut-in-Fields.was) in
    assigned_is c.args.name (datum_of c.args.value) xs c.in-Fields.node w place stands stood (c.set.ensures ∙ ap (λ y. slice_set (list_of y) 1 (datum_of c.args.value)) same)
    ∙ ap (λ y. Ok (list_of (data_of (slice_set xs place (datum.fields y))))) (sym left)

pub returns-in_default-clause-fault : goal.returns-in_default-clause-fault
returns-in_default-clause-fault c =
    let xs = map datum_of c.as_slice.result.now in
    let name = cast_signed w64 (cast_unsigned w64 c.args.name) in
    let absent = at_none c.node_place.result (value_at name xs ≡ None) (StandsAt name xs) c.in_default.is c.node_place.ensures in
    rw c.fail.ensures (nowhere c.args.name (list_of c.args.nodes.now) _ (absent_there c.args.name xs (list_of c.args.nodes.now) c.ranges.name absent c.as_slice.ensures))
