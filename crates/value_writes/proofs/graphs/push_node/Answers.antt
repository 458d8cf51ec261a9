use Rattle.std.proofs.Common.{[], ◌∷◌, ◌++◌, Some, ap, ◌∙◌}
use Rattle.std.specs.Int.{w64}
use Rattle.std.specs.Prelude.{slice_set}
use Rattle.std.specs.Result.{is_ok}
use Rattle.std.proofs.lemmas.Int.{to_z-of_z}
use Rattle.value_core.specs.Datum.{data_of, list_of}
use Rattle.value_core.specs.Datum as datum
use Rattle.value_core.specs.View.{datum_of}
use Rattle.value_writes.proofs.Lists.{pushed_is}
use Rattle.value_writes.proofs.graphs.push_node.Goals as goal

pub returns-clause-ok : goal.returns-clause-ok
returns-clause-ok c =
    let f = c.args.fields.now in
    let pushed = c.push.new.self in
    let held = c.as_parts_mut.follows.holds pushed (ap is_ok c.in_ok-as_parts_mut-in-Set.was) in
    let same = (c.in_ok-as_parts_mut-in-Set.ensures {u = tt}).value ∙ c.in-Set.nodes-is in
    let left = data_of (slice_set (list_of f) 1 (datum.set (c.as_parts_mut.follows.lender pushed))) in
    pushed_is f c.in-Set.nodes pushed left c.set.new.self c.args.next (datum_of c.args.node) c.requires (c.part_mut.ensures.value ∙ ap (λ v. Some (datum_of v)) c.in-Set.is)
    ((c.in_ok-push-in-Set.ensures {u = tt}).ok ∙ ap (λ y. list_of y ++ datum_of c.args.node ∷ []) same)
    (ap (λ y. data_of (slice_set (list_of f) 1 (datum.set y))) held)
    (c.set.ensures ∙ ap (λ z. slice_set (list_of left) 0 (datum.int z)) (to_z-of_z w64 c.args.next c.ranges.next))
