use Rattle.std.proofs.Common.{◌≡◌, ◌∙◌, refl}
use Rattle.guard_queue.specs.Changes.{objects_changed, queue_changed}
use Rattle.guard_queue.specs.Settles.{lines_of, objects_with, tried_in}
use Rattle.object_manager.proofs.Acting.{called_so}
use Rattle.object_manager.proofs.acts.call_on.Goals as goal

pub returns-in_ok-one_line-in_default : goal.returns-in_ok-one_line-in_default
returns-in_ok-one_line-in_default g c =
    let p = g.P.Performer.performs c.args.performer.now in
    let call = c.args.call in
    let objects = c.args.objects.now in
    let tried = c.in_ok-tried.tried in
    let is : tried ≡ tried_in p objects call = c.in_ok-tried.ensures {u = tt} in
    let put : objects_changed objects c.put.result ≡ objects_with objects call tried = c.put.ensures.objects objects ∙ c.perform-line.ensures.objects in
    let lines = lines_of c.in_ok-one_line-in_default.field-0.items in
    record {
      acted = λ queue.
          called_so objects (objects_changed objects c.put.result) queue (queue_changed queue c.put.result) call tried (tried_in p objects call) c.perform-line.result.0 lines is c.in_default.not-Blocked put (c.put.ensures.queue queue)
          c.perform-line.ensures.line (c.in_ok-one_line-in_default.ensures {u = tt});
      joins = c.put.ensures.joins p objects;
      forks = refl;
    }
