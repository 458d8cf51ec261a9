use Rattle.std.proofs.Common.{refl}
use Rattle.node_core.proofs.Reaching.{arrives_held, arrives_not, refused_held, refused_none, refused_outside}
use Rattle.node_core.proofs.Keeping.{keeps_none, keeps_still}
use Rattle.node_core.proofs.work.Work.arrive.Goals as goal
use Rattle.node_core.proofs.work.Work.arrive.Goals.{then-is_outside-via-else-is_outside+then-is_held, then-is_outside-via-then-is_outside}

pub returns-then-is_outside-clause-does : goal.returns-then-is_outside-clause-does
returns-then-is_outside-clause-does g c =
    arrives_not g.P.OneRun.stood g.P.OneRun.left c.args.errand c.args.self.now
    (elim c.then-is_outside.branch [
      | then-is_outside-via-then-is_outside w ↦ refused_outside c.args.errand c.args.self.now c.is_outside.result c.is_outside.ensures w.if-is_outside.true
      | then-is_outside-via-else-is_outside+then-is_held w ↦
          refused_held c.args.errand c.args.self.now c.is_outside.result w.is_held.result w.as_slice.result.now c.is_outside.ensures w.if-is_outside.false
          w.as_slice.ensures.value w.is_held.ensures w.if-is_held.true
    ])

pub returns-clause-does : goal.returns-clause-does
returns-clause-does g c =
    arrives_held g.P.OneRun.stood g.P.OneRun.left c.args.errand c.args.self.now _
    (refused_none c.args.errand c.args.self.now c.is_outside.result c.is_held.result c.as_slice.result.now c.is_outside.ensures c.if-is_outside.false c.as_slice.ensures.value
    c.is_held.ensures c.if-is_held.false)
    refl ((c.in_ok-push.ensures {u = tt}).items)

pub returns-then-is_outside-clause-tasks : goal.returns-then-is_outside-clause-tasks
returns-then-is_outside-clause-tasks g c = keeps_none _ _

pub returns-clause-tasks : goal.returns-clause-tasks
returns-clause-tasks g c = keeps_still _ _ _ refl refl
