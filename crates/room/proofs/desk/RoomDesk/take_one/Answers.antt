use Rattle.std.proofs.Common.{◌≡◌, rules, subst}
use Rattle.room.specs.Served.{WasHandedOut}
use Rattle.room.proofs.Serving.{handed_now}
use Rattle.room.proofs.desk.RoomDesk.take_one.Goals as goal

pub returns-in-Task-clause-work : goal.returns-in-Task-clause-work
returns-in-Task-clause-work g c = λ t is.
    let f = g.P.OneRun.run.frame in
    let new = c.take.new.self in
    let same : c.in-Task.task ≡ t = cc is in
    subst (λ task. WasHandedOut f c.args.home task new) same (handed_now f c.args.home c.in-Task.task c.args.state.now new (c.take.ensures.task c.in-Task.task (search rules)))
