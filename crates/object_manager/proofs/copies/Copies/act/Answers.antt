use Rattle.object_manager.proofs.copies.Copies.act.Goals as goal
use Rattle.object_manager.proofs.copies.Copies.act.Goals.{in-Make+in_ok-making-in-Make, in-Fork+in_ok-can_fork-in-Fork}

pub returns-clause-joins : goal.returns-clause-joins
returns-clause-joins g c =
    let p = g.P.Performer.performs c.args.performer.now in
    elim c.match-message.branch [
      | in-Make+in_ok-making-in-Make w ↦ rw w.reply-is (w.put_made.ensures.joins p c.args.self.now.objects)
      | in-Fork+in_ok-can_fork-in-Fork w ↦ rw w.reply-is tt
    ]
