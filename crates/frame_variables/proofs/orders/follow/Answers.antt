use Rattle.frame_variables.proofs.Keeping.{values_follow}
use Rattle.frame_variables.proofs.orders.follow.Goals as goal

pub returns-in-Some : goal.returns-in-Some
returns-in-Some c t = values_follow c.args.values.now c.in-Some.rest.now c.in-Some.first.now (c.in-Some.ensures {u = tt}).cases.0 (c.follow_from.ensures t)
