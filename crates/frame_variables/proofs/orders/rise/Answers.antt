use Rattle.frame_variables.proofs.Keeping.{no_values_rise, values_rise}
use Rattle.frame_variables.proofs.orders.rise.Goals as goal

pub returns-in-None : goal.returns-in-None
returns-in-None c t = no_values_rise c.args.values.now (c.in-None.ensures {u = tt}).cases

pub returns-in-Some : goal.returns-in-Some
returns-in-Some c t = values_rise c.args.values.now c.in-Some.rest.now c.in-Some.first.now (c.in-Some.ensures {u = tt}).cases.0 (c.rise_from.ensures t)
