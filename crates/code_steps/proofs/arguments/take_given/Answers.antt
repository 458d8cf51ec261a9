use Rattle.code_steps.proofs.Taking.{gives_none, gives_one}
use Rattle.code_steps.proofs.arguments.take_given.Goals as goal

pub returns-in-Some : goal.returns-in-Some
returns-in-Some c = gives_one c.args.stack.now c.pop.new.self c.in-Some.value (c.in-Some.ensures {u = tt})

pub returns-in-None : goal.returns-in-None
returns-in-None c = gives_none c.args.stack.now c.pop.new.self (c.in-None.ensures {u = tt})
