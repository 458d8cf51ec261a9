use Rattle.code_steps.proofs.arguments.take_one.Goals as goal

pub returns-in-Gives : goal.returns-in-Gives
returns-in-Gives c = rw c.in-Gives.is c.take_given.ensures

pub returns-in-Lends : goal.returns-in-Lends
returns-in-Lends c = rw (c.in-Lends.is, ← c.deref.ensures.value) c.take_lent.ensures
