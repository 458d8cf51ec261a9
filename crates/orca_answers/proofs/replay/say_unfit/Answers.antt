use Rattle.orca_answers.proofs.replay.say_unfit.Goals as goal

pub returns-in-Refused-clause-said : goal.returns-in-Refused-clause-said
returns-in-Refused-clause-said g c = λ told before now old new history files sources text read is. c.say_refused.ensures.said told before now old new history files sources text read (rw c.in-Refused.is at is)

pub returns-in-Limited-clause-said : goal.returns-in-Limited-clause-said
returns-in-Limited-clause-said g c = λ told before now old new history files sources text read is.
    let limited = rw c.in-Limited.is at is in
    c.say_limited.ensures.said told before now old new history files sources text limited.0 read limited.1 limited.2
