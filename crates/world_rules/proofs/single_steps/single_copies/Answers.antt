use Rattle.world_rules.proofs.single_steps.single_copies.Goals as goal
use Rattle.world_rules.proofs.SingleCopies.{answer_waits, ask_waits, repeated_ask, single_run}

pub returns : goal.returns
returns c = record { run = single_run; ask = ask_waits; repeated = repeated_ask; answer = answer_waits }
