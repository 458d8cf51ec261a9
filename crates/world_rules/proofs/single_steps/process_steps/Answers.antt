use Rattle.world_rules.proofs.single_steps.process_steps.Goals as goal
use Rattle.world_rules.proofs.ProcessSteps.{blocked_read, fork, stands}

pub returns : goal.returns
returns c = record { blocked = blocked_read; fork = fork; stands = stands }
