use Rattle.world_rules.proofs.single_steps.network_steps.Goals as goal
use Rattle.world_rules.proofs.NetworkSteps.{crashed, cut_short, exchanged, held_and_repeated, suspected}

pub returns : goal.returns
returns c = record { held = held_and_repeated; cut = cut_short; exchanged = exchanged; crashed = crashed; suspected = suspected }
