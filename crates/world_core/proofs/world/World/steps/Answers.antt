use Rattle.std.proofs.Common.{subst}
use Rattle.world_rules.specs.Steps.{Replays}
use Rattle.world_parts.specs.Seen.{Seen}
use Rattle.world_core.proofs.world.World.steps.Goals as goal

pub returns-clause-replayed : goal.returns-clause-replayed
returns-clause-replayed g c =
    (c.self.invariant.world, subst (λ (v : Seen g.row.P-State.Denot). Replays g.P.OneRun.run.frame v.steps c.self.invariant.world) c.self.view_is c.self.invariant.is.replays)
