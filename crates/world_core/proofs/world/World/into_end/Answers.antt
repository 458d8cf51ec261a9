use Rattle.std.proofs.Common.{refl, subst}
use Rattle.world_rules.specs.Steps.{Replays}
use Rattle.world_parts.specs.Seen.{Seen}
use Rattle.world_core.proofs.world.World.into_end.Goals as goal

pub returns-clause-mean : goal.returns-clause-mean
returns-clause-mean g c w replays = λ i r is. c.self.invariant.laws.mean g.P.OneRun.run.frame refl c.self.invariant.settings.turns c.args.self.steps w replays i r is

pub returns-clause-replayed : goal.returns-clause-replayed
returns-clause-replayed g c =
    (c.self.invariant.world, subst (λ (v : Seen g.row.P-State.Denot). Replays g.P.OneRun.run.frame v.steps c.self.invariant.world) c.self.view_is c.self.invariant.is.replays)

pub returns-clause-stuck : goal.returns-clause-stuck
returns-clause-stuck g c w replays =
    c.self.invariant.laws.stuck g.P.OneRun.run.frame refl refl c.self.invariant.settings c.args.self.steps w replays

pub returns-clause-its : goal.returns-clause-its
returns-clause-its g c w replays =
    c.self.invariant.laws.places g.P.OneRun.run.frame refl refl c.self.invariant.settings c.args.self.steps w replays
