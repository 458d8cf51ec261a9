use Rattle.std.proofs.Common.{◌∙◌, ap}
use Rattle.world_parts.proofs.Worlds.{is_world}
use Rattle.world_parts.specs.Seen.{Seen, out_at, tasks_out}
use Rattle.world_core.proofs.NoneOut.{out_is}
use Rattle.world_core.proofs.world.World.tasks_out.Goals as goal

pub returns-clause-count : goal.returns-clause-count
returns-clause-count g c = c.tasks_out.ensures ∙ ap (λ (v : Seen g.row.P-State.Denot). tasks_out v) c.self.view_is

pub returns-clause-each : goal.returns-clause-each
returns-clause-each g c w replays m i task out =
    out_is g.P.OneRun.stood g.P.OneRun.left g.P.OneRun.run.frame c.self.inside.parts w c.self.invariant
    (is_world g.P.OneRun.stood g.P.OneRun.left g.P.OneRun.run.frame c.self.inside.parts c.args.self.now c.self.view_is c.self.invariant w replays) m i task
    (ap (λ (v : Seen g.row.P-State.Denot). out_at v m i) c.self.view_is ∙ out)
