use Rattle.std.proofs.Common.{◌≡◌, ◌∙◌, subst, sym}
use Rattle.world_parts.proofs.Worlds.{is_world}
use Rattle.world_parts.specs.Seen.{Seen, tasks_out}
use Rattle.world_core.proofs.NoneOut.{quiet_out}
use Rattle.world_core.proofs.world.World.is_quiet.Goals as goal

pub returns-clause-quiet : goal.returns-clause-quiet
returns-clause-quiet g c w replays = c.is_quiet.ensures w (is_world g.P.OneRun.stood g.P.OneRun.left g.P.OneRun.run.frame c.self.inside.parts c.args.self.now c.self.view_is c.self.invariant w replays)

pub returns-clause-tasks : goal.returns-clause-tasks
returns-clause-tasks g c quiet =
    let h = c.self.invariant in
    subst (λ (v : Seen g.row.P-State.Denot). tasks_out v ≡ 0) c.self.view_is
    (quiet_out g.P.OneRun.stood g.P.OneRun.left g.P.OneRun.run.frame c.self.inside.parts h.world h h.is (sym (c.is_quiet.ensures h.world h.is) ∙ quiet))
