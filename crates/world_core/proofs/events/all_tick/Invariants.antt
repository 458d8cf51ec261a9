use Rattle.world_calls.specs.Law.{ticking}
use Rattle.world_core.specs.Growing.{Progress}
use Rattle.world_parts.specs.Standing.{IsWorld}
use Rattle.world_rules.specs.Worlds.{World}
use Rattle.world_core.proofs.events.all_tick.Given as goal

abbrev pub invariant-members : goal.invariant-members
invariant-members g l =
    (w : World) → IsWorld g.P.OneRun.stood g.P.OneRun.left g.P.OneRun.run.frame l.parts w → Progress g.P.OneRun.stood g.P.OneRun.left g.P.OneRun.run.frame l.parts w (ticking g.P.OneRun.run.frame w g.P.OneRun.run.frame.settings.nodes).world l.draft (ticking g.P.OneRun.run.frame w l.member)
