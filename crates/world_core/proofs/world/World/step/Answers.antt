use Rattle.std.proofs.Common.{OnOk, subst, sym}
use Rattle.world_parts.specs.Seen.{Seen}
use Rattle.world_parts.specs.Standing.{seen_of}
use Rattle.world_core.specs.Stepping.{IsRefused, KeepsOut}
use Rattle.world_core.proofs.world.World.step.Goals as goal

pub returns-clause-enabled : goal.returns-clause-enabled
returns-clause-enabled g c refused =
    c.step.ensures.enabled (subst (λ (v : Seen g.row.P-State.Denot). IsRefused g.P.OneRun.run.frame c.args.event v) (sym c.self.view_is) refused)

pub returns-clause-out : goal.returns-clause-out
returns-clause-out g c =
    subst (λ (v : Seen g.row.P-State.Denot). OnOk c.step.result (KeepsOut g.P.OneRun.run.frame c.args.event v (seen_of c.step.new.parts))) c.self.view_is c.step.ensures.out
