use Rattle.std.proofs.Common.{◌≡◌, IfSome, Option, map, subst, sym}
use Rattle.run_ends.specs.declared.ends.RunEnd.{RunEnd}
use Rattle.world_parts.specs.Seen.{Of, Seen}
use Rattle.world_rules.specs.Standings as rules
use Rattle.run_loop.specs.Left.{HasRun}
use Rattle.run_loop.proofs.Ending.{asked_in, kept_steps, ran}
use Rattle.room_state.specs.Driven.{without_tasks}
use Rattle.room_state.proofs.Holding.{gone_as}
use Rattle.room_state.proofs.state.RoomState.into_ran.Goals as goal

pub returns-clause-stands : goal.returns-clause-stands
returns-clause-stands g c =
    subst (λ (s : Seen g.row.P-State.Denot). Of g.P.OneRun.run.frame s (λ w. c.standing.result ≡ rules.standing g.P.OneRun.run.frame w)) c.end-world.ensures.seen c.standing.ensures.standing

pub returns-clause-steps : goal.returns-clause-steps
returns-clause-steps g c =
    subst (λ (s : Seen g.row.P-State.Denot). IfSome c.ok.result (λ end. end.steps.items ≡ s.steps)) c.end-world.ensures.seen
    (subst (λ (o : Option RunEnd). IfSome o (λ end. end.steps.items ≡ c.end-world.result.0.steps)) (sym c.ok.ensures.value) (kept_steps c.into_end.result c.end-world.result.0.steps c.into_end.ensures.steps))

pub returns-clause-run : goal.returns-clause-run
returns-clause-run g c =
    let run = g.P.OneRun.run in
    let s = c.end-world.result.0 in
    let st = c.standing.result in
    let now = map g.W.Wire.told c.end-world.result.1.items in
    subst (λ (o : Option RunEnd). IfSome o (HasRun run.frame st run.told now)) (sym c.ok.ensures.value)
    (ran run.frame (without_tasks s) st run.told now c.into_end.result (gone_as run c.args.self s now st c.end-world.ensures.seen c.end-world.ensures.told c.end-world.ensures.holds c.standing.ensures.standing)
    c.standing.ensures.standing c.standing.ensures.stuck c.into_end.ensures.steps c.into_end.ensures.book c.into_end.ensures.places c.into_end.ensures.its c.into_end.ensures.longest c.into_end.ensures.nodes c.into_end.ensures.processes c.into_end.ensures.mean
    c.into_end.ensures.kept)

pub returns-clause-asked : goal.returns-clause-asked
returns-clause-asked g c =
    let run = g.P.OneRun.run in
    let s = c.end-world.result.0 in
    let st = c.standing.result in
    let now = map g.W.Wire.told c.end-world.result.1.items in
    asked_in run.frame (without_tasks s) st run.told now (gone_as run c.args.self s now st c.end-world.ensures.seen c.end-world.ensures.told c.end-world.ensures.holds c.standing.ensures.standing)

pub returns-clause-told : goal.returns-clause-told
returns-clause-told g c =
    let run = g.P.OneRun.run in
    let s = c.end-world.result.0 in
    let st = c.standing.result in
    let now = map g.W.Wire.told c.end-world.result.1.items in
    (gone_as run c.args.self s now st c.end-world.ensures.seen c.end-world.ensures.told c.end-world.ensures.holds c.standing.ensures.standing).told
