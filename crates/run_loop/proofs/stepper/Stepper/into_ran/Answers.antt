use Rattle.std.proofs.Common.{◌≡◌, IfSome, List, Option, subst, sym}
use Rattle.net_rules.specs.declared.asked.Asked.{Asked}
use Rattle.run_ends.specs.declared.ends.RunEnd.{RunEnd}
use Rattle.world_parts.specs.Seen.{Of}
use Rattle.world_rules.specs.Standings as rules
use Rattle.run_loop.specs.Driven.{HasCome, Stepping}
use Rattle.run_loop.specs.Left.{HasRun}
use Rattle.run_loop.proofs.Ending.{asked_in, gone_by, kept_steps, ran}
use Rattle.run_loop.proofs.stepper.Stepper.into_ran.Goals as goal

pub returns-clause-stands : goal.returns-clause-stands
returns-clause-stands g c =
    subst (λ (s : Stepping g.row.P-State.Denot). Of g.P.OneRun.run.frame s.world (λ w. c.standing.result ≡ rules.standing g.P.OneRun.run.frame w)) c.self.view_is c.standing.ensures.standing

pub returns-clause-steps : goal.returns-clause-steps
returns-clause-steps g c =
    subst (λ (s : Stepping g.row.P-State.Denot). IfSome c.ok.result (λ end. end.steps.items ≡ s.world.steps)) c.self.view_is
    (subst (λ (o : Option RunEnd). IfSome o (λ end. end.steps.items ≡ c.self.inside.driver.world.steps)) (sym c.ok.ensures.value) (kept_steps c.into_end.result c.self.inside.driver.world.steps c.into_end.ensures.steps))

pub returns-clause-run : goal.returns-clause-run
returns-clause-run g c =
    let f = g.P.OneRun.run.frame in
    let st = c.standing.result in
    let old = g.P.OneRun.run.told in
    subst (λ (t : Stepping g.row.P-State.Denot). (told : List (List Asked)) → HasCome f t old told → IfSome c.ok.result (HasRun f st old told)) c.self.view_is
    (λ told come.
    subst (λ (o : Option RunEnd). IfSome o (HasRun f st old told)) (sym c.ok.ensures.value)
    (ran f c.self.inside.driver.world st old told c.into_end.result
    (gone_by f (record { world = c.self.inside.driver.world; in_use = c.self.inside.driver.in_use }) st old told come c.standing.ensures.standing)
    c.standing.ensures.standing c.standing.ensures.stuck c.into_end.ensures.steps c.into_end.ensures.book c.into_end.ensures.places c.into_end.ensures.its c.into_end.ensures.longest c.into_end.ensures.nodes c.into_end.ensures.processes c.into_end.ensures.mean
    c.into_end.ensures.kept))

pub returns-clause-asked : goal.returns-clause-asked
returns-clause-asked g c told come =
    let f = g.P.OneRun.run.frame in
    asked_in f c.args.self.world c.standing.result g.P.OneRun.run.told told
    (gone_by f c.args.self c.standing.result g.P.OneRun.run.told told come
    (subst (λ (s : Stepping g.row.P-State.Denot). Of f s.world (λ w. c.standing.result ≡ rules.standing f w)) c.self.view_is c.standing.ensures.standing))

pub returns-clause-told : goal.returns-clause-told
returns-clause-told g c told come =
    let f = g.P.OneRun.run.frame in
    (gone_by f c.args.self c.standing.result g.P.OneRun.run.told told come
    (subst (λ (s : Stepping g.row.P-State.Denot). Of f s.world (λ w. c.standing.result ≡ rules.standing f w)) c.self.view_is c.standing.ensures.standing)).told
