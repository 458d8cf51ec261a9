use Rattle.std.proofs.Common.{◌≤◌, ℕ, sym, subst, arith}
use Rattle.node_core.specs.Stands.{fitness_of}
use Rattle.world_parts.proofs.Worlds.{home_within}
use Rattle.world_core.proofs.Running.{Drafted, burst_drafts, burst_refused, bursts_by, may_hand, ran_least}
use Rattle.world_core.proofs.events.computes.Goals as goal

pub member_of-before-requires-clause-within : goal.member_of-before-requires-clause-within
member_of-before-requires-clause-within g c =
    let w = c.requires.stands.world in
    let low = home_within g.P.OneRun.stood g.P.OneRun.left g.P.OneRun.run.frame c.args.parts.now w c.requires.stands c.args.process.0 in
    omega (arith, c.home_of-home.ensures w c.requires.stands.is, low)

pub view_at-requires-clause-within : goal.view_at-requires-clause-within
view_at-requires-clause-within g c =
    let w = c.requires.stands.world in
    let low = home_within g.P.OneRun.stood g.P.OneRun.left g.P.OneRun.run.frame c.args.parts.now w c.requires.stands c.args.process.0 in
    omega (arith, c.home_of-home.ensures w c.requires.stands.is, low)

pub view_at-requires-clause-low : goal.view_at-requires-clause-low
view_at-requires-clause-low g c w is =
    let b = bursts_by g.P.OneRun.stood g.P.OneRun.left g.P.OneRun.run.frame c.args.parts.now w c.args.process c.args.place (c.requires.may w is) in
    subst (λ (m : ℕ). c.args.place ≤ (w.nodes m).member.applied) (sym (c.home_of-home.ensures w is)) b.before

pub run_on-requires : goal.run_on-requires
run_on-requires g c =
    let m = c.args.machine.now in
    let w = c.requires.stands.world in
    let is = c.requires.stands.is in
    let b = bursts_by g.P.OneRun.stood g.P.OneRun.left g.P.OneRun.run.frame c.args.parts.now w c.args.process c.args.place (c.requires.may w is) in
    may_hand g.P.OneRun.stood g.P.OneRun.left g.P.OneRun.run.frame (fitness_of (g.P.Performer.fits_state m) (g.P.Performer.fits_args m) (g.P.Performer.fits_text m) (g.P.Performer.fits_reply m)) c.args.parts.now w c.args.process c.args.place c.home_of-home.result c.turns_of-start.result c.budget-budget.result c.in_ok-view.view c.member_of-before.result.now c.requires.stands is b
    (c.run_law.ensures.earlier g.P.OneRun.run.frame (sym (g.met.P.OneRun.performs_run m)) (sym (g.met.P.OneRun.computes_run m)) c.requires.stands.settings c.args.parts.now.ledger.steps w is.replays (c.requires.going w is))
    (c.home_of-home.ensures w is) c.member_of-before.ensures ((c.in_ok-view.ensures {u = tt}) w is) (c.turns_of-start.ensures w is) c.budget-budget.ensures

pub overflow_sub-ran : goal.overflow_sub-ran
overflow_sub-ran g c =
    let w = c.requires.stands.world in
    let is = c.requires.stands.is in
    let b = bursts_by g.P.OneRun.stood g.P.OneRun.left g.P.OneRun.run.frame c.args.parts.now w c.args.process c.args.place (c.requires.may w is) in
    ran_least g.P.OneRun.stood g.P.OneRun.left g.P.OneRun.run.frame c.args.parts.now w c.args.process c.args.place c.home_of-home.result c.turns_of-start.result c.in_ok-view.view c.member_of-before.result.now c.in_ok-ran.ran
    is b (c.home_of-home.ensures w is) c.member_of-before.ensures (c.in_ok-ran.ensures {u = tt}) (c.turns_of-start.ensures w is)

pub returns-in_ok-with_burst-clause-drafts : goal.returns-in_ok-with_burst-clause-drafts
returns-in_ok-with_burst-clause-drafts g c w is =
    let b = bursts_by g.P.OneRun.stood g.P.OneRun.left g.P.OneRun.run.frame c.args.parts.now w c.args.process c.args.place (c.requires.may w is) in
    let drafted : Drafted c.in_ok-with_burst.field-0 c.home_of-home.result c.in_ok-ran.ran = record { parts = (c.in_ok-with_burst.ensures {u = tt}).parts; outgoing = (c.in_ok-with_burst.ensures {u = tt}).outgoing; entries = (c.in_ok-with_burst.ensures {u = tt}).entries; pieces = (c.in_ok-with_burst.ensures {u = tt}).pieces; stirred = (c.in_ok-with_burst.ensures {u = tt}).stirred } in
    burst_drafts g.P.OneRun.stood g.P.OneRun.left g.P.OneRun.run.frame c.args.parts.now w c.args.process c.args.place c.home_of-home.result c.turns_of-start.result c.args.turns c.in_ok-view.view c.member_of-before.result.now c.in_ok-ran.ran c.in_ok-with_burst.field-0
    c.requires.stands is b (c.home_of-home.ensures w is) c.member_of-before.ensures ((c.in_ok-view.ensures {u = tt}) w is) (c.in_ok-ran.ensures {u = tt}) (c.turns_of-start.ensures w is) (omega (arith, c.if-ran-start.true, c.from.ensures)) drafted

pub returns-else-ran-start-clause-refused : goal.returns-else-ran-start-clause-refused
returns-else-ran-start-clause-refused g c err w is =
    let b = bursts_by g.P.OneRun.stood g.P.OneRun.left g.P.OneRun.run.frame c.args.parts.now w c.args.process c.args.place (c.requires.may w is) in
    burst_refused g.P.OneRun.stood g.P.OneRun.left g.P.OneRun.run.frame c.args.parts.now w c.args.process c.args.place c.home_of-home.result c.turns_of-start.result c.args.turns c.in_ok-view.view c.member_of-before.result.now c.in_ok-ran.ran (c.replay_law.ensures.once g.P.OneRun.run.frame (sym (g.met.P.OneRun.computes_run c.args.machine.now))).ran
    is b (c.home_of-home.ensures w is) c.member_of-before.ensures ((c.in_ok-view.ensures {u = tt}) w is) (c.in_ok-ran.ensures {u = tt}) (c.turns_of-start.ensures w is) (λ same. c.if-ran-start.false (omega (arith, same, c.from.ensures)))
