use Rattle.std.proofs.Common.{◌≡◌, ◌+◌, ℕ, suc, ap, subst, refl, arith}
use Rattle.net_rules.specs.Flights.{ticked}
use Rattle.world_calls.specs.Law.{ticking}
use Rattle.world_rules.specs.declared.event.Event.TheVariants as event
use Rattle.world_parts.specs.Recorded.{of_pieces}
use Rattle.world_core.specs.Growing.{Progress}
use Rattle.world_core.proofs.Doing.{low_all}
use Rattle.world_core.proofs.Progressing.{progress_done, progress_first}
use Rattle.world_core.proofs.events.all_tick.Goals as goal

pub members-init : goal.members-init
members-init g c w is =
    let grows = c.requires.stands.laws.grow g.P.OneRun.run.frame refl refl c.requires.stands.settings c.args.parts.now.ledger.steps w is.replays (c.requires.going w is) event.Tick tt (c.requires.quiet w is) in
    progress_first g.P.OneRun.stood g.P.OneRun.left g.P.OneRun.run.frame c.args.parts.now w (record w { flights = ticked w.flights }) (ticking g.P.OneRun.run.frame w g.P.OneRun.run.frame.settings.nodes).world c.nothing-draft.result is refl refl (record { parts = c.nothing-draft.ensures.parts; outgoing = c.nothing-draft.ensures.outgoing; entries = c.nothing-draft.ensures.entries; pieces = ap of_pieces c.nothing-draft.ensures.pieces; stirred = c.nothing-draft.ensures.stirred }) grows.list

pub tick-requires-clause-within : goal.tick-requires-clause-within
tick-requires-clause-within g c = omega (arith, c.members-test.true, c.requires.stands.numbers.nodes)

pub members-preserved : goal.members-preserved
members-preserved g c w is =
    subst (λ (n : ℕ). Progress g.P.OneRun.stood g.P.OneRun.left g.P.OneRun.run.frame c.args.parts.now w (ticking g.P.OneRun.run.frame w g.P.OneRun.run.frame.settings.nodes).world c.tick.new.draft (ticking g.P.OneRun.run.frame w n)) (let e : suc c.members.member ≡ c.members.member + 1 = omega arith in e)
    ((c.in_ok-tick.ensures {u = tt}) w is)

pub returns : goal.returns
returns g c w is =
    let grows = c.requires.stands.laws.grow g.P.OneRun.run.frame refl refl c.requires.stands.settings c.args.parts.now.ledger.steps w is.replays (c.requires.going w is) event.Tick tt (c.requires.quiet w is) in
    let all : c.members.member ≡ g.P.OneRun.run.frame.settings.nodes = omega (arith, c.members.auto.member-end, c.members-test.false, c.requires.stands.numbers.nodes) in (
      tt,
      c.requires.quiet w is,
      progress_done g.P.OneRun.stood g.P.OneRun.left g.P.OneRun.run.frame c.args.parts.now w event.Tick c.members.draft (ticking g.P.OneRun.run.frame w g.P.OneRun.run.frame.settings.nodes) is grows.list grows.performed (low_all g.P.OneRun.stood g.P.OneRun.left g.P.OneRun.run.frame c.args.parts.now w c.requires.stands is)
          (subst (λ (n : ℕ). Progress g.P.OneRun.stood g.P.OneRun.left g.P.OneRun.run.frame c.args.parts.now w (ticking g.P.OneRun.run.frame w g.P.OneRun.run.frame.settings.nodes).world c.members.draft (ticking g.P.OneRun.run.frame w n)) all (c.members.invariant w is)) (λ m i. refl),
    )
