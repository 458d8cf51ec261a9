use Rattle.std.proofs.Common.{◌∙◌, ap, sym, refl, arith, slice_get}
use Rattle.node_core.specs.Stands.{fitness_of}
use Rattle.node_rules.specs.Starts.Start.{Acts}
use Rattle.world_rules.specs.Worlds.{home_of}
use Rattle.world_rules.specs.declared.event.Event.TheVariants as event
use Rattle.world_parts.proofs.Worlds.{home_within}
use Rattle.world_parts.specs.Recorded.{of_pieces}
use Rattle.world_core.proofs.Doing.{Here, not_both, one_comes, one_draft, one_may}
use Rattle.world_core.proofs.events.carries_out.Goals as goal

pub member_of-before-requires-clause-within : goal.member_of-before-requires-clause-within
member_of-before-requires-clause-within g c =
    let w = c.requires.stands.world in
    let is = c.requires.stands.is in
    omega (arith, c.home_of-home.ensures w is, home_within g.P.OneRun.stood g.P.OneRun.left g.P.OneRun.run.frame c.args.parts.now w c.requires.stands c.args.process.0)

pub acts_at-requires : goal.acts_at-requires
acts_at-requires g c =
    let m = c.args.machine.now in
    let w = c.requires.stands.world in
    let is = c.requires.stands.is in
    let s = c.args.parts.now in
    let may = sym (c.may_act.ensures w is) ∙ c.if-may_act.true in
    let here : Here g.P.OneRun.stood g.P.OneRun.left g.P.OneRun.run.frame s w (event.Act c.args.process) tt = record { stands = c.requires.stands; is = is; going = c.requires.going w is; possible = may } in
    let lt = home_within g.P.OneRun.stood g.P.OneRun.left g.P.OneRun.run.frame c.args.parts.now w c.requires.stands c.args.process.0 in
    let at = ap (slice_get s.nodes.items) (sym (c.home_of-home.ensures w is)) ∙ sym c.member_of-before.ensures in
    let tells = (c.requires.stands.laws.grow g.P.OneRun.run.frame refl refl c.requires.stands.settings s.ledger.steps w is.replays (c.requires.going w is) (event.Act c.args.process) tt may).parts in
    let own = c.requires.stands.laws.own g.P.OneRun.run.frame refl refl c.requires.stands.settings s.ledger.steps w is.replays (event.Act c.args.process) tt may in
    let fits = c.parts_fit_apart.ensures g.P.OneRun.run.frame (sym (g.met.P.OneRun.performs_run m)) (sym (g.met.P.OneRun.computes_run m)) c.requires.stands.settings c.args.parts.now.ledger.steps w is.replays (c.requires.going w is) (event.Act c.args.process) tt may in
    one_may g.P.OneRun.stood g.P.OneRun.left g.P.OneRun.run.frame (fitness_of (g.P.Performer.fits_state m) (g.P.Performer.fits_args m) (g.P.Performer.fits_text m) (g.P.Performer.fits_reply m)) s w w (event.Act c.args.process) tt (home_of g.P.OneRun.run.frame w c.args.process.0) (Acts c.args.process.0) c.member_of-before.result.now c.nothing-draft.result here c.walking_law.ensures.walks refl
    (one_comes g.P.OneRun.stood g.P.OneRun.left g.P.OneRun.run.frame s w (event.Act c.args.process) tt (home_of g.P.OneRun.run.frame w c.args.process.0) (Acts c.args.process.0) c.member_of-before.result.now here lt at own tells) fits (record { parts = c.nothing-draft.ensures.parts; outgoing = c.nothing-draft.ensures.outgoing; entries = c.nothing-draft.ensures.entries; pieces = ap of_pieces c.nothing-draft.ensures.pieces; stirred = c.nothing-draft.ensures.stirred })

pub returns-in_ok-acts_at-clause-drafts : goal.returns-in_ok-acts_at-clause-drafts
returns-in_ok-acts_at-clause-drafts g c w is =
    let m = c.args.machine.now in
    let s = c.args.parts.now in
    let may = sym (c.may_act.ensures w is) ∙ c.if-may_act.true in
    let here : Here g.P.OneRun.stood g.P.OneRun.left g.P.OneRun.run.frame s w (event.Act c.args.process) tt = record { stands = c.requires.stands; is = is; going = c.requires.going w is; possible = may } in
    let lt = home_within g.P.OneRun.stood g.P.OneRun.left g.P.OneRun.run.frame c.args.parts.now w c.requires.stands c.args.process.0 in
    let at = ap (slice_get s.nodes.items) (sym (c.home_of-home.ensures w is)) ∙ sym c.member_of-before.ensures in
    let tells = (c.requires.stands.laws.grow g.P.OneRun.run.frame refl refl c.requires.stands.settings s.ledger.steps w is.replays (c.requires.going w is) (event.Act c.args.process) tt may).parts in
    let own = c.requires.stands.laws.own g.P.OneRun.run.frame refl refl c.requires.stands.settings s.ledger.steps w is.replays (event.Act c.args.process) tt may in
    let fits = c.parts_fit_apart.ensures g.P.OneRun.run.frame (sym (g.met.P.OneRun.performs_run m)) (sym (g.met.P.OneRun.computes_run m)) c.requires.stands.settings c.args.parts.now.ledger.steps w is.replays (c.requires.going w is) (event.Act c.args.process) tt may in (
      tt,
      may,
      one_draft g.P.OneRun.stood g.P.OneRun.left g.P.OneRun.run.frame (fitness_of (g.P.Performer.fits_state m) (g.P.Performer.fits_args m) (g.P.Performer.fits_text m) (g.P.Performer.fits_reply m)) s w w (event.Act c.args.process) tt (home_of g.P.OneRun.run.frame w c.args.process.0) (Acts c.args.process.0) c.member_of-before.result.now c.nothing-draft.result c.acts_at.new.draft here refl refl refl
          (one_comes g.P.OneRun.stood g.P.OneRun.left g.P.OneRun.run.frame s w (event.Act c.args.process) tt (home_of g.P.OneRun.run.frame w c.args.process.0) (Acts c.args.process.0) c.member_of-before.result.now here lt at own tells) fits (record { parts = c.nothing-draft.ensures.parts; outgoing = c.nothing-draft.ensures.outgoing; entries = c.nothing-draft.ensures.entries; pieces = ap of_pieces c.nothing-draft.ensures.pieces; stirred = c.nothing-draft.ensures.stirred }) (c.in_ok-acts_at.ensures {u = tt}) (λ k i. refl),
    )

pub returns-else-may_act-clause-refused : goal.returns-else-may_act-clause-refused
returns-else-may_act-clause-refused g c err w is given may = not_both c.may_act.result c.if-may_act.false (c.may_act.ensures w is ∙ may)
