use Rattle.std.proofs.Common.{◌∙◌, ap, sym, refl}
use Rattle.node_core.specs.Stands.{fitness_of}
use Rattle.node_rules.specs.Starts.Start.{Suspects}
use Rattle.world_rules.specs.declared.event.Event.TheVariants as event
use Rattle.world_parts.specs.Recorded.{of_pieces}
use Rattle.world_core.proofs.Doing.{Here, not_both, one_comes, one_draft, one_may, within_of}
use Rattle.world_core.proofs.events.suspects.Goals as goal

pub member_of-before-requires-clause-within : goal.member_of-before-requires-clause-within
member_of-before-requires-clause-within g c =
    let w = c.requires.stands.world in
    let is = c.requires.stands.is in
    within_of g.P.OneRun.run.frame w c.args.member (sym (c.lives.ensures w is) ∙ c.if-lives.true)

pub suspects_at-requires : goal.suspects_at-requires
suspects_at-requires g c =
    let m = c.args.machine.now in
    let w = c.requires.stands.world in
    let is = c.requires.stands.is in
    let s = c.args.parts.now in
    let may = sym (c.lives.ensures w is) ∙ c.if-lives.true in
    let here : Here g.P.OneRun.stood g.P.OneRun.left g.P.OneRun.run.frame s w (event.Suspect c.args.member) tt = record { stands = c.requires.stands; is = is; going = c.requires.going w is; possible = may } in
    let lt = within_of g.P.OneRun.run.frame w c.args.member (sym (c.lives.ensures w is) ∙ c.if-lives.true) in
    let at = sym c.member_of-before.ensures in
    let tells = (c.requires.stands.laws.grow g.P.OneRun.run.frame refl refl c.requires.stands.settings s.ledger.steps w is.replays (c.requires.going w is) (event.Suspect c.args.member) tt may).parts in
    let own = c.requires.stands.laws.own g.P.OneRun.run.frame refl refl c.requires.stands.settings s.ledger.steps w is.replays (event.Suspect c.args.member) tt may in
    let fits = c.parts_fit_apart.ensures g.P.OneRun.run.frame (sym (g.met.P.OneRun.performs_run m)) (sym (g.met.P.OneRun.computes_run m)) c.requires.stands.settings c.args.parts.now.ledger.steps w is.replays (c.requires.going w is) (event.Suspect c.args.member) tt may in
    one_may g.P.OneRun.stood g.P.OneRun.left g.P.OneRun.run.frame (fitness_of (g.P.Performer.fits_state m) (g.P.Performer.fits_args m) (g.P.Performer.fits_text m) (g.P.Performer.fits_reply m)) s w w (event.Suspect c.args.member) tt c.args.member (Suspects) c.member_of-before.result.now c.nothing-draft.result here c.walking_law.ensures.walks refl
    (one_comes g.P.OneRun.stood g.P.OneRun.left g.P.OneRun.run.frame s w (event.Suspect c.args.member) tt c.args.member (Suspects) c.member_of-before.result.now here lt at own tells) fits (record { parts = c.nothing-draft.ensures.parts; outgoing = c.nothing-draft.ensures.outgoing; entries = c.nothing-draft.ensures.entries; pieces = ap of_pieces c.nothing-draft.ensures.pieces; stirred = c.nothing-draft.ensures.stirred })

pub returns-in_ok-suspects_at-clause-drafts : goal.returns-in_ok-suspects_at-clause-drafts
returns-in_ok-suspects_at-clause-drafts g c w is =
    let m = c.args.machine.now in
    let s = c.args.parts.now in
    let may = sym (c.lives.ensures w is) ∙ c.if-lives.true in
    let here : Here g.P.OneRun.stood g.P.OneRun.left g.P.OneRun.run.frame s w (event.Suspect c.args.member) tt = record { stands = c.requires.stands; is = is; going = c.requires.going w is; possible = may } in
    let lt = within_of g.P.OneRun.run.frame w c.args.member (sym (c.lives.ensures w is) ∙ c.if-lives.true) in
    let at = sym c.member_of-before.ensures in
    let tells = (c.requires.stands.laws.grow g.P.OneRun.run.frame refl refl c.requires.stands.settings s.ledger.steps w is.replays (c.requires.going w is) (event.Suspect c.args.member) tt may).parts in
    let own = c.requires.stands.laws.own g.P.OneRun.run.frame refl refl c.requires.stands.settings s.ledger.steps w is.replays (event.Suspect c.args.member) tt may in
    let fits = c.parts_fit_apart.ensures g.P.OneRun.run.frame (sym (g.met.P.OneRun.performs_run m)) (sym (g.met.P.OneRun.computes_run m)) c.requires.stands.settings c.args.parts.now.ledger.steps w is.replays (c.requires.going w is) (event.Suspect c.args.member) tt may in (
      tt,
      may,
      one_draft g.P.OneRun.stood g.P.OneRun.left g.P.OneRun.run.frame (fitness_of (g.P.Performer.fits_state m) (g.P.Performer.fits_args m) (g.P.Performer.fits_text m) (g.P.Performer.fits_reply m)) s w w (event.Suspect c.args.member) tt c.args.member (Suspects) c.member_of-before.result.now c.nothing-draft.result c.suspects_at.new.draft here refl refl refl
          (one_comes g.P.OneRun.stood g.P.OneRun.left g.P.OneRun.run.frame s w (event.Suspect c.args.member) tt c.args.member (Suspects) c.member_of-before.result.now here lt at own tells) fits (record { parts = c.nothing-draft.ensures.parts; outgoing = c.nothing-draft.ensures.outgoing; entries = c.nothing-draft.ensures.entries; pieces = ap of_pieces c.nothing-draft.ensures.pieces; stirred = c.nothing-draft.ensures.stirred }) (c.in_ok-suspects_at.ensures {u = tt}) (λ k i. refl),
    )

pub returns-else-lives-clause-refused : goal.returns-else-lives-clause-refused
returns-else-lives-clause-refused g c err w is given may = not_both c.lives.result c.if-lives.false (c.lives.ensures w is ∙ may)
