use Rattle.std.proofs.Common.{◌∙◌, sym}
use Rattle.node_core.specs.Stands.{fitness_of}
use Rattle.world_parts.proofs.Ruling.{lives_within}
use Rattle.world_rules.specs.declared.event.Event.TheVariants as event
use Rattle.world_core.proofs.Ticks.{tick_done, tick_may, tick_past}
use Rattle.world_core.proofs.events.tick.Goals as goal

pub ticks_at-requires : goal.ticks_at-requires
ticks_at-requires g c =
    let m = c.args.machine.now in
    let w = c.requires.stands.world in
    let is = c.requires.stands.is in
    let lives = sym (lives_within g.P.OneRun.run.frame w c.args.member c.requires.within) ∙ sym (c.lives.ensures w is) ∙ c.if-lives.true in
    tick_may g.P.OneRun.stood g.P.OneRun.left g.P.OneRun.run.frame (fitness_of (g.P.Performer.fits_state m) (g.P.Performer.fits_args m) (g.P.Performer.fits_text m) (g.P.Performer.fits_reply m)) c.args.parts.now w c.args.member c.member_of-before.result.now c.args.draft.now
    c.requires.stands is (c.requires.going w is) (c.requires.quiet w is) c.walking_law.ensures.walks
    (λ n lt on. c.parts_fit_apart.ensures g.P.OneRun.run.frame (sym (g.met.P.OneRun.performs_run m)) (sym (g.met.P.OneRun.computes_run m)) c.requires.stands.settings c.args.parts.now.ledger.steps w is.replays (c.requires.going w is) event.Tick tt (c.requires.quiet w is) n lt on)
    c.requires.within (sym c.member_of-before.ensures) lives (c.requires.drafted w is)

pub returns-in_ok-ticks_at : goal.returns-in_ok-ticks_at
returns-in_ok-ticks_at g c w is =
    let m = c.args.machine.now in
    let lives = sym (lives_within g.P.OneRun.run.frame w c.args.member c.requires.within) ∙ sym (c.lives.ensures w is) ∙ c.if-lives.true in
    tick_done g.P.OneRun.stood g.P.OneRun.left g.P.OneRun.run.frame (fitness_of (g.P.Performer.fits_state m) (g.P.Performer.fits_args m) (g.P.Performer.fits_text m) (g.P.Performer.fits_reply m)) c.args.parts.now w c.args.member c.member_of-before.result.now c.args.draft.now c.ticks_at.new.draft
    c.requires.stands is (c.requires.going w is) (c.requires.quiet w is)
    (c.parts_fit_apart.ensures g.P.OneRun.run.frame (sym (g.met.P.OneRun.performs_run m)) (sym (g.met.P.OneRun.computes_run m)) c.requires.stands.settings c.args.parts.now.ledger.steps w is.replays (c.requires.going w is) event.Tick tt (c.requires.quiet w is) c.args.member c.requires.within lives)
    c.requires.within (sym c.member_of-before.ensures) lives (c.requires.drafted w is) (c.in_ok-ticks_at.ensures {u = tt})

pub returns-else-lives : goal.returns-else-lives
returns-else-lives g c w is =
    tick_past g.P.OneRun.stood g.P.OneRun.left g.P.OneRun.run.frame c.args.parts.now w c.args.member c.args.draft.now c.requires.stands (sym (lives_within g.P.OneRun.run.frame w c.args.member c.requires.within) ∙ sym (c.lives.ensures w is) ∙ c.if-lives.false) (c.requires.drafted w is)
