use Rattle.std.proofs.Common.{◌∙◌, ap, sym, refl, false}
use Rattle.group_rules.specs.Sets.{with_at}
use Rattle.world_rules.specs.declared.event.Event.TheVariants as event
use Rattle.world_parts.specs.Recorded.{of_pieces}
use Rattle.world_core.proofs.Doing.{not_both, quiet_draft}
use Rattle.world_core.proofs.events.crashes.Goals as goal

pub returns-then-lives-clause-drafts : goal.returns-then-lives-clause-drafts
returns-then-lives-clause-drafts g c w is =
    let may = sym (c.lives.ensures w is) ∙ c.if-lives.true in (
      tt,
      may,
      quiet_draft g.P.OneRun.stood g.P.OneRun.left g.P.OneRun.run.frame c.args.parts.now w (record w { lives = with_at w.lives c.args.node false }) (event.Crash c.args.node) tt c.nothing.result
          (record { stands = c.requires.stands; is = is; going = c.requires.going w is; possible = may }) refl refl refl (record { parts = c.nothing.ensures.parts; outgoing = c.nothing.ensures.outgoing; entries = c.nothing.ensures.entries; pieces = ap of_pieces c.nothing.ensures.pieces; stirred = c.nothing.ensures.stirred }) (λ m i. refl),
    )

pub returns-else-lives-clause-refused : goal.returns-else-lives-clause-refused
returns-else-lives-clause-refused g c err w is given may = not_both c.lives.result c.if-lives.false (c.lives.ensures w is ∙ may)
