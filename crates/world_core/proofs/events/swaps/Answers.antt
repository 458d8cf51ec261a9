use Rattle.std.proofs.Common.{◌∙◌, ap, sym, refl, suc}
use Rattle.world_rules.specs.declared.event.Event.TheVariants as event
use Rattle.world_parts.specs.Recorded.{of_pieces}
use Rattle.world_core.proofs.Doing.{not_both, quiet_draft}
use Rattle.world_core.proofs.events.swaps.Goals as goal

pub returns-then-may_swap-clause-drafts : goal.returns-then-may_swap-clause-drafts
returns-then-may_swap-clause-drafts g c w is =
    let may = sym (c.may_swap.ensures w is) ∙ c.if-may_swap.true in (
      tt,
      may,
      quiet_draft g.P.OneRun.stood g.P.OneRun.left g.P.OneRun.run.frame c.args.parts.now w (record w { swaps = suc w.swaps }) event.Swap tt c.nothing.result
          (record { stands = c.requires.stands; is = is; going = c.requires.going w is; possible = may }) refl refl refl (record { parts = c.nothing.ensures.parts; outgoing = c.nothing.ensures.outgoing; entries = c.nothing.ensures.entries; pieces = ap of_pieces c.nothing.ensures.pieces; stirred = c.nothing.ensures.stirred }) (λ m i. refl),
    )

pub returns-else-may_swap-clause-refused : goal.returns-else-may_swap-clause-refused
returns-else-may_swap-clause-refused g c err w is given may = not_both c.may_swap.result c.if-may_swap.false (c.may_swap.ensures w is ∙ may)
