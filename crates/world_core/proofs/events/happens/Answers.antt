use Rattle.std.proofs.Common.{sym, subst}
use Rattle.world_rules.specs.declared.event.Event.{Event}
use Rattle.world_core.specs.Drafting.{MayNotBe}
use Rattle.world_core.proofs.events.happens.Goals as goal

pub returns-in-Act-clause-refused : goal.returns-in-Act-clause-refused
returns-in-Act-clause-refused g c err = subst (λ (e : Event). MayNotBe g.P.OneRun.stood g.P.OneRun.left g.P.OneRun.run.frame c.args.parts.now e) (sym c.in-Act.is) (c.carries_out.ensures.refused err)

pub returns-in-Deliver-clause-refused : goal.returns-in-Deliver-clause-refused
returns-in-Deliver-clause-refused g c err = subst (λ (e : Event). MayNotBe g.P.OneRun.stood g.P.OneRun.left g.P.OneRun.run.frame c.args.parts.now e) (sym c.in-Deliver.is) (c.delivers.ensures.refused err)

pub returns-in-Tick-clause-refused : goal.returns-in-Tick-clause-refused
returns-in-Tick-clause-refused g c err = subst (λ (e : Event). MayNotBe g.P.OneRun.stood g.P.OneRun.left g.P.OneRun.run.frame c.args.parts.now e) (sym c.in-Tick.is) (c.ticks.ensures.refused err)

pub returns-in-Suspect-clause-refused : goal.returns-in-Suspect-clause-refused
returns-in-Suspect-clause-refused g c err = subst (λ (e : Event). MayNotBe g.P.OneRun.stood g.P.OneRun.left g.P.OneRun.run.frame c.args.parts.now e) (sym c.in-Suspect.is) (c.suspects.ensures.refused err)

pub returns-in-Crash-clause-refused : goal.returns-in-Crash-clause-refused
returns-in-Crash-clause-refused g c err = subst (λ (e : Event). MayNotBe g.P.OneRun.stood g.P.OneRun.left g.P.OneRun.run.frame c.args.parts.now e) (sym c.in-Crash.is) (c.crashes.ensures.refused err)

pub returns-in-Swap-clause-refused : goal.returns-in-Swap-clause-refused
returns-in-Swap-clause-refused g c err = subst (λ (e : Event). MayNotBe g.P.OneRun.stood g.P.OneRun.left g.P.OneRun.run.frame c.args.parts.now e) (sym c.in-Swap.is) (c.swaps.ensures.refused err)
