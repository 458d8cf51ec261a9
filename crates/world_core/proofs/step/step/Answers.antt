use Rattle.std.proofs.Common.{◌∙◌, inl, refl, sym, ap}
use Rattle.world_parts.specs.Standing.{seen_of}
use Rattle.world_core.specs.Stepping.{is_going}
use Rattle.world_core.proofs.Asking.{going_of, not_going, refused_still}
use Rattle.world_core.proofs.Handing.{out_same}
use Rattle.world_core.proofs.step.step.Goals as goal

pub does-requires-clause-going : goal.does-requires-clause-going
does-requires-clause-going g c w is = going_of _ (ap is_going (sym (c.standing.ensures w is)) ∙ sym c.is_going.ensures ∙ c.if-is_going.true)

pub returns-else-is_going-clause-refused : goal.returns-else-is_going-clause-refused
returns-else-is_going-clause-refused g c err =
    refused_still g.P.OneRun.stood g.P.OneRun.left g.P.OneRun.run.frame c.args.parts.now c.args.event c.requires
    (λ w is. not_going _ (ap is_going (sym (c.standing.ensures w is)) ∙ sym c.is_going.ensures ∙ c.if-is_going.false))

pub returns-else-is_going-clause-enabled : goal.returns-else-is_going-clause-enabled
returns-else-is_going-clause-enabled g c refused = inl refl

pub returns-else-is_going-clause-tasks : goal.returns-else-is_going-clause-tasks
returns-else-is_going-clause-tasks g c = out_same (seen_of c.args.parts.now) (seen_of c.args.parts.now) refl
